-- Lines that are one whole expression, and expressions with the same line. Assumes nothing.
use Rattle.std.proofs.Common.{◌≡◌, ℕ, ◌≤◌, true, false, ◌&&◌, leb, List, [], map, length, sym, ap, ◌∙◌, subst, append-nil}
use mathlib.Core.HLevel.{is_prop→PathP}
use mathlib.Core.Bool.{Bool-set}
use Rattle.std.specs.List.{list_all}
use Rattle.std.proofs.lemmas.List.Splits.{join_with_byte-slice_split}
use Rattle.std.proofs.lemmas.Bool.{and_parts, leb-true, both_ways}
use Rattle.text.specs.Words.{words, joined}
use Rattle.text.specs.Lines.{unended, Ends}
use Rattle.text.specs.Clean.{clean}
use Rattle.expression.specs.Formulas.{Formula}
use Rattle.expression.specs.Writing.{written, spelled, writing, in_range, most_words, Fits}
use Rattle.expression.specs.Expressions.{formula}
use Rattle.expression.specs.inner.Parsing.{first, parsed, whole}
use Rattle.expression.specs.inner.Formed.{formed}
use Rattle.expression.specs.inner.Drafts.{Drafting}
use Rattle.expression.specs.declared.token.Token.{Token}
use Rattle.expression.specs.declared.expression.Expression.{Expression}
use Rattle.expression.proofs.Parsing.{whole_one, written_one}
use Rattle.expression.proofs.Spelling.{same_words, words_writing, clean_writing, line_writing}

module _ (line : List ℕ) (tokens : List Token) (d : Drafting (words line) tokens []) where
  spells : map spelled tokens ≡ words line
  spells = sym (append-nil (map spelled tokens)) ∙ d.spells

  -- A formula that the line writes has the words that were read.
  its_words : (f : Formula) → Fits f → line ≡ writing f → tokens ≡ written f
  its_words f fits e = same_words tokens (written f) d.ranged fits.1 (spells ∙ (ap words e ∙ words_writing f fits.1))

  pub not_whole : whole 1 tokens ≡ false → (f : Formula) → Fits f → line ≡ writing f → ⊥
  not_whole less f fits e = both_ways _ less (written_one f tokens (its_words f fits e))

  pub line_of : whole 1 tokens ≡ true → line ≡ writing (first (parsed tokens))
  line_of one =
      sym (join_with_byte-slice_split 32 line)
      ∙ (ap joined (sym spells) ∙ ap (λ (ts : List Token). joined (map spelled ts)) (whole_one tokens one))

-- The words of an expression are those of its formula, which therefore fits.
module _ (e : Expression) where
  ranged : ((leb (length e.words) most_words && whole 1 e.words) ≡ true) × (list_all in_range e.words ≡ true)
  ranged = and_parts (leb (length e.words) most_words && whole 1 e.words) (list_all in_range e.words) e.ok

  one : (leb (length e.words) most_words ≡ true) × (whole 1 e.words ≡ true)
  one = and_parts (leb (length e.words) most_words) (whole 1 e.words) ranged.0

  pub its_writing : e.words ≡ written (formula e)
  its_writing = whole_one e.words one.1

  pub fits : Fits (formula e)
  fits =
      (subst (λ (ts : List Token). length ts ≤ most_words) its_writing (leb-true (length e.words) most_words one.0), ap (list_all in_range) (sym its_writing) ∙ ranged.1)

-- Expressions with the same words are the same.
same_fields : (d e : Expression) → d.words ≡ e.words → d ≡ e
same_fields d e p = λ i. record { words = p i; ok = is_prop→PathP (λ j. formed (p j) ≡ true) (λ j. Bool-set (formed (p j)) true) d.ok e.ok i }

-- A line writes one expression at most.
pub one_expression : (d e : Expression) → writing (formula d) ≡ writing (formula e) → d ≡ e
one_expression d e h =
    let ts = written (formula d) in
    let us = written (formula e) in
    let names : map spelled ts ≡ map spelled us = sym (words_writing (formula d) (fits d).1) ∙ (ap words h ∙ words_writing (formula e) (fits e).1) in
    let same : ts ≡ us = same_words ts us (fits d).1 (fits e).1 names in
    same_fields d e (its_writing d ∙ (same ∙ sym (its_writing e)))

pub clean_text : (e : Expression) (text : List ℕ) → Ends (writing (formula e)) text → clean (unended text) ≡ true
clean_text e text h = ap clean (line_writing (formula e) (fits e).1 text h) ∙ clean_writing (formula e) (fits e).1

pub line_text : (e : Expression) (text : List ℕ) → Ends (writing (formula e)) text → unended text ≡ writing (formula e)
line_text e text h = line_writing (formula e) (fits e).1 text h
