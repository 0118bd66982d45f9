-- One mark more in the text of a set. Assumes nothing.
use Rattle.std.proofs.Common.{◌≡◌, ℕ, suc, pred, ◌≤◌, ◌+◌, ◌<◌, true, false, List, [], ◌∷◌, ◌++◌, length, codes, decimal, sym, refl, ap, ◌∙◌, append_assoc, length-append, arith}
use Rattle.std.proofs.Math.Nat.{suc-pred-eq_of_ne-zero}
use Rattle.std.proofs.lemmas.Fmt.{decimal_nonempty}
use Rattle.std.proofs.lemmas.Bool.{cond-true, cond-false}
use Rattle.watch.specs.Marks.{has}
use Rattle.watch.specs.MarkTexts.{apart, marks_upto, or_none}

-- What stands between a text and the next mark: a space, or nothing where the text is still empty.
abbrev pub gap : List ℕ → List ℕ
gap [] = []
gap (b ∷ text) = codes " "

apart-gap : (text : List ℕ) → apart text ≡ text ++ gap text
apart-gap [] = refl
apart-gap (b ∷ text) = refl

gap-full : (text : List ℕ) → 0 < length text → gap text ≡ codes " "
gap-full [] full = absurd (omega arith)
gap-full (b ∷ text) full = refl

-- A mark that is in the set comes behind the gap, and one that is not changes nothing.
module _ (set mark : ℕ) (some_mark : 1 ≤ mark) where
  is : suc (pred mark) ≡ mark
  is = suc-pred-eq_of_ne-zero (λ e. omega arith)

  pub with_mark : has mark set ≡ true → marks_upto mark set ≡ marks_upto (pred mark) set ++ (gap (marks_upto (pred mark) set) ++ decimal mark)
  with_mark has-it =
      let before : List ℕ = marks_upto (pred mark) set in
      sym (ap (λ (k : ℕ). marks_upto k set) is)
      ∙ cond-true (has (suc (pred mark)) set) _ _ (ap (λ (k : ℕ). has k set) is ∙ has-it)
      ∙ ap (λ (k : ℕ). apart before ++ decimal k) is
      ∙ ap (λ (t : List ℕ). t ++ decimal mark) (apart-gap before) ∙ append_assoc before (gap before) (decimal mark)

  pub gap_after : mark ≤ 8 → has mark set ≡ true → gap (marks_upto mark set) ≡ codes " "
  gap_after few has-it =
      let before : List ℕ = marks_upto (pred mark) set in
      let long : length (marks_upto mark set) ≡ length before + (length (gap before) + length (decimal mark)) =
      ap length (with_mark has-it) ∙ length-append before (gap before ++ decimal mark) ∙ ap (λ (n : ℕ). length before + n) (length-append (gap before) (decimal mark)) in
      gap-full (marks_upto mark set) (omega (arith, decimal_nonempty mark (omega arith)))

  pub without_mark : has mark set ≡ false → marks_upto mark set ≡ marks_upto (pred mark) set
  without_mark lacks-it =
      sym (ap (λ (k : ℕ). marks_upto k set) is) ∙ cond-false (has (suc (pred mark)) set) _ _ (ap (λ (k : ℕ). has k set) is ∙ lacks-it)

-- The loop has come past the last mark.
pub all_marks : (set mark : ℕ) → mark ≡ 9 → marks_upto (pred mark) set ≡ marks_upto 8 set
all_marks set mark e = ap (λ (k : ℕ). marks_upto (pred k) set) e

pub no_marks : (text : List ℕ) → length (gap text) ≡ 0 → text ++ codes "none" ≡ or_none text
no_marks [] e = refl
no_marks (b ∷ text) e = absurd (omega (arith, e))

pub some_marks : (text : List ℕ) → (length (gap text) ≡ 0 → ⊥) → text ≡ or_none text
some_marks [] ne = absurd (ne refl)
some_marks (b ∷ text) ne = refl
