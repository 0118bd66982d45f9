-- Reading words in prefix order undoes writing them. Assumes nothing.
use Rattle.std.proofs.Common.{◌≡◌, ℕ, zero, suc, ◌+◌, true, false, List, [], ◌∷◌, ◌++◌, length, drop, ◌<◌, sym, refl, ap, ◌∙◌, append_assoc, append-nil, zero-add, arith}
use Rattle.std.proofs.lemmas.Bool.{eqb-true, both_ways}
use Rattle.std.proofs.lemmas.List.{at_drop_more}
use Rattle.expression.specs.Formulas.{Formula, term, not, and, or, implies}
use Rattle.expression.specs.Writing.{written}
use Rattle.expression.specs.inner.Parsing.{first, before, parsed, operands, whole}
use Rattle.expression.specs.declared.token.Token.{Token}
use Rattle.expression.specs.declared.token.Token.TheVariants.{And, Or, Implies, Not, Term}

two_parsed : (f g : Formula) (rest : List Token) → parsed (written f ++ (written g ++ rest)) ≡ f ∷ parsed (written g ++ rest) → parsed (written g ++ rest) ≡ g ∷ parsed rest → parsed ((written f ++ written g) ++ rest) ≡ f ∷ (g ∷ parsed rest)
two_parsed f g rest a b =
    ap parsed (append_assoc (written f) (written g) rest) ∙ (a ∙ ap {B = List Formula} (λ (fs : List Formula). f ∷ fs) b)

-- The words of a formula are read as that formula.
pub parsed_written : (f : Formula) (rest : List Token) → parsed (written f ++ rest) ≡ f ∷ parsed rest
parsed_written (term i) rest = refl
parsed_written (not f) rest = ap (before Not) (parsed_written f rest)
parsed_written (and f g) rest = ap (before And) (two_parsed f g rest (parsed_written f (written g ++ rest)) (parsed_written g rest))
parsed_written (or f g) rest = ap (before Or) (two_parsed f g rest (parsed_written f (written g ++ rest)) (parsed_written g rest))
parsed_written (implies f g) rest = ap (before Implies) (two_parsed f g rest (parsed_written f (written g ++ rest)) (parsed_written g rest))

pub first_written : (f : Formula) → first (parsed (written f)) ≡ f
first_written f = ap (λ (ts : List Token). first (parsed ts)) (sym (append-nil (written f))) ∙ ap first (parsed_written f [])

-- Words begin with the words of one formula at most.
pub one_formula : (f g : Formula) (r s : List Token) → written f ++ r ≡ written g ++ s → f ≡ g
one_formula f g r s e = let both : f ∷ parsed r ≡ g ∷ parsed s = sym (parsed_written f r) ∙ (ap parsed e ∙ parsed_written g s) in cc

-- The words of some formulas, one after another.
abbrev pub all_written : List Formula → List Token
all_written [] = []
all_written (f ∷ more) = written f ++ all_written more

-- A word takes its operands from the formulas that follow.
before_written : (t : Token) (n : ℕ) (fs : List Formula) → length fs ≡ operands t + n → (t ∷ all_written fs ≡ all_written (before t fs)) × (length (before t fs) ≡ suc n)
before_written And n [] e = absurd (omega arith)
before_written And n (f ∷ []) e = absurd (omega arith)
before_written And n (f ∷ (g ∷ fs)) e = (ap {B = List Token} (λ (ts : List Token). And ∷ ts) (sym (append_assoc (written f) (written g) (all_written fs))), omega arith)
before_written Or n [] e = absurd (omega arith)
before_written Or n (f ∷ []) e = absurd (omega arith)
before_written Or n (f ∷ (g ∷ fs)) e = (ap {B = List Token} (λ (ts : List Token). Or ∷ ts) (sym (append_assoc (written f) (written g) (all_written fs))), omega arith)
before_written Implies n [] e = absurd (omega arith)
before_written Implies n (f ∷ []) e = absurd (omega arith)
before_written Implies n (f ∷ (g ∷ fs)) e = (ap {B = List Token} (λ (ts : List Token). Implies ∷ ts) (sym (append_assoc (written f) (written g) (all_written fs))), omega arith)
before_written Not n [] e = absurd (omega arith)
before_written Not n (f ∷ fs) e = (refl, omega arith)
before_written (Term i) n fs e = (refl, omega arith)

-- Whole words are the words of what is read from them.
whole_written : (n : ℕ) (ts : List Token) → whole n ts ≡ true → (ts ≡ all_written (parsed ts)) × (length (parsed ts) ≡ n)
whole_written n [] e = (refl, sym (eqb-true n 0 e))
whole_written zero (t ∷ ts) e = absurd (both_ways false refl e)
whole_written (suc n) (t ∷ ts) e =
    let more = whole_written (operands t + n) ts e in
    let this = before_written t n (parsed ts) more.1 in
    (ap {B = List Token} (λ (us : List Token). t ∷ us) more.0 ∙ this.0, this.1)

one_written : (ts : List Token) (fs : List Formula) → ts ≡ all_written fs → length fs ≡ 1 → ts ≡ written (first fs)
one_written ts [] e one = absurd (omega arith)
one_written ts (f ∷ []) e one = e ∙ append-nil (written f)
one_written ts (f ∷ (g ∷ fs)) e one = absurd (omega arith)

-- The words of one expression are the words of its formula.
pub whole_one : (ts : List Token) → whole 1 ts ≡ true → ts ≡ written (first (parsed ts))
whole_one ts e = let x = whole_written 1 ts e in one_written ts (parsed ts) x.0 x.1

two_whole : (f g : Formula) (n : ℕ) (rest : List Token) → whole (suc (suc n)) (written f ++ (written g ++ rest)) ≡ whole (suc n) (written g ++ rest) → whole (suc n) (written g ++ rest) ≡ whole n rest → whole (2 + n) ((written f ++ written g) ++ rest) ≡ whole n rest
two_whole f g n rest a b =
    ap (whole (2 + n)) (append_assoc (written f) (written g) rest) ∙ (ap (λ (k : ℕ). whole k (written f ++ (written g ++ rest))) (let e : 2 + n ≡ suc (suc n) = omega arith in e) ∙ (a ∙ b))

written_whole : (f : Formula) (n : ℕ) (rest : List Token) → whole (suc n) (written f ++ rest) ≡ whole n rest
written_whole (term i) n rest = ap (λ (k : ℕ). whole k rest) (zero-add n)
written_whole (not f) n rest = ap (λ (k : ℕ). whole k (written f ++ rest)) (let e : 1 + n ≡ suc n = omega arith in e) ∙ written_whole f n rest
written_whole (and f g) n rest = two_whole f g n rest (written_whole f (suc n) (written g ++ rest)) (written_whole g n rest)
written_whole (or f g) n rest = two_whole f g n rest (written_whole f (suc n) (written g ++ rest)) (written_whole g n rest)
written_whole (implies f g) n rest = two_whole f g n rest (written_whole f (suc n) (written g ++ rest)) (written_whole g n rest)

-- The words of a formula are one whole expression.
pub written_one : (f : Formula) (ts : List Token) → ts ≡ written f → whole 1 ts ≡ true
written_one f ts e = ap (whole 1) (e ∙ sym (append-nil (written f))) ∙ written_whole f 0 []

-- No word stands where no expression is wanted.
pub none_wanted : (n : ℕ) (ts : List Token) (i : ℕ) → n ≡ 0 → i < length ts → whole n (drop i ts) ≡ false
none_wanted n ts i e lt = ap (λ (k : ℕ). whole k (drop i ts)) e ∙ at_drop_more (whole 0) ts i And lt
