-- Values and truth. Assumes nothing.
use Rattle.std.proofs.Common.{ℕ, Bool, ◌||◌, ◌⊎◌, Decides, inl, inr, ⊎_elim}
use mathlib.Core.Bool as bool
use Rattle.std.proofs.lemmas.Bool.{cases_Bool}
use Rattle.std.proofs.lemmas.Bool.Decides.{Decides-not, Decides-and, Decides-or, Decides-like, not_from_Decides}
use Rattle.watch.specs.Marks.{Has, has}
use Rattle.watch.proofs.Bits.{has_true, has_from}
use Rattle.watch.specs.Classical.{Either}
use Rattle.expression.specs.Formulas.{Formula, term, not, and, or, implies, TrueOf}
use Rattle.expression.specs.Values.{eval}

-- Facts that a test decides: the classical "or" and "implies" of two such facts are the constructive ones.
either_from : (P Q : Type 0) → P ⊎ Q → Either P Q
either_from P Q (inl p) a b = a p
either_from P Q (inr q) a b = b q

settled : {P : Type 0} (x : Bool) → Decides x P → P ⊎ (P → ⊥)
settled x d = ⊎_elim (λ e. inl (d.0 e)) (λ e. inr (not_from_Decides x d e)) (cases_Bool x)

from_either : (P Q : Type 0) → P ⊎ (P → ⊥) → Q ⊎ (Q → ⊥) → Either P Q → P ⊎ Q
from_either P Q (inl p) y e = inl p
from_either P Q (inr n) (inl q) e = inr q
from_either P Q (inr n) (inr m) e = absurd (e n m)

to_implies : (P Q : Type 0) → (P → ⊥) ⊎ Q → P → Q
to_implies P Q (inl n) p = absurd (n p)
to_implies P Q (inr q) p = q

from_implies : (P Q : Type 0) → P ⊎ (P → ⊥) → (P → Q) → (P → ⊥) ⊎ Q
from_implies P Q (inl p) k = inr (k p)
from_implies P Q (inr n) k = inl n

-- Term i holds where mark i is not in the set.
abbrev Unmarked : ℕ → ℕ → Type 0
Unmarked set i = Has i set → ⊥

-- The value of a formula is true exactly where the formula is.
pub decides_truth : (set : ℕ) (f : Formula) → Decides (eval f set) (TrueOf (Unmarked set) f)
decides_truth set (term i) = Decides-not (has i set) (has_true i set, has_from i set)
decides_truth set (not f) = Decides-not (eval f set) (decides_truth set f)
decides_truth set (and f g) = Decides-and (eval f set) (eval g set) (decides_truth set f) (decides_truth set g)
decides_truth set (or f g) =
    let P : Type 0 = TrueOf (Unmarked set) f in
    let Q : Type 0 = TrueOf (Unmarked set) g in
    let p = decides_truth set f in
    let q = decides_truth set g in
    Decides-like (eval f set || eval g set) (either_from P Q) (from_either P Q (settled (eval f set) p) (settled (eval g set) q)) (Decides-or (eval f set) (eval g set) p q)
decides_truth set (implies f g) =
    let P : Type 0 = TrueOf (Unmarked set) f in
    let Q : Type 0 = TrueOf (Unmarked set) g in
    let p = decides_truth set f in
    Decides-like (bool.not (eval f set) || eval g set) (to_implies P Q) (from_implies P Q (settled (eval f set) p)) (Decides-or (bool.not (eval f set)) (eval g set) (Decides-not (eval f set) p) (decides_truth set g))
