-- How the code asks whether one set of marks lies within another, and so whether a letter is lawful. Assumes nothing.
use Rattle.std.proofs.Common.{◌≡◌, ℕ, ◌<◌, eqb, Decides, ap, ◌∙◌, subst}
use lib.Bits.{bit_and}
use Rattle.std.proofs.lemmas.Bool.{eqb-true, eq-eqb}
use Rattle.watch.specs.Marks.{Has}
use Rattle.watch.specs.Watchers.{Watching}
use Rattle.watch.proofs.Subsets.{subset_and, and_subset}
use Rattle.table.specs.Drawings.{LetterLawful}

pub subset_test : (x y : ℕ) → Decides (eqb (bit_and x y) x) ((i : ℕ) → Has i x → Has i y)
subset_test x y = (λ e. and_subset x y (eqb-true _ _ e), λ h. eq-eqb _ _ (subset_and x y h))

pub letter_test : (w : Watching) (s a next set after : ℕ) → next ≡ w.next s a → set ≡ w.shown s → after ≡ w.shown next
    → next < w.states → Decides (eqb (bit_and set after) set) (LetterLawful w s a)
letter_test w s a next set after is-next is_set is-after inside =
    let there : after ≡ w.shown (w.next s a) = is-after ∙ ap w.shown is-next in
    let test : Decides (eqb (bit_and set after) set) ((i : ℕ) → Has i (w.shown s) → Has i (w.shown (w.next s a))) =
    subst (λ (x : ℕ). Decides (eqb (bit_and set after) set) ((i : ℕ) → Has i x → Has i (w.shown (w.next s a)))) is_set
    (subst (λ (y : ℕ). Decides (eqb (bit_and set after) set) ((i : ℕ) → Has i set → Has i y)) there (subset_test set after)) in
    (λ e. (subst (λ (t : ℕ). t < w.states) is-next inside, test.0 e), λ h. test.1 h.1)
