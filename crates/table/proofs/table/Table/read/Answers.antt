use Rattle.std.proofs.Common.{ℕ, List, refl, ap, ◌∙◌, subst}
use Rattle.std.specs.Result.{result_ok}
use Rattle.watch.specs.Sizes.{sizes_of}
use Rattle.watch.specs.Watchers.{Lawful}
use Rattle.table.specs.Drawings.{drawn, Sized}
use Rattle.table.proofs.States.{all_lawful}
use Rattle.table.proofs.table.Table.read.Goals as goal

pub invariant_of-drop : goal.invariant_of-drop
invariant_of-drop c =
    let is = c.as_slice-list.ensures.value in
    let known = rw (c.ok_or.ensures.ok_part ∙ ap result_ok c.in_ok-sizes.was) at c.sizes_of.ensures in
    record {
      sized = known.1 ∙ ap (λ (words : List ℕ). sizes_of (drawn words)) is;
      lawful = ∣ subst (λ (words : List ℕ). Lawful (drawn words)) is (all_lawful _ known.0.head (c.is_lawful.ensures.0 c.if-not-is_lawful.false)) ∣₁;
    }

pub returns : goal.returns
returns c =
    let is = c.as_slice-list.ensures.value in
    let known = rw (c.ok_or.ensures.ok_part ∙ ap result_ok c.in_ok-sizes.was) at c.sizes_of.ensures in
    (subst Sized is known.0, subst (λ (words : List ℕ). Lawful (drawn words)) is (all_lawful _ known.0.head (c.is_lawful.ensures.0 c.if-not-is_lawful.false)), refl)
