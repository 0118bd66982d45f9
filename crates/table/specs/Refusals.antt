-- The numbers of the refusals, and how they are printed. Assumes nothing.
use Rattle.std.specs.Prelude.{ℕ, List, codes}
use Rattle.table.specs.declared.refusal.Refusal.{Refusal}
use Rattle.table.specs.declared.refusal.Refusal.TheVariants.{Sizes, Laws}

abbrev pub refusal_number : Refusal → ℕ
refusal_number Sizes = 30
refusal_number Laws = 31

abbrev pub refusal_text : Refusal → List ℕ
refusal_text Sizes = codes "refused 30: the sizes are not lawful, or the list has another length"
refusal_text Laws = codes "refused 31: the table does not show what a watcher must"
