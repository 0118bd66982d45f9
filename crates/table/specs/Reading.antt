-- What reading a list into a table answers, and what the table then is. Assumes nothing.
use Rattle.std.specs.Prelude.{◌≡◌, ℕ, List, Ok, Err, vec_items, Result}
use Rattle.watch.specs.Watchers.{Lawful}
use Rattle.table.specs.Drawings.{drawn, Sized}
use Rattle.table.specs.declared.refusal.Refusal.{Refusal}
use Rattle.table.specs.declared.refusal.Refusal.TheVariants.{Sizes, Laws}
use Rattle.table.specs.declared.table.Table.{Table}

-- The question that the list fails.
abbrev pub Fails : List ℕ → Refusal → Type 0
Fails words Sizes = Sized words → ⊥
Fails words Laws = Sized words × (Lawful (drawn words) → ⊥)

-- Either the list draws a lawful watcher, and the table then has exactly this list; or the list fails the question that
-- is answered, and the table is as it was.
abbrev pub Reads : List ℕ → Table → Result (Unit {0}) Refusal → Table → Type 0
Reads words before (Ok done) after = Sized words × Lawful (drawn words) × (vec_items after.words ≡ words)
Reads words before (Err refusal) after = Fails words refusal × (after ≡ before)
