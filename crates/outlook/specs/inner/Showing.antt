-- What the memory of a search stands for, and when a search goes well. Assumes nothing.
use Rattle.std.specs.Prelude.{◌≡◌, ◌≢◌, ℕ, ◌+◌, ◌-◌, ◌*◌, ◌<◌, Bool, true, false, List, length, map, sum_by, Option, Some, None}
use Rattle.watch.specs.Letters.{letter_count}
use Rattle.watch.specs.Watchers.{Watching}
use Rattle.outlook.specs.Outlooks.{at}
use Rattle.outlook.specs.inner.Tables.{item}
use Rattle.outlook.specs.inner.Searching.{Memory, Held, on, Searching}
use Rattle.outlook.specs.inner.Searching.{Gone as IsGone}
use Rattle.outlook.specs.inner.Changes.{stop, standing}
use Rattle.outlook.specs.declared.state.State.{State}
use Rattle.outlook.specs.declared.search.Standing.TheVariants.{New, At, Gone}
use Rattle.outlook.specs.declared.search.Seat.{Seat}
use Rattle.outlook.specs.declared.search.Search.{Search}

-- One more than the place, or 0 for none.
abbrev pub upto : Option ℕ → ℕ
upto None = 0
upto (Some p) = p + 1

abbrev pub cursors : Search → List ℕ
cursors x = map (λ (s : Seat). s.cursor) x.seats

-- The search remembers m.
pub record Shows (x : Search) (m : Memory) : Type 0 where
  pub keepable : m.keepable ≡ x.keepable
  pub breakable : m.breakable ≡ x.breakable
  pub cursor : m.cursor ≡ cursors x
  pub here : m.here ≡ upto x.here
  pub depth : m.depth ≡ length x.path.items
  pub state : (j : ℕ) → j < m.depth → on m j ≡ (stop x j).state.number
  pub from : (j : ℕ) → j < m.depth → item m.resume j ≡ upto (stop x j).from
  pub groups : m.groups ≡ length x.bounds.items
  pub bounds : (i : ℕ) → i < m.groups → item m.bounds i ≡ item x.bounds.items i
  pub new : (z : ℕ) → standing x z ≡ New → at m.seen z ≡ false
  pub held : (z k : ℕ) → standing x z ≡ At k → Held m k z × (at m.seen z ≡ true)
  pub gone : (z : ℕ) → standing x z ≡ Gone → IsGone m z

-- The search goes well: what it remembers is what a search keeps.
abbrev pub Goes : Watching → List Bool → Search → Type 0
Goes w good x = (m : Memory) × Shows x m × Searching w good m

-- The state stands at the place that is looked at.
abbrev pub LookedAt : Search → State → Type 0
LookedAt x s = (p : ℕ) × (x.here ≡ Some p) × ((stop x p).state ≡ s)

-- The letters that are left, and the places to go back over.
abbrev pub todo : Watching → Search → ℕ
todo w x = sum_by (λ c. letter_count w.events - c) (cursors x) * 16385 + upto x.here

-- One step further.
pub record Stepped (w : Watching) (good : List Bool) (x y : Search) : Type 0 where
  pub goes : Goes w good y
  pub still_seen : (z : ℕ) → standing x z ≢ New → standing y z ≢ New
  pub less : todo w y < todo w x

-- Some steps further.
pub record Ran (w : Watching) (good : List Bool) (x y : Search) : Type 0 where
  pub goes : Goes w good y
  pub still_seen : (z : ℕ) → standing x z ≢ New → standing y z ≢ New
