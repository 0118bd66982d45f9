-- What some states share in a table. Assumes nothing.
use Rattle.std.specs.Prelude.{◌≡◌, ℕ, ◌<◌, Bool, true, ◌⊎◌, List, length, slice_index, slice_index_or, Option, Some, None}
use Rattle.std.proofs.Common.{lit<}
use Rattle.outlook.specs.Outlooks.{at}
use Rattle.outlook.specs.declared.state.State.{State}
use Rattle.outlook.specs.declared.search.Stop.{Stop}

abbrev pub item : List ℕ → ℕ → ℕ
item xs k = slice_index xs k

-- What is read beyond the end of a list.
abbrev pub no_stop : Stop
no_stop = record { state = record { number = 0; within = lit< tt }; from = None }

abbrev pub stop_at : List Stop → ℕ → Stop
stop_at stops k = slice_index_or stops k no_stop

abbrev pub state_at : List Stop → ℕ → ℕ
state_at stops k = (stop_at stops k).state.number

-- The state stands at one of the first n places of the group.
abbrev pub In : List Stop → ℕ → ℕ → Type 0
In group n z = (k : ℕ) × (k < n) × (state_at group k ≡ z)

-- The first n states of the group are put into a table.
pub record Filled (group : List Stop) (n : ℕ) (before table : List Bool) : Type 0 where
  pub long : length table ≡ length before
  pub kept : (z : ℕ) → at before z ≡ true → at table z ≡ true
  pub put : (k : ℕ) → k < n → at table (state_at group k) ≡ true
  pub only : (z : ℕ) → at table z ≡ true → (at before z ≡ true) ⊎ In group n z

-- One of the group was in the table.
abbrev pub SomeIn : List Stop → List Bool → Type 0
SomeIn group before = (k : ℕ) × (k < length group) × (at before (state_at group k) ≡ true)

-- All of the group are in the table or none is, and the state that it was reached from is where they are.
pub record Shared (group : List Stop) (parent : Option State) (before table : List Bool) : Type 0 where
  pub long : length table ≡ length before
  pub kept : (z : ℕ) → at before z ≡ true → at table z ≡ true
  pub only : (z : ℕ) → at table z ≡ true → (at before z ≡ true) ⊎ (SomeIn group before × (In group (length group) z ⊎ ((q : State) × (parent ≡ Some q) × (q.number ≡ z))))
  pub even : (j k : ℕ) → j < length group → k < length group → at table (state_at group j) ≡ true → at table (state_at group k) ≡ true
  pub told : (k : ℕ) (q : State) → k < length group → parent ≡ Some q → at table (state_at group k) ≡ true → at table q.number ≡ true
