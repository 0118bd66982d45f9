-- A search along the letters for the states that can come to rest. Assumes nothing.
use Rattle.std.specs.Prelude.{◌≡◌, ℕ, ◌+◌, ◌-◌, ◌*◌, ◌<◌, ◌≤◌, Bool, true, false, cond, ◌||◌, ◌⊎◌, List, length, sum_by, count_by, ◌≢◌, slice_set}
use Rattle.watch.specs.Letters.{letter_count}
use Rattle.watch.specs.Watchers.{Watching}
use Rattle.outlook.specs.Outlooks.{at}
use Rattle.outlook.specs.inner.Tables.{item}
use Rattle.outlook.specs.inner.Ways.{Reaches, Leads, value, Stays, Dies}

-- What a search remembers, as lists with a number for each state, or for each place and each group that there was so far.
-- Those from `depth` and from `groups` on say nothing any more. `resume` and `here` are one more than a place, or 0 for none.
pub record Memory : Type 0 where
  pub keepable : List Bool
  pub breakable : List Bool
  pub seen : List Bool
  pub cursor : List ℕ
  pub path : List ℕ
  pub place : List ℕ
  pub resume : List ℕ
  pub bounds : List ℕ
  pub depth : ℕ
  pub groups : ℕ
  pub here : ℕ

-- How many states the table has.
abbrev pub trues : List Bool → ℕ
trues table = count_by (λ b. b) table

-- The state at a place of the path.
abbrev pub on : Memory → ℕ → ℕ
on x j = item x.path j

-- The first place of a group.
abbrev pub bound : Memory → ℕ → ℕ
bound x i = item x.bounds i

-- What is known of a state for the value v.
abbrev pub known : Memory → Bool → ℕ → Bool
known x v s = at (cond v x.keepable x.breakable) s

-- The state stands at place k of the path.
abbrev pub Held : Memory → ℕ → ℕ → Type 0
Held x k s = (k < x.depth) × (on x k ≡ s)

-- The state was on the path, and left it.
abbrev pub Gone : Memory → ℕ → Type 0
Gone x s = (at x.seen s ≡ true) × ((k : ℕ) → Held x k s → ⊥)

-- The state is known to come to rest at its own marks.
abbrev pub Own : Watching → List Bool → Memory → ℕ → Type 0
Own w good x s = known x (value w good s) s ≡ true

-- Place k is in the group of place j, or in a later one.
abbrev pub Inward : Memory → ℕ → ℕ → Type 0
Inward x j k = (i : ℕ) → i < x.groups → bound x i ≤ j → bound x i ≤ k

-- Where place k is in a later group, it is the first of the next group, and was taken from place j.
abbrev pub Opens : Memory → ℕ → ℕ → Type 0
Opens x j k = (i : ℕ) → i < x.groups → bound x i ≤ k → j < bound x i → (bound x i ≡ k) × (item x.resume k ≡ j + 1)

-- What a letter that was tried at place j, where the state s stands, leads to: a state that is gone, whose knowledge s has,
-- or one at place k.
abbrev pub Went : Watching → List Bool → Memory → ℕ → ℕ → ℕ → Type 0
Went w good x j s t =
    (Gone x t × ((v : Bool) → known x v t ≡ true → known x v s ≡ true)) ⊎ ((k : ℕ) × Held x k t × Inward x j k × Opens x j k × (k ≡ j → Own w good x s))

-- No letter of the state is left.
abbrev pub Spent : Watching → Memory → ℕ → Type 0
Spent w x s = letter_count w.events ≤ item x.cursor s

pub record Sized (x : Memory) : Type 0 where
  pub keepable : length x.keepable ≡ 16384
  pub breakable : length x.breakable ≡ 16384
  pub seen : length x.seen ≡ 16384
  pub cursor : length x.cursor ≡ 16384
  pub path : length x.path ≡ 16384
  pub place : length x.place ≡ 16384
  pub resume : length x.resume ≡ 16384
  pub bounds : length x.bounds ≡ 16384

pub record Searching (w : Watching) (good : List Bool) (x : Memory) : Type 0 where
  pub sized : Sized x
  pub room : x.depth ≤ trues x.seen
  pub top : x.here ≤ x.depth
  pub empty : x.here ≡ 0 → x.depth ≡ 0
  pub within : (j : ℕ) → j < x.depth → on x j < w.states
  pub was_seen : (j : ℕ) → j < x.depth → at x.seen (on x j) ≡ true
  pub placed : (j : ℕ) → j < x.depth → item x.place (on x j) ≡ j
  -- the groups
  pub first : 0 < x.depth → (0 < x.groups) × (bound x 0 ≡ 0)
  pub rising : (i j : ℕ) → i < j → j < x.groups → bound x i < bound x j
  pub apart : (i : ℕ) → i < x.groups → i ≤ bound x i
  pub below : (i : ℕ) → i < x.groups → bound x i < x.here
  pub leads : (j k : ℕ) → j < x.depth → k < x.depth → Inward x j k → Leads w (on x j) (on x k)
  -- the ways back
  pub resume_le : (p : ℕ) → p < x.depth → item x.resume p ≤ p
  pub resume_in : (i p : ℕ) → i < x.groups → p < x.depth → bound x i < p → bound x i < item x.resume p
  pub spent : (j : ℕ) → x.here ≤ j → j < x.depth → Spent w x (on x j)
  pub passed : (p j : ℕ) → p < x.depth → item x.resume p ≤ j → j < p → Spent w x (on x j)
  -- what is known
  pub tried : (j : ℕ) → j < x.depth → (a : ℕ) → a < item x.cursor (on x j) → Went w good x j (on x j) (w.next (on x j) a)
  pub closed : (s a : ℕ) → Gone x s → a < letter_count w.events → Gone x (w.next s a) × ((v : Bool) → known x v (w.next s a) ≡ true → known x v s ≡ true)
  pub inside : (v : Bool) (s : ℕ) → known x v s ≡ true → s < w.states
  pub sound : (v : Bool) (s : ℕ) → known x v s ≡ true → Reaches w (Stays w good v) s
  pub cyclic : (j : ℕ) → j < x.depth → ((i : ℕ) → i < x.groups → bound x i ≢ j) → (k : ℕ) × (k < x.depth) × Inward x j k × Inward x k j × Own w good x (on x k)
  pub fades : (s : ℕ) → Gone x s → known x (value w good s) s ≡ false → Dies w s
  pub fresh : (s : ℕ) → at x.seen s ≡ false → item x.cursor s ≡ 0

-- The letters that are left, and the places to go back over.
abbrev pub left : Watching → Memory → ℕ
left w x = sum_by (λ c. letter_count w.events - c) x.cursor * 16385 + x.here

-- The state goes on the path, in a group of its own.
abbrev pub pushed : Memory → ℕ → Memory
pushed x s = record {
  keepable = x.keepable;
  breakable = x.breakable;
  seen = slice_set x.seen s true;
  cursor = x.cursor;
  path = slice_set x.path x.depth s;
  place = slice_set x.place s x.depth;
  resume = slice_set x.resume x.depth x.here;
  bounds = slice_set x.bounds x.groups x.depth;
  depth = x.depth + 1;
  groups = x.groups + 1;
  here = x.depth + 1;
}

-- The next letter of the state is n.
abbrev pub moved : Memory → ℕ → ℕ → Memory
moved x s n = record {
  keepable = x.keepable;
  breakable = x.breakable;
  seen = x.seen;
  cursor = slice_set x.cursor s n;
  path = x.path;
  place = x.place;
  resume = x.resume;
  bounds = x.bounds;
  depth = x.depth;
  groups = x.groups;
  here = x.here;
}

abbrev pub advanced : Memory → ℕ → Memory
advanced x s = moved x s (item x.cursor s + 1)

-- More is known.
abbrev pub learned : Memory → List Bool → List Bool → Memory
learned x keepable breakable = record {
  keepable = keepable;
  breakable = breakable;
  seen = x.seen;
  cursor = x.cursor;
  path = x.path;
  place = x.place;
  resume = x.resume;
  bounds = x.bounds;
  depth = x.depth;
  groups = x.groups;
  here = x.here;
}

-- The state can come to rest at its own marks, which are good or not.
abbrev pub noted : Memory → ℕ → Bool → Memory
noted x s good = learned x (cond good (slice_set x.keepable s true) x.keepable) (cond good x.breakable (slice_set x.breakable s true))

-- The state can come to what the state u can come to.
abbrev pub absorbed : Memory → ℕ → ℕ → Memory
absorbed x s u = learned x (slice_set x.keepable s (at x.keepable s || at x.keepable u)) (slice_set x.breakable s (at x.breakable s || at x.breakable u))

-- The path has d states in g groups, and the place before h is looked at.
abbrev pub stood : Memory → ℕ → ℕ → ℕ → Memory
stood x d g h = record {
  keepable = x.keepable;
  breakable = x.breakable;
  seen = x.seen;
  cursor = x.cursor;
  path = x.path;
  place = x.place;
  resume = x.resume;
  bounds = x.bounds;
  depth = d;
  groups = g;
  here = h;
}

-- What the group from the place p on knows is known of all its states, and of the one that it was taken from, and of no other.
pub record Handed (x : Memory) (p : ℕ) (keepable breakable : List Bool) : Type 0 where
  pub long_keepable : length keepable ≡ length x.keepable
  pub long_breakable : length breakable ≡ length x.breakable
  pub kept : (v : Bool) (z : ℕ) → known x v z ≡ true → known (learned x keepable breakable) v z ≡ true
  pub only : (v : Bool) (z : ℕ) → known (learned x keepable breakable) v z ≡ true → (known x v z ≡ true) ⊎ (((k : ℕ) × (p ≤ k) × (k < x.depth) × (known x v (on x k) ≡ true)) × ((k : ℕ) × Held x k z))
  pub even : (v : Bool) (j k : ℕ) → p ≤ j → j < x.depth → p ≤ k → k < x.depth → known (learned x keepable breakable) v (on x j) ≡ true → known (learned x keepable breakable) v (on x k) ≡ true
  pub told : (v : Bool) (q : ℕ) → item x.resume p ≡ q + 1 → known (learned x keepable breakable) v (on x p) ≡ true → known (learned x keepable breakable) v (on x q) ≡ true

-- One step further.
pub record Onward (w : Watching) (good : List Bool) (x y : Memory) : Type 0 where
  pub goes : Searching w good y
  pub still_seen : (z : ℕ) → at x.seen z ≡ true → at y.seen z ≡ true
  pub less : left w y < left w x
