-- What the steps of a search change in its memory. Assumes nothing.
use Rattle.std.specs.Prelude.{◌≡◌, ℕ, ◌+◌, ◌-◌, ◌<◌, ◌≤◌, Bool, true, cond, ◌||◌, ◌⊎◌, List, [], ◌∷◌, ◌++◌, length, map, take, drop, slice_index_or, slice_set, Option, Some}
use Rattle.std.specs.Option.{option_map}
use Rattle.outlook.specs.Outlooks.{at}
use Rattle.outlook.specs.inner.Tables.{item, stop_at, In, Shared}
use Rattle.outlook.specs.declared.state.State.{State}
use Rattle.outlook.specs.declared.search.Standing.{Standing}
use Rattle.outlook.specs.declared.search.Standing.TheVariants.{New, At, Gone}
use Rattle.outlook.specs.declared.search.Seat.{Seat}
use Rattle.outlook.specs.declared.search.Stop.{Stop}
use Rattle.outlook.specs.declared.search.Search.{Search}

-- A seat that no state has taken.
abbrev pub free : Seat
free = record { standing = New; cursor = 0 }

abbrev pub seat_at : List Seat → ℕ → Seat
seat_at seats s = slice_index_or seats s free

abbrev pub stop : Search → ℕ → Stop
stop x p = stop_at x.path.items p

abbrev pub standing : Search → ℕ → Standing
standing x s = (seat_at x.seats s).standing

abbrev pub cursor : Search → ℕ → ℕ
cursor x s = (seat_at x.seats s).cursor

-- The next letter of the state is tried.
abbrev pub after_letter : Search → ℕ → Search
after_letter x s = record {
  keepable = x.keepable;
  breakable = x.breakable;
  seats = slice_set x.seats s (record { standing = standing x s; cursor = cursor x s + 1 });
  path = x.path;
  bounds = x.bounds;
  here = x.here;
}

-- The state goes on the path, in a group of its own.
abbrev pub after_push : Search → State → Search
after_push x s = record {
  keepable = x.keepable;
  breakable = x.breakable;
  seats = slice_set x.seats s.number (record { standing = At (length x.path.items); cursor = cursor x s.number });
  path = record { items = x.path.items ++ (record { state = s; from = x.here }) ∷ [] };
  bounds = record { items = x.bounds.items ++ length x.path.items ∷ [] };
  here = Some (length x.path.items);
}

-- More is known.
abbrev pub after_learning : Search → List Bool → List Bool → Search
after_learning x keepable breakable = record {
  keepable = keepable;
  breakable = breakable;
  seats = x.seats;
  path = x.path;
  bounds = x.bounds;
  here = x.here;
}

-- The state can come to rest at its own marks, which are good or not.
abbrev pub after_note : Search → ℕ → Bool → Search
after_note x s good =
    after_learning x (cond good (slice_set x.keepable s true) x.keepable) (cond good x.breakable (slice_set x.breakable s true))

-- The state can come to what the state u can come to.
abbrev pub after_absorb : Search → ℕ → ℕ → Search
after_absorb x s u =
    after_learning x (slice_set x.keepable s (at x.keepable s || at x.keepable u)) (slice_set x.breakable s (at x.breakable s || at x.breakable u))

-- The first n states of the group are gone, and nothing else changes.
pub record Dismissed (group : List Stop) (n : ℕ) (before seats : List Seat) : Type 0 where
  pub long : length seats ≡ length before
  pub cursors : map (λ (s : Seat). s.cursor) seats ≡ map (λ (s : Seat). s.cursor) before
  pub gone : (z : ℕ) → In group n z → (seat_at seats z).standing ≡ Gone
  pub others : (z : ℕ) → In group n z ⊎ ((seat_at seats z).standing ≡ (seat_at before z).standing)

-- The groups that begin after the place are joined, and nothing else changes.
pub record Joined (x : Search) (place : ℕ) (y : Search) : Type 0 where
  pub fewer : length y.bounds.items ≤ length x.bounds.items
  pub kept : y.bounds.items ≡ take (length y.bounds.items) x.bounds.items
  pub after : (i : ℕ) → length y.bounds.items ≤ i → i < length x.bounds.items → place < item x.bounds.items i
  pub same : y ≡ record { keepable = x.keepable; breakable = x.breakable; seats = x.seats; path = x.path; bounds = y.bounds; here = x.here }

-- The state at the place, if there is one.
abbrev pub parent : Search → Option ℕ → Option State
parent x place = option_map (λ p. (stop x p).state) place

-- The last group left the path, and its knowledge is shared.
pub record Left (x : Search) (first : ℕ) (y : Search) : Type 0 where
  pub keepable : Shared (drop first x.path.items) (parent x (stop x first).from) x.keepable y.keepable
  pub breakable : Shared (drop first x.path.items) (parent x (stop x first).from) x.breakable y.breakable
  pub seats : Dismissed (drop first x.path.items) (length (drop first x.path.items)) x.seats y.seats
  pub path : y.path.items ≡ take first x.path.items
  pub bounds : y.bounds.items ≡ take (length x.bounds.items - 1) x.bounds.items
  pub here : y.here ≡ (stop x first).from
