-- Ways along the letters of a watcher: what a state reaches, and the states on which no run can rest. Assumes nothing.
use Rattle.std.specs.Prelude.{◌≡◌, ℕ, ◌<◌, Bool, true, false, List}
use Rattle.watch.specs.Letters.{letter_count}
use Rattle.watch.specs.Watchers.{Watching}
use Rattle.outlook.specs.Outlooks.{at}

-- Some letters lead from the state to one where P holds.
pub data Reaches (w : Watching) (P : ℕ → Type 0) : ℕ → Type 0 where
  here : {s : ℕ} → P s → Reaches w P s
  step : {s : ℕ} (a : ℕ) → a < letter_count w.events → Reaches w P (w.next s a) → Reaches w P s

-- Some letters, or none, lead from one state to the other.
abbrev pub Leads : Watching → ℕ → ℕ → Type 0
Leads w s t = Reaches w (λ u. u ≡ t) s

-- At least one letter leads from the state back to it.
abbrev pub Returns : Watching → ℕ → Type 0
Returns w t = (a : ℕ) × (a < letter_count w.events) × Leads w (w.next t a) t

-- What `good` says of the marks that a state shows.
abbrev pub value : Watching → List Bool → ℕ → Bool
value w good s = at good (w.shown s)

-- A run can stay at the state's marks for ever, and they have the value v.
abbrev pub Stays : Watching → List Bool → Bool → ℕ → Type 0
Stays w good v t = (t < w.states) × Returns w t × (value w good t ≡ v)

-- No endless run from the state shows the marks of the state for ever:
-- each letter shows another set, or leads to such a state again.
pub data Dies (w : Watching) : ℕ → Type 0 where
  dies : {s : ℕ} → ((a : ℕ) → a < letter_count w.events → w.shown (w.next s a) ≡ w.shown s → Dies w (w.next s a)) → Dies w s

-- What is to be known of a finished table.
pub record Known (w : Watching) (good : List Bool) (v : Bool) (table : List Bool) : Type 0 where
  pub inside : (s : ℕ) → at table s ≡ true → s < w.states
  pub sound : (s : ℕ) → at table s ≡ true → Reaches w (Stays w good v) s
  pub closed : (s a : ℕ) → s < w.states → a < letter_count w.events → at table (w.next s a) ≡ true → at table s ≡ true
  pub fades : (s : ℕ) → s < w.states → value w good s ≡ v → at table s ≡ false → Dies w s
