-- Watchers over five events that are computed by a formula. Assumes nothing.
use Rattle.std.specs.Prelude.{ℕ, ◌+◌, ◌-◌, ◌*◌, ◌%◌, Bool, false, cond, ◌&&◌, ◌||◌, ◌==◌, nat_le, nat_lt}
use Rattle.watch.specs.Watchers.{Watching}
use Rattle.bench_monitor.specs.declared.shape.Shape.{Shape}
use Rattle.bench_monitor.specs.declared.shape.Shape.TheVariants.{Up, Down, Round, Back, Mixed, Late}

-- One towards the last state.
abbrev pub risen : ℕ → ℕ → ℕ
risen s last = cond (nat_lt s last) (s + 1) s

abbrev pub mix : ℕ → ℕ → ℕ → ℕ
mix s a n = (s * 7 + a * 13 + 1) % n

-- Where a letter leads from a state of n.
abbrev pub onward : Shape → ℕ → ℕ → ℕ → ℕ
onward Up n s a = risen s (n - 1)
onward Down n s a = s - 1
onward Round n s a = cond (s == n - 1) 0 (s + 1)
onward Back n s a = cond (a == 242 && nat_lt s (n - 1)) (s - 1) (risen s (n - 1))
onward Mixed n s a = mix s a n
onward Late n s a = cond (s == n - 1 || (a == 242 && nat_le (n - 1) (s + 2))) (risen s (n - 1)) (mix s a (n - 2))

-- The state stays, whatever comes.
abbrev pub resting : Shape → ℕ → ℕ → Bool
resting Up n s = s == n - 1
resting Down n s = s == 0
resting Round n s = false
resting Back n s = s == n - 1
resting Mixed n s = false
resting Late n s = s == n - 1

abbrev pub computed : Shape → ℕ → Watching
computed shape n = record {
  states = n;
  events = 5;
  marks = 1;
  start = 0;
  next = λ s a. cond (nat_lt s n && nat_lt a 243) (onward shape n s a) 0;
  shown = λ s. cond (nat_lt s n && resting shape n s) 1 0;
}
