-- The moves of the row automata, on what the tests and the count of a row are in one step. The states below a limit count. A state at
-- or above the limit, kept or broken, is never left. Assumes nothing.
use Rattle.std.specs.Prelude.{ℕ, zero, suc, ◌+◌, Bool, cond, ◌≢◌, nat_le, nat_lt}

-- until: 0 waits, 1 is kept, 2 is broken
abbrev pub until_move : Bool → Bool → ℕ → ℕ
until_move a b s = cond (nat_lt s 1) (cond b 1 (cond a 0 2)) s

-- after n: the state is the number of steps so far, up to n; n + 1 is kept, n + 2 is broken
abbrev pub after_move : ℕ → Bool → ℕ → ℕ
after_move n a s = cond (nat_lt s (n + 1)) (cond (nat_lt s n) (s + 1) (cond a (n + 1) (n + 2))) s

-- within n: the state is the number of steps so far, below n; n is kept, n + 1 is broken
abbrev pub within_move : ℕ → Bool → ℕ → ℕ
within_move n a s = cond (nat_lt s n) (cond a n (cond (nat_lt (s + 1) n) (s + 1) (n + 1))) s

-- during n: the state is the number of steps so far, below n; n is kept, n + 1 is broken
abbrev pub during_move : ℕ → Bool → ℕ → ℕ
during_move n a s = cond (nat_lt s n) (cond a (s + 1) (n + 1)) s

-- at most l until b: the state is the sum so far, up to l; l + 1 is kept, l + 2 is broken
abbrev pub most_move : ℕ → ℕ → Bool → ℕ → ℕ
most_move l c b s = cond (nat_lt s (l + 1)) (cond (nat_le (s + c) l) (cond b (l + 1) (s + c)) (l + 2)) s

-- answer n: the state is the number of steps that the oldest unanswered a has used, below n; n is broken
abbrev pub answer_move : ℕ → Bool → Bool → ℕ → ℕ
answer_move n a b s = cond (nat_lt s n) (cond b 0 (cond a (s + 1) (cond (nat_lt 0 s) (s + 1) 0))) s

-- the state after k steps, by a move for each step
abbrev pub path : (ℕ → ℕ → ℕ) → ℕ → ℕ
path move zero = 0
path move (suc k) = move k (path move k)

-- a state is never reached
abbrev pub Never : (ℕ → ℕ → ℕ) → ℕ → Type 0
Never move x = (k : ℕ) → path move k ≢ x
