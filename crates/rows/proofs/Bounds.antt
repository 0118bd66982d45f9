-- An automaton stays within its states, and a broken one stays broken. Assumes nothing.
use Rattle.std.proofs.Common.{◌≡◌, ℕ, ◌+◌, ◌<◌, Bool, true, false, List, refl, arith}
use Rattle.std.proofs.lemmas.Bool.Decides.{nat_tests}
use Rattle.osl.specs.declared.row.Row.{Row}
use Rattle.osl.specs.declared.row.Row.TheVariants.{Until, Always, After, Within, During, Most, MostUntil, Answer, Names, Values}
use Rattle.osl.specs.declared.matched.Matched.{Matched}
use Rattle.rows.specs.Moves.{until_move, after_move, within_move, during_move, most_move, answer_move}
use Rattle.rows.specs.Stepping.{truth, number, absent, moved, broken, states}

until_below : (a b : Bool) (s : ℕ) → s < 3 → until_move a b s < 3
until_below true true s h = grind (arith, nat_tests)
until_below true false s h = grind (arith, nat_tests)
until_below false true s h = grind (arith, nat_tests)
until_below false false s h = grind (arith, nat_tests)

after_below : (n : ℕ) (a : Bool) (s : ℕ) → s < n + 3 → after_move n a s < n + 3
after_below n true s h = grind (arith, nat_tests)
after_below n false s h = grind (arith, nat_tests)

within_below : (n : ℕ) (a : Bool) (s : ℕ) → s < n + 2 → within_move n a s < n + 2
within_below n true s h = grind (arith, nat_tests)
within_below n false s h = grind (arith, nat_tests)

during_below : (n : ℕ) (a : Bool) (s : ℕ) → s < n + 2 → during_move n a s < n + 2
during_below n true s h = grind (arith, nat_tests)
during_below n false s h = grind (arith, nat_tests)

most_below : (l c : ℕ) (b : Bool) (s : ℕ) → s < l + 3 → most_move l c b s < l + 3
most_below l c true s h = grind (arith, nat_tests)
most_below l c false s h = grind (arith, nat_tests)

answer_below : (n : ℕ) (a b : Bool) (s : ℕ) → s < n + 1 → answer_move n a b s < n + 1
answer_below n true true s h = grind (arith, nat_tests)
answer_below n true false s h = grind (arith, nat_tests)
answer_below n false true s h = grind (arith, nat_tests)
answer_below n false false s h = grind (arith, nat_tests)

pub moved_below : (row : Row) (m : Matched) (ds : List ℕ) (s : ℕ) → s < states row → moved row m ds s < states row
moved_below (Until a b) m ds s h = until_below (truth a m.first ds) (truth b m.second ds) s h
moved_below (Always a) m ds s h = until_below (truth a m.first ds) false s h
moved_below (After n a) m ds s h = omega (arith, after_below n (truth a m.first ds) s (omega arith))
moved_below (Within n a) m ds s h = omega (arith, within_below n (truth a m.first ds) s (omega arith))
moved_below (During n a) m ds s h = omega (arith, during_below n (truth a m.first ds) s (omega arith))
moved_below (Most l c) m ds s h = omega (arith, most_below l (number c m.first ds) false s (omega arith))
moved_below (MostUntil l c b) m ds s h = omega (arith, most_below l (number c m.first ds) (truth b m.second ds) s (omega arith))
moved_below (Answer n a b) m ds s h = answer_below n (truth a m.first ds) (truth b m.second ds) s h
moved_below (Names p) m ds s h = until_below (absent m.first ds) false s h
moved_below (Values p) m ds s h = until_below (absent m.first ds) false s h

after_broken : (n : ℕ) (a : Bool) → after_move n a (n + 2) ≡ n + 2
after_broken n a = grind (arith, nat_tests)

within_broken : (n : ℕ) (a : Bool) → within_move n a (n + 1) ≡ n + 1
within_broken n a = grind (arith, nat_tests)

during_broken : (n : ℕ) (a : Bool) → during_move n a (n + 1) ≡ n + 1
during_broken n a = grind (arith, nat_tests)

most_broken : (l c : ℕ) (b : Bool) → most_move l c b (l + 2) ≡ l + 2
most_broken l c b = grind (arith, nat_tests)

answer_broken : (n : ℕ) (a b : Bool) → answer_move n a b n ≡ n
answer_broken n a b = grind (arith, nat_tests)

pub moved_broken : (row : Row) (m : Matched) (ds : List ℕ) → moved row m ds (broken row) ≡ broken row
moved_broken (Until a b) m ds = refl
moved_broken (Always a) m ds = refl
moved_broken (After n a) m ds = after_broken n (truth a m.first ds)
moved_broken (Within n a) m ds = within_broken n (truth a m.first ds)
moved_broken (During n a) m ds = during_broken n (truth a m.first ds)
moved_broken (Most l c) m ds = most_broken l (number c m.first ds) false
moved_broken (MostUntil l c b) m ds = most_broken l (number c m.first ds) (truth b m.second ds)
moved_broken (Answer n a b) m ds = answer_broken n (truth a m.first ds) (truth b m.second ds)
moved_broken (Names p) m ds = refl
moved_broken (Values p) m ds = refl
