use Rattle.std.proofs.Common.{◌≡◌, ℕ, List, length, get_or, take, ap, subst, arith}
use Rattle.std.proofs.lemmas.List.{length-take-le, get_or-take}
use Rattle.watch.specs.Following.{Within}
use Rattle.watch.specs.declared.watcher.Sizes.{Sizes}
use Rattle.watch.proofs.Walking.{step, finish, no_mark_holds}
use Rattle.watch.proofs.following.follow.Goals as goal

pub returns-in-Some-clause-others : goal.returns-in-Some-clause-others
returns-in-Some-clause-others g c = no_mark_holds _ (g.met.W.Watcher.lawful c.args.watcher.now)

-- The letter is the one at this place, taken from the loop or by index.
pub loop-place-preserved : goal.loop-place-preserved
loop-place-preserved g c =
    let w = g.W.Watcher.watching c.args.watcher.now in
    let letters : List ℕ = c.args.letters.now in
    let n : ℕ = c.min-count.result in
    let all : length (take n letters) ≡ n = length-take-le n letters (omega (arith, c.min-count.ensures)) in
    let there : get_or (take n letters) c.loop-place.place 0 ≡ get_or letters c.loop-place.place 0 = get_or-take n letters c.loop-place.place 0 (omega arith) in
    let stepped : c.next-state.result ≡ w.next c.loop-place.state (get_or letters c.loop-place.place 0) = omega (arith, c.next-state.ensures, ap (w.next c.loop-place.state) there) in
    step w letters c.args.stands.now c.loop-place.stands
    c.loop-place.place c.loop-place.state c.next-state.result c.shown.result stepped c.shown.ensures
    (omega (arith, c.min-count.ensures)) (omega (arith, c.min-count.ensures)) c.loop-place.invariant

pub returns-clause-followed : goal.returns-clause-followed
returns-clause-followed g c =
    let w = g.W.Watcher.watching c.args.watcher.now in
    let letters = c.args.letters.now in
    let within = subst (λ (n : ℕ). Within n letters (length letters)) (ap (λ (s : Sizes). s.letters) c.sizes.ensures) c.in_default.ensures in
    (within, finish w letters c.args.stands.now c.loop-place.stands c.loop-place.place c.loop-place.state c.shown-2.result (g.met.W.Watcher.lawful c.args.watcher.now) within (omega (arith, c.min-count.ensures, length-take-le c.min-count.result letters (omega (arith, c.min-count.ensures)))) c.shown-2.ensures c.loop-place.invariant)

pub returns-clause-others : goal.returns-clause-others
returns-clause-others g c = no_mark_holds _ (g.met.W.Watcher.lawful c.args.watcher.now)
