use Rattle.std.proofs.Common.{◌≡◌, true, false, ap, arith}
use Rattle.watch.specs.declared.watcher.Sizes.{Sizes}
use Rattle.outlook.proofs.Steps.{foretold}
use Rattle.outlook.proofs.looking.outlook.Goals as goal

pub loop-number-init : goal.loop-number-init
loop-number-init g c =
    let b = c.begin-search.ensures in
    (b.goes (g.W.Watcher.watching c.args.watcher.now) c.args.good.now, b.idle, λ s lt. absurd (omega arith))

pub returns : goal.returns
returns g c =
    let w = g.W.Watcher.watching c.args.watcher.now in
    let law = g.met.W.Watcher.lawful c.args.watcher.now in
    let count : c.sizes-sizes.result.states ≡ w.states = ap (λ (z : Sizes). z.states) c.sizes-sizes.ensures in
    let i = c.loop-number.invariant in
    let all = foretold w law c.args.good.now c.loop-number.search i.0.0 i.0.1 i.0.2 i.1 (λ s lt. i.2 s (omega (arith, lt, count))) in
    record { keepable = all true; breakable = all false }
