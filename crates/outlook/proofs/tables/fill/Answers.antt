use Rattle.std.proofs.Common.{ℕ, ◌+◌, true, set, sym, ◌∙◌, subst, arith}
use Rattle.outlook.specs.inner.Tables.{stop_at, Filled}
use Rattle.outlook.proofs.Sharing.{filled_none, filled_more, stop_read}
use Rattle.outlook.proofs.tables.fill.Goals as goal

pub loop-stop-init : goal.loop-stop-init
loop-stop-init c = filled_none c.args.group.now c.args.table.now

pub loop-stop-preserved : goal.loop-stop-preserved
loop-stop-preserved c =
    let i = c.loop-stop.stop-index in
    let t = c.loop-stop.table in
    let group = c.args.group.now in
    let here = stop_read group i c.stop-item.result c.loop-stop-test.true c.stop-item.is ∙ sym c.from.ensures in
    subst (λ (s : ℕ). Filled group (i + 1) c.args.table.now (set t s true)) here (filled_more group c.args.table.now i t (omega (arith, (stop_at group i).state.within, c.loop-stop.invariant.long, c.told-table)) c.loop-stop.invariant)
