use Rattle.std.proofs.Common.{ℕ, ◌+◌, set, sym, ◌∙◌, subst, arith}
use Rattle.outlook.specs.inner.Tables.{stop_at}
use Rattle.outlook.specs.inner.Changes.{seat_at, Dismissed}
use Rattle.outlook.specs.declared.search.Standing.TheVariants.{Gone}
use Rattle.outlook.proofs.Dismissing.{dismissed_more}
use Rattle.outlook.proofs.Sharing.{stop_read}
use Rattle.outlook.proofs.search.dismiss.Goals as goal

pub loop-stop-preserved : goal.loop-stop-preserved
loop-stop-preserved c =
    let i = c.loop-stop.stop-index in
    let seats = c.loop-stop.seats in
    let group = c.args.group.now in
    let here = stop_read group i c.stop-item.result c.loop-stop-test.true c.stop-item.is ∙ sym c.from.ensures in
    subst (λ (s : ℕ). Dismissed group (i + 1) c.args.seats.now (set seats s (record { standing = Gone; cursor = (seat_at seats s).cursor }))) here (dismissed_more group c.args.seats.now i seats (omega (arith, (stop_at group i).state.within, c.loop-stop.invariant.long, c.told-seats)) c.loop-stop.invariant)
