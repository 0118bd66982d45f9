use Rattle.std.proofs.Common.{◌≡◌, ◌&&◌, get_or, None, false, cond, arith}
use Rattle.std.proofs.Math.ListN.{get_or-map}
use Rattle.std.proofs.lemmas.List.{length-map}
use Rattle.watch.specs.Steps.{digit_of, step_digits}
use Rattle.rows.specs.Stepping.{means}
use Rattle.rows.proofs.Tallies.{tally_more}
use Rattle.rows.proofs.counting.count.Goals as goal

pub loop-event-preserved : goal.loop-event-preserved
loop-event-preserved c =
    let kinds = c.args.step.now.kinds in
    let digit = get_or-map digit_of kinds c.loop-event.event None in
    let long = length-map kinds digit_of in
    let step = tally_more c.args.doing c.args.set.now.flags (step_digits c.args.step.now) c.loop-event.event (omega arith) (omega (arith, long)) in
    let one : c.from-total.result ≡ cond (get_or c.args.set.now.flags c.loop-event.event false && means c.args.doing (get_or (step_digits c.args.step.now) c.loop-event.event 0)) 1 0 = rw digit (grind arith) in
    (omega (arith, step, one, c.loop-event.invariant.0), grind arith)
