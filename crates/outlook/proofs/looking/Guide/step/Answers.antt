use Rattle.std.proofs.Common.{◌≤◌, sym, ap, subst, arith}
use Rattle.watch.specs.Letters.{letter_count}
use Rattle.outlook.specs.inner.Changes.{stop, cursor}
use Rattle.outlook.specs.inner.Showing.{Stepped}
use Rattle.outlook.specs.declared.search.Stop.{Stop}
use Rattle.outlook.proofs.Steps.{some_bound, leave_step, back_step}
use Rattle.outlook.proofs.looking.Guide.step.Goals as goal

pub opens-requires : goal.opens-requires
opens-requires g c =
    let w = g.W.Watcher.watching c.args.self.now.watcher.now in
    let law = g.met.W.Watcher.lawful c.args.self.now.watcher.now in
    let good = c.args.self.now.good.now in
    let x = c.args.search.now in
    let h = c.requires.goes in
    some_bound w law good x h.0 h.1 h.2 c.args.place c.requires.here

pub returns-then-opens : goal.returns-then-opens
returns-then-opens g c =
    let w = g.W.Watcher.watching c.args.self.now.watcher.now in
    let law = g.met.W.Watcher.lawful c.args.self.now.watcher.now in
    let good = c.args.self.now.good.now in
    let x = c.args.search.now in
    let h = c.requires.goes in
    let done : letter_count w.events ≤ cursor x (stop x c.args.place).state.number = omega (arith, c.if-cursor-self.false, c.args.self.now.all, c.cursor.ensures, ap (λ (z : Stop). cursor x z.state.number) c.stop-stop.ensures) in
    leave_step w law good x h.0 h.1 h.2 c.args.place c.requires.here c.leave.new.self c.leave.ensures (c.opens.ensures.yes c.if-opens.true) done

pub returns-else-opens : goal.returns-else-opens
returns-else-opens g c =
    let w = g.W.Watcher.watching c.args.self.now.watcher.now in
    let law = g.met.W.Watcher.lawful c.args.self.now.watcher.now in
    let good = c.args.self.now.good.now in
    let x = c.args.search.now in
    let h = c.requires.goes in
    let done : letter_count w.events ≤ cursor x (stop x c.args.place).state.number = omega (arith, c.if-cursor-self.false, c.args.self.now.all, c.cursor.ensures, ap (λ (z : Stop). cursor x z.state.number) c.stop-stop.ensures) in
    subst (Stepped w good x) (λ i. record { keepable = x.keepable; breakable = x.breakable; seats = x.seats; path = x.path; bounds = x.bounds; here = (sym c.stop-stop.ensures i).from }) (back_step w law good x h.0 h.1 h.2 c.args.place c.requires.here (c.opens.ensures.no c.if-opens.false) done)
