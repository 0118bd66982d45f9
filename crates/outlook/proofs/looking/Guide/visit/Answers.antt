use Rattle.std.proofs.Common.{sym, ◌∙◌, subst}
use Rattle.outlook.specs.inner.Showing.{Goes}
use Rattle.outlook.proofs.Steps.{visit_goes}
use Rattle.outlook.proofs.looking.Guide.visit.Goals as goal

pub run-requires : goal.run-requires
run-requires g c =
    let w = g.W.Watcher.watching c.args.self.now.watcher.now in
    let law = g.met.W.Watcher.lawful c.args.self.now.watcher.now in
    let good = c.args.self.now.good.now in
    let x = c.args.search.now in
    let h = c.requires.goes in
    record {
      goes = subst (Goes w good) (sym c.push.ensures) (visit_goes w law good x h.0 h.1 h.2 c.args.state c.requires.within (sym c.standing.ensures ∙ c.in-New.is) c.requires.idle);
    }
