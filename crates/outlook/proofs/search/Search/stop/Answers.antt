use Rattle.std.proofs.Common.{length, sym, ap, ◌∙◌, List, arith}
use Rattle.outlook.specs.inner.Tables.{stop_at}
use Rattle.outlook.specs.declared.search.Stop.{Stop}
use Rattle.outlook.proofs.Sharing.{stop_is}
use Rattle.outlook.proofs.search.Search.stop.Goals as goal

pub returns : goal.returns
returns c =
    let it = c.index-deref-from in
    let short = ap (λ (ys : List Stop). length ys) c.deref.ensures.0 in
    sym (stop_is c.deref.result.now c.from.result it.result (omega (arith, c.requires, c.from.ensures, short)) it.is) ∙ (λ i. stop_at (c.deref.ensures.0 i) (c.from.ensures i))
