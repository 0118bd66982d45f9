use Rattle.std.proofs.Common.{rules, tests}
use Rattle.std.proofs.lemmas.Iterator.{YieldsList-from_slice}
use Rattle.std.proofs.lemmas.Iterator.Search.{any_from_yields_List}
use Rattle.osl.proofs.Mapped.{list_any-map}
use Rattle.osl.proofs.matching.has_stray.Goals as goal

pub returns : goal.returns
returns c =
    rw list_any-map (any_from_yields_List _ _ _ _ c.any.ensures.ran (YieldsList-from_slice c.args.params.now cc) (λ x b q k. search (rules, tests)))
