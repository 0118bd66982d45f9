use Rattle.std.proofs.Common.{rules, tests}
use Rattle.std.proofs.lemmas.List.Folds.{list_all-map}
use Rattle.std.proofs.lemmas.Iterator.{YieldsList-from_slice}
use Rattle.std.proofs.lemmas.Iterator.Search.{all_from_yields_List}
use Rattle.osl.proofs.matching.has_all.Goals as goal

pub returns : goal.returns
returns c =
    rw list_all-map (all_from_yields_List _ _ _ _ c.all.ensures.ran (YieldsList-from_slice c.args.wanted.now cc) (λ x b q k. search (rules, tests)))
