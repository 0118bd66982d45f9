use Rattle.std.proofs.Common.{List, Option, ap, ◌∙◌}
use Rattle.watch.specs.Steps.{digits_of}
use Rattle.watch.specs.declared.kind.Kind.{Kind}
use Rattle.watch.proofs.Spelling.{kinds_back}
use Rattle.watch.proofs.step.Step.of.Goals as goal

pub returns-clause-back : goal.returns-clause-back
returns-clause-back c step long same =
    ap (λ (ks : List (Option Kind)). record { kinds = ks }) (kinds_back c.kinds_of.result step.kinds long (c.kinds_of.ensures ∙ ap digits_of same))
