use Rattle.std.proofs.Common.{ap, ◌∙◌}
use Rattle.std.proofs.lemmas.Bool.Decides.{Decides-eqb}
use Rattle.std.proofs.lemmas.Slice.Eq.{strip_suffix_is}
use Rattle.text.proofs.Ending.{unended_stripped}
use Rattle.text.proofs.bytes.unended.Goals as goal

pub returns : goal.returns
returns c =
    ap (λ b. b.now) c.unwrap_or.ensures
    ∙ unended_stripped c.args.text c.strip_suffix.result (strip_suffix_is Decides-eqb _ _ _ c.strip_suffix.ensures.cases)
