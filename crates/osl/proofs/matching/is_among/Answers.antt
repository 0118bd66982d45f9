use Rattle.std.proofs.Common.{◌∙◌}
use Rattle.std.specs.Str.{bytes_eq}
use Rattle.text.specs.Names.{name_bytes}
use Rattle.osl.proofs.Mapped.{any_mapped, bytes_eq-comm}
use Rattle.osl.proofs.matching.is_among.Goals as goal

pub returns : goal.returns
returns c =
    let name = name_bytes c.args.name.now in
    c.contains.ensures.value ∙ any_mapped (bytes_eq name) name_bytes _ (λ other. bytes_eq-comm (name_bytes other) name) c.args.names.now
