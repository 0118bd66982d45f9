use Rattle.std.proofs.Common.{refl}
use Rattle.std.proofs.lemmas.List.Splits.{join_with_byte-slice_split}
use Rattle.text.proofs.line.Words.of.Goals as goal

pub returns : goal.returns
returns c = record { words = refl; line = join_with_byte-slice_split 32 c.args.line.now }
