use Rattle.osl.proofs.Steps.{counts_are_sizes, steps_are_sets}
use Rattle.osl.proofs.published.counts_are_sizes.Goals as goal

pub returns : goal.returns
returns c = record { sizes = counts_are_sizes; sets = steps_are_sets }
