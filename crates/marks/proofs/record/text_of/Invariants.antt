use Rattle.std.proofs.Common.{◌≡◌, string_bytes}
use Rattle.marks.specs.Records.{list_lines}
use Rattle.marks.proofs.record.text_of.Given as goal

abbrev pub invariant-loop-step : goal.invariant-loop-step
invariant-loop-step l = string_bytes l.text ≡ list_lines l.stands l.step-counter
