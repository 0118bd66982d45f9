use Rattle.std.proofs.Common.{◌≡◌, pred}
use Rattle.std.specs.Fmt.{IsPlainFormatter, HasWritten}
use denote.Text.{Utf8}
use denote.Shadow.{shadow}
use Rattle.watch.specs.MarkTexts.{marks_upto}
use Rattle.watch.proofs.MarkTexts.{gap}
use Rattle.watch.proofs.marks.MarkSetDisplay.fmt.Given as goal

abbrev pub invariant-loop-mark : goal.invariant-loop-mark
invariant-loop-mark g l = record {
  text : shadow (Utf8 l.gap);
  gap : l.gap ≡ gap (marks_upto (pred l.mark-counter) l.self.bits);
  written : IsPlainFormatter l.initial.f → HasWritten g.W.Write.write_str_gives l.initial.f (marks_upto (pred l.mark-counter) l.self.bits) l.f;
}
