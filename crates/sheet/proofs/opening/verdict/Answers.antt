use Rattle.expression.specs.Expressions.{formula}
use Rattle.sheet.specs.Sheets.{events_of, rows_of, keep_of}
use Rattle.sheet.proofs.Telling.{means}
use Rattle.sheet.proofs.Wording.{right_word}
use Rattle.sheet.proofs.opening.verdict.Goals as goal

pub returns : goal.returns
returns c plain stands =
    let m = c.args.monitor.now in
    let s = m.watcher in
    let said = c.verdict.ensures plain stands in (
      said.0,
      right_word (events_of s) (rows_of s) (formula m.expression) (means (events_of s) (rows_of s) (keep_of s) (formula m.expression) s.lawful)
          plain.closed _ said.1,
    )
