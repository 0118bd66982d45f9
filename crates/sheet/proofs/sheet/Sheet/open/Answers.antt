use Rattle.sheet.specs.Sheets.{events_of, rows_of, keep_of}
use Rattle.sheet.proofs.Telling.{means}
use Rattle.sheet.proofs.sheet.Sheet.open.Goals as goal

pub returns-clause-means : goal.returns-clause-means
returns-clause-means c = let s = c.args.self in means (events_of s) (rows_of s) (keep_of s) (keep_of s) s.lawful
