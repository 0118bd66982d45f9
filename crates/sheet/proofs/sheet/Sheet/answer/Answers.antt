use Rattle.std.proofs.Common.{length, take}
use Rattle.monitor.specs.Plain.{opened}
use Rattle.monitor.specs.Words.{RightWord}
use Rattle.sheet.specs.Joints.{watched}
use Rattle.sheet.specs.Sheets.{events_of, rows_of, keep_of}
use Rattle.sheet.specs.Words.{RightWordOfRows}
use Rattle.sheet.proofs.Telling.{means}
use Rattle.sheet.proofs.Wording.{right_word, agrees_like}
use Rattle.sheet.proofs.sheet.Sheet.answer.Goals as goal

pub returns-clause-agrees : goal.returns-clause-agrees
returns-clause-agrees c =
    let s = c.args.self in
    let events = events_of s in
    let rows = rows_of s in
    let keep = keep_of s in
    agrees_like (length events) (RightWord (watched events rows) keep) (RightWordOfRows events rows keep)
    (λ closed word right. right_word events rows keep (means events rows keep keep s.lawful) closed word right)
    opened (take c.answer_all.result c.args.calls.now) (take c.answer_all.result c.answer_all.new.answers) c.answer_all.ensures.agrees
