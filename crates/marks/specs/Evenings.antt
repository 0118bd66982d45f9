-- The whole text of an evening: the record and, where there is an expression, the words. Assumes nothing.
use Rattle.std.specs.Prelude.{◌≡◌, ℕ, List, ◌++◌, Some, None, Ok, Err, string_bytes, Option, Result, String}
use Rattle.std.specs.declared.alloc.Global.{Global}
use Rattle.watch.specs.Watchers.{Watching}
use Rattle.expression.specs.Expressions.{formula}
use Rattle.expression.specs.Formulas.{Formula}
use Rattle.expression.specs.declared.expression.Expression.{Expression}
use Rattle.marks.specs.Records.{Records}
use Rattle.marks.specs.WordTexts.{RightText}
use Rattle.marks.specs.declared.record.Fault.{Fault}

-- The text is that of the record, and then the words.
pub record RecordAndWords (w : Watching) (f : Formula) (letters text : List ℕ) : Type 0 where
  pub recorded : String Global
  pub records : Records w letters (Ok recorded)
  pub words : List ℕ
  pub right : RightText w f letters words
  pub is : text ≡ string_bytes recorded ++ words

-- Where there is an expression, the words stand behind the record. What is refused is refused as for the record alone.
abbrev pub Evening : Watching → List ℕ → Result (String Global) Fault → Option Expression → Type 0
Evening w letters (Err fault) e = Records w letters (Err fault)
Evening w letters (Ok text) None = Records w letters (Ok text)
Evening w letters (Ok text) (Some e) = RecordAndWords w (formula e) letters (string_bytes text)
