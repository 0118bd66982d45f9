-- What making a sheet of its parts answers. Assumes nothing.
use Rattle.std.specs.Prelude.{◌≡◌, [], ◌∷◌, Some, None, Ok, Err, vec_items, codes, Result, Vec}
use Rattle.std.specs.declared.alloc.Global.{Global}
use Rattle.text.specs.Names.{name_bytes}
use Rattle.osl.specs.declared.event.Class.TheVariants.{Other}
use Rattle.osl.specs.declared.event.Event.{Event}
use Rattle.osl.specs.declared.row.Row.{Row}
use Rattle.osl.specs.declared.row.Row.TheVariants.{Always}
use Rattle.osl.specs.declared.row.Test.TheVariants.{True}
use Rattle.expression.specs.declared.expression.Expression.{Expression}
use Rattle.expression.specs.Expressions.{formula}
use Rattle.expression.specs.Formulas.{term}
use Rattle.limits.specs.declared.refusal.Refusal.{Refusal}
use Rattle.limits.specs.Questions.{judged}
use Rattle.sheet.specs.declared.sheet.Sheet.{Sheet}

-- The sheet has exactly these parts.
pub record Of (events : Vec Event Global) (rows : Vec Row Global) (keep : Expression) (s : Sheet) : Type 0 where
  pub events_are : s.events ≡ events
  pub rows_are : s.rows ≡ rows
  pub keep_is : s.keep ≡ keep

-- A sheet is made of parts of which no question says no; else the first question that does is answered.
abbrev pub Makes : Vec Event Global → Vec Row Global → Expression → Result Sheet Refusal → Type 0
Makes events rows keep (Ok s) = (judged (vec_items events) (vec_items rows) (formula keep) ≡ None) × Of events rows keep s
Makes events rows keep (Err q) = judged (vec_items events) (vec_items rows) (formula keep) ≡ Some q

-- The same where a sheet is replaced: a refusal leaves it as it was.
abbrev pub Remakes : Vec Event Global → Vec Row Global → Expression → Sheet → Result (Unit {0}) Refusal → Sheet → Type 0
Remakes events rows keep before (Ok done) after = (judged (vec_items events) (vec_items rows) (formula keep) ≡ None) × Of events rows keep after
Remakes events rows keep before (Err q) after = (judged (vec_items events) (vec_items rows) (formula keep) ≡ Some q) × (after ≡ before)

-- The event of the blank sheet: its name is idle, it is no use, and it has no parameter.
pub record Idle (e : Event) : Type 0 where
  pub name : name_bytes e.name ≡ codes "idle"
  pub class : e.class ≡ Other
  pub params : vec_items e.params ≡ []

-- The blank sheet has that event and the one row `always true`, and keeps term 1.
pub record Blank (s : Sheet) : Type 0 where
  pub idle : Event
  pub is_idle : Idle idle
  pub events : vec_items s.events ≡ idle ∷ []
  pub rows : vec_items s.rows ≡ Always True ∷ []
  pub keep : formula s.keep ≡ term 1
