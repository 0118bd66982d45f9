-- How a monitor stands for the plain monitor. Assumes nothing.
use Rattle.std.specs.Prelude.{◌≡◌, ℕ, ◌<◌, Bool, true, false, List, [], ◌∷◌, Result}
use Rattle.watch.specs.Watchers.{Watching}
use Rattle.expression.specs.Formulas.{Formula}
use Rattle.expression.specs.Values.{eval}
use Rattle.outlook.specs.Outlooks.{Foresees, at}
use Rattle.outlook.specs.declared.chart.Outlook.{Outlook}
use Rattle.monitor.specs.Plain.{Plain, RightAnswer, after}
use Rattle.monitor.specs.inner.Running.{Follows}
use Rattle.monitor.specs.declared.calls.Call.{Call}
use Rattle.monitor.specs.declared.calls.Answer.{Answer}
use Rattle.monitor.specs.declared.refusal.Refusal.{Refusal}
use Rattle.monitor.specs.declared.monitor.Monitor.{Monitor}

-- The outlook is that of the watcher and the formula: `good` is the formula's value at each set of marks.
pub record Foretells (w : Watching) (f : Formula) (outlook : Outlook) : Type 0 where
  pub good : List Bool
  pub values : (s : ℕ) → s < 256 → at good s ≡ eval f s
  pub keeps : Foresees w good true (at outlook.keepable)
  pub breaks : Foresees w good false (at outlook.breakable)

-- The monitor stands for the plain monitor: its outlook is right, and its running record follows the calls.
pub record Represents {W : Type 0} (w : Watching) (f : Formula) (m : Monitor W) (plain : Plain) : Type 0 where
  pub foretells : Foretells w f m.outlook
  pub follows : Follows w plain m.running

-- A note or closing was answered with r and left the monitor as n, as the plain monitor does.
abbrev pub Takes : {W : Type 0} → Watching → Formula → Monitor W → Call → (Plain → Result (Unit {0}) Refusal) → Result (Unit {0}) Refusal → Monitor W → Type 0
Takes w f m call answer r n =
    (plain : Plain) → Represents w f m plain → (r ≡ answer plain) × Represents w f n (after w.events plain call)

-- The same of any call and its answer.
abbrev pub Answers : {W : Type 0} → Watching → Formula → Monitor W → Call → Answer → Monitor W → Type 0
Answers w f m call a n =
    (plain : Plain) → Represents w f m plain → RightAnswer w f plain call a × Represents w f n (after w.events plain call)

-- The watcher and the expression are as they were.
pub record Same {W : Type 0} (m n : Monitor W) : Type 0 where
  pub watcher : n.watcher ≡ m.watcher
  pub expression : n.expression ≡ m.expression

-- The plain monitor after some calls.
abbrev pub ran : ℕ → Plain → List Call → Plain
ran g plain [] = plain
ran g plain (call ∷ more) = ran g (after g plain call) more
