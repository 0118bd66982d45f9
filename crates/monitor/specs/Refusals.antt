-- The numbers of the monitor's refusals, and how they are printed. Assumes nothing.
use Rattle.std.specs.Prelude.{ℕ, List, codes}
use Rattle.monitor.specs.declared.refusal.Refusal.{Refusal}
use Rattle.monitor.specs.declared.refusal.Refusal.TheVariants.{Event, Noted, Steps}

abbrev pub refusal_number : Refusal → ℕ
refusal_number Event = 24
refusal_number Noted = 25
refusal_number Steps = 26

abbrev pub refusal_text : Refusal → List ℕ
refusal_text Event = codes "refused 24: there is no such event, or no such kind"
refusal_text Noted = codes "refused 25: the event is noted already in this step"
refusal_text Steps = codes "refused 26: no more steps can be closed"
