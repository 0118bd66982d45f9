-- The numbers of the refusals, and how they are printed. Assumes nothing.
use Rattle.std.specs.Prelude.{ℕ, List, codes}
use Rattle.limits.specs.declared.refusal.Refusal.{Refusal}
use Rattle.limits.specs.declared.refusal.Refusal.TheVariants.{Counts, Form, Range, Events, Undeclared, Fixed, Terms, States}

abbrev pub refusal_number : Refusal → ℕ
refusal_number Counts = 12
refusal_number Form = 13
refusal_number Range = 14
refusal_number Events = 15
refusal_number Undeclared = 16
refusal_number Fixed = 17
refusal_number Terms = 18
refusal_number States = 19

abbrev pub refusal_text : Refusal → List ℕ
refusal_text Counts = codes "refused 12: a sheet has 1 to 5 events and 1 to 8 rows"
refusal_text Form = codes "refused 13: an event has more than four parameters, or a permit names nothing"
refusal_text Range = codes "refused 14: the number of a row is out of range"
refusal_text Events = codes "refused 15: two events are the same or of two classes under one name, or one names a parameter twice"
refusal_text Undeclared = codes "refused 16: a row names what no event has"
refusal_text Fixed = codes "refused 17: the parameter whose values are permitted is fixed by the row"
refusal_text Terms = codes "refused 18: a term is the number of no row"
refusal_text States = codes "refused 19: the rows have too many states together"
