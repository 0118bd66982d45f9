-- Steps by what each event does in them, and the letters that say so. Assumes nothing.
use Rattle.std.specs.Prelude.{ℕ, zero, suc, ◌+◌, ◌*◌, ◌/◌, ◌%◌, ◌^◌, List, [], ◌∷◌, map, None, Some, Option}
use Rattle.watch.specs.Kinds.{kind_number}
use Rattle.watch.specs.Letters.{digits, most_events}
use Rattle.watch.specs.declared.kind.Kind.{Kind}
use Rattle.watch.specs.declared.step.Step.{Step}

-- The digit of an event: 0 where it is absent.
abbrev pub digit_of : Option Kind → ℕ
digit_of None = 0
digit_of (Some kind) = kind_number kind

-- The digits of a step, the first event's first.
abbrev pub step_digits : Step → List ℕ
step_digits step = map digit_of step.kinds

-- The letter that has these digits.
abbrev pub spelt : List ℕ → ℕ
spelt [] = 0
spelt (d ∷ ds) = d + digits * spelt ds

-- Digit number e of a letter.
abbrev pub digit : ℕ → ℕ → ℕ
digit letter e = (letter / digits ^ e) % digits

-- The digits of the n events from number i on.
abbrev pub digits_from : ℕ → ℕ → ℕ → List ℕ
digits_from letter i zero = []
digits_from letter i (suc n) = digit letter i ∷ digits_from letter (suc i) n

abbrev pub digits_of : ℕ → List ℕ
digits_of letter = digits_from letter 0 most_events
