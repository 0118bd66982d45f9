-- The kinds of a note and their numbers. Assumes nothing.
use Rattle.std.specs.Prelude.{◌≡◌, ◌≢◌, ℕ, List, ◌++◌, codes, decimal, Ok, Err, Result}
use Rattle.watch.specs.declared.kind.Kind.{Kind}
use Rattle.watch.specs.declared.kind.Kind.TheVariants.{Starting, Ongoing}
use Rattle.watch.specs.declared.kind.UnknownKind.{UnknownKind}

abbrev pub kind_number : Kind → ℕ
kind_number Starting = 1
kind_number Ongoing = 2

-- The number is read as the kind that has it, and refused where none has it.
abbrev pub Numbered : ℕ → Result Kind UnknownKind → Type 0
Numbered n (Ok kind) = kind_number kind ≡ n
Numbered n (Err unknown) = (unknown ≡ record { 0 = n }) × ((kind : Kind) → kind_number kind ≢ n)

-- How it is said that no kind has a number.
abbrev pub unknown_text : UnknownKind → List ℕ
unknown_text unknown = codes "no kind of note has number " ++ decimal unknown.0
