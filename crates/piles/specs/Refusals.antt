-- The number of the refusal, how it is printed, and what an answer to the question says. Assumes nothing.
use Rattle.std.specs.Prelude.{◌≡◌, ℕ, List, codes, Bool, true, false, Ok, Err, Result}
use Rattle.piles.specs.declared.refusal.Refusal.{Refusal}
use Rattle.piles.specs.declared.refusal.Refusal.TheVariants.{Limits}

abbrev pub refusal_number : Refusal → ℕ
refusal_number Limits = 32

abbrev pub refusal_text : Refusal → List ℕ
refusal_text Limits = codes "refused 32: the pile is beyond its limits"

-- Yes where the pile keeps its limits, the refusal where it does not.
abbrev pub Answers : Bool → Result (Unit {0}) Refusal → Type 0
Answers fits (Ok done) = fits ≡ true
Answers fits (Err refusal) = fits ≡ false
