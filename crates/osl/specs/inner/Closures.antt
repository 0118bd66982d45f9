-- What a closure computes. Assumes nothing.
use Rattle.std.specs.Prelude.{◌≡◌, Bool}
use Rattle.std.specs.Borrow.{Bor}

-- Each call answers what the test says of its argument.
abbrev pub Answers : {X : Type 0} → (Bor X → Bool → Type 0) → (X → Bool) → Type 0
Answers {X} call test = (x : Bor X) (answer : Bool) → call x answer → answer ≡ test x.now
