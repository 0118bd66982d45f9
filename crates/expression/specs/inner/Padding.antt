-- Words in an array of 15, with blank ones behind the last. Assumes nothing.
use Rattle.std.specs.Prelude.{◌≡◌, ℕ, ◌-◌, ◌≤◌, List, ◌++◌, length, take, drop, replicate}
use Rattle.std.proofs.Common.{sym, ap, ◌∙◌, arith}
use Rattle.std.proofs.lemmas.List.{length-take-le, take-append-drop}
use Rattle.expression.specs.Writing.{most_words}
use Rattle.expression.specs.declared.token.Token.{Token}
use Rattle.expression.specs.declared.token.Token.TheVariants.{Term}
use Rattle.expression.specs.declared.tokens.Tokens.TheInside.{Inside}

abbrev pub blanks : ℕ → List Token
blanks n = replicate (most_words - n) (Term 0)

abbrev pub front : Inside → List Token
front a = take a.len a.cells

abbrev pub IsPadded : Inside → Type 0
IsPadded a = (length a.cells ≡ most_words) × (a.len ≤ most_words) × (drop a.len a.cells ≡ blanks a.len)

abbrev pub padded : List Token → Inside
padded ts = record { cells = ts ++ blanks (length ts); len = length ts }

-- No two arrays have the same words.
pub padded_front : (a : Inside) → IsPadded a → padded (front a) ≡ a
padded_front a h =
    let long : length (take a.len a.cells) ≡ a.len = length-take-le a.len a.cells (omega (arith, h.0, h.1)) in
    let cells : front a ++ blanks (length (front a)) ≡ a.cells = ap (λ (n : ℕ). front a ++ blanks n) long ∙ (ap (λ (ts : List Token). front a ++ ts) (sym h.2) ∙ take-append-drop a.len a.cells) in
    λ i. record { cells = cells i; len = long i }
