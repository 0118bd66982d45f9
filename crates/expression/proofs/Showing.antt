-- Words that are written one after another. Assumes nothing.
use Rattle.std.proofs.Common.{◌≡◌, ℕ, List, [], ◌∷◌, ◌++◌, map, sym, ap, append-nil}
use Rattle.std.specs.List.{flat_map}
use Rattle.text.specs.Words.{joined}
use Rattle.expression.specs.Writing.{spelled}
use Rattle.expression.specs.declared.token.Token.{Token}

-- The bytes of words that each have a space in front.
abbrev pub spaced : List Token → List ℕ
spaced ts = flat_map (λ t. 32 ∷ spelled t) ts

pub joined_spaced : (t : Token) (ts : List Token) → joined (map spelled (t ∷ ts)) ≡ spelled t ++ spaced ts
joined_spaced t [] = sym (append-nil (spelled t))
joined_spaced t (u ∷ us) = ap (λ (bs : List ℕ). spelled t ++ 32 ∷ bs) (joined_spaced u us)
