-- The steps of reading a line into words. Assumes nothing.
use Rattle.std.proofs.Common.{◌≡◌, ℕ, ◌+◌, ◌-◌, drop, replicate, ◌≤◌, true, List, [], ◌∷◌, ◌++◌, map, length, sym, refl, ap, ◌∙◌, arith}
use Rattle.std.specs.List.{list_all}
use Rattle.std.proofs.lemmas.List.{drop-drop, drop-replicate}
use Rattle.std.proofs.lemmas.Bool.{and_parts}
use Rattle.expression.specs.Writing.{spelled, in_range, most_words}
use Rattle.expression.specs.inner.Padding.{blanks}
use Rattle.expression.specs.inner.Drafts.{Drafting}
use Rattle.expression.specs.declared.token.Token.{Token}
use Rattle.expression.specs.declared.token.Token.TheVariants.{Term}

-- A cell less that is blank.
pub blanks_less : (cells : List Token) (n : ℕ) → drop n cells ≡ blanks n → drop (n + 1) cells ≡ blanks (n + 1)
blanks_less cells n e =
    sym (drop-drop 1 n cells)
    ∙ (ap (drop 1) e ∙ (drop-replicate 1 (15 - n) (Term 0) ∙ ap (λ (k : ℕ). replicate k (Term 0)) (let k : 15 - n - 1 ≡ 15 - (n + 1) = omega arith in k)))

pub begins : (all : List (List ℕ)) → Drafting all [] all
begins all = record { few = omega arith; ranged = refl; spells = refl }

module _ (all : List (List ℕ)) (ts : List Token) (left : List (List ℕ)) (d : Drafting all ts left) (w : List ℕ) (tail : List (List ℕ)) (next : left ≡ w ∷ tail) where
  spell : map spelled ts ++ w ∷ tail ≡ all
  spell = ap (λ (ws : List (List ℕ)). map spelled ts ++ ws) (sym next) ∙ d.spells

  there : (us : List Token) (front : List (List ℕ)) → list_all in_range us ≡ true → map spelled us ≡ front ++ w ∷ tail → (t : Token) × (in_range t ≡ true) × (w ≡ spelled t)
  there [] [] h e = let z : ◌≡◌ {A = ℕ} 0 1 = cc in absurd (omega arith)
  there [] (v ∷ front) h e = let z : ◌≡◌ {A = ℕ} 0 1 = cc in absurd (omega arith)
  there (u ∷ us) [] h e = (u, (and_parts (in_range u) (list_all in_range us) h).0, cc)
  there (u ∷ us) (v ∷ front) h e = there us front (and_parts (in_range u) (list_all in_range us) h).1 (cc)

  -- One word is none of an expression's.
  pub unknown : ((t : Token) → in_range t ≡ true → w ≡ spelled t → ⊥) → (us : List Token) → length us ≤ most_words → list_all in_range us ≡ true → map spelled us ≡ all → ⊥
  unknown none us few h e = let x = there us (map spelled ts) h (e ∙ sym spell) in none x.0 x.1 x.2
