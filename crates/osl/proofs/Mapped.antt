-- A test of some element of a list that is made of another. Assumes nothing.
use Rattle.std.proofs.Common.{◌≡◌, ℕ, Bool, ◌||◌, List, [], ◌∷◌, map, refl, sym, ap₂}
use Rattle.std.proofs.lemmas.Bool.Decides.{same_from_decides, Decides-like}
use Rattle.std.proofs.lemmas.Slice.Eq.{bytes_eq-Decides}
use Rattle.std.specs.List.{list_any}
use Rattle.std.specs.Str.{bytes_eq}

module _ {X Y : Type 0} (p : X → Bool) (h : Y → X) where
  -- a test that says the same of each element as p of what is made of it
  pub any_mapped : (q : Y → Bool) → ((y : Y) → q y ≡ p (h y)) → (ys : List Y) → list_any q ys ≡ list_any p (map h ys)
  any_mapped q same [] = refl
  any_mapped q same (y ∷ ys) = ap₂ (λ (a b : Bool). a || b) (same y) (any_mapped q same ys)

  pub list_any-map : (ys : List Y) → list_any p (map h ys) ≡ list_any (λ y. p (h y)) ys
  list_any-map ys = sym (any_mapped (λ y. p (h y)) (λ y. refl) ys)

pub bytes_eq-comm : (a b : List ℕ) → bytes_eq a b ≡ bytes_eq b a
bytes_eq-comm a b = same_from_decides _ _ (Decides-like (bytes_eq a b) (λ e. sym e) (λ e. sym e) (bytes_eq-Decides a b)) (bytes_eq-Decides b a)
