-- What a closure makes for the places of a sheet. Assumes nothing.
use Rattle.std.proofs.Common.{◌≡◌, ℕ, zero, suc, ◌+◌, ◌<◌, ◌≤◌, ◌⊎◌, ⊎_elim, Bool, false, List, [], ◌∷◌, length, get_or, refl, sym, ap, subst, ◌∙◌, arith}
use Rattle.std.proofs.lemmas.Bool.{cases_order}
use Rattle.std.proofs.lemmas.List.{ext_get_or}
use Rattle.std.specs.Prelude.{slice_get}
use Rattle.std.specs.Option.{option_map_or}
use Rattle.std.specs.Array.{IsFromFnResult, IsFromFnResultFrom}
use Rattle.std.specs.Fn.{Mut, Called}
use Rattle.osl.specs.declared.event.Event.{Event}
use Rattle.osl.specs.Matching.{chosen}

-- a closure that says the same of a place whenever it is called
module _ {F Y : Type 0} (g : Mut F (ℕ × Unit {0}) Y) (f : F) (say : ℕ → Y) (d : Y)
    (calls : (i : ℕ) (y : Y) (q : F) → Called g f (i, tt) y q → (q ≡ f) × (y ≡ say i)) (ys : List Y) where
  made_at : (n a : ℕ) → IsFromFnResultFrom g f ys a n → (i : ℕ) → a ≤ i → i < a + n → get_or ys i d ≡ say i
  made_at zero a made i low high = absurd (omega arith)
  made_at (suc n) a (q, y, at, called, rest) i low high =
      let call = calls a y q called in
      ⊎_elim
      (λ (here : i ≡ a). ap (λ (k : ℕ). get_or ys k d) here ∙ (at.1 d ∙ (call.1 ∙ ap say (sym here))))
      (λ (other : (i < a) ⊎ (a < i)). made_at n (a + 1) (subst (λ (r : F). IsFromFnResultFrom g r ys (a + 1) n) call.0 rest) i (⊎_elim (λ (l : i < a). absurd (omega arith)) (λ (l : a < i). omega arith) other) (omega arith))
      (cases_order i a)

  -- the array is the list that has the same at each place
  pub made : (n : ℕ) (zs : List Y) → length zs ≡ n → ((i : ℕ) → i < n → get_or zs i d ≡ say i) → IsFromFnResult g f ys n → ys ≡ zs
  made n zs long same all =
      ext_get_or d ys zs (all.long ∙ sym long)
      (λ i below. made_at n 0 all.each i (omega arith) (omega (arith, all.long)) ∙ sym (same i (omega (arith, all.long))))

module _ (p : Event → Bool) where
  -- whether there is an event at the place, and it is chosen
  abbrev chosen_at : List Event → ℕ → Bool
  chosen_at es i = option_map_or p (slice_get es i) false

  length-chosen : (n : ℕ) (es : List Event) → length (chosen p n es) ≡ n
  length-chosen zero es = refl
  length-chosen (suc n) [] = ap suc (length-chosen n [])
  length-chosen (suc n) (e ∷ es) = ap suc (length-chosen n es)

  get_or-chosen : (n : ℕ) (es : List Event) (i : ℕ) → i < n → get_or (chosen p n es) i false ≡ chosen_at es i
  get_or-chosen zero es i below = absurd (omega arith)
  get_or-chosen (suc n) [] zero below = refl
  get_or-chosen (suc n) [] (suc i) below = get_or-chosen n [] i (omega arith)
  get_or-chosen (suc n) (e ∷ es) zero below = refl
  get_or-chosen (suc n) (e ∷ es) (suc i) below = get_or-chosen n es i (omega arith)

  pub made_chosen :
      {F : Type 0} (g : Mut F (ℕ × Unit {0}) Bool) (f : F) (es : List Event) →
      ((i : ℕ) (b : Bool) (q : F) → Called g f (i, tt) b q → (q ≡ f) × (b ≡ chosen_at es i)) →
      (flags : List Bool) (n : ℕ) → IsFromFnResult g f flags n → flags ≡ chosen p n es
  made_chosen g f es calls flags n all =
      made g f (chosen_at es) false calls flags n (chosen p n es) (length-chosen n es) (λ i below. get_or-chosen n es i below) all
