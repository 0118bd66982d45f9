-- Writes of one state to the two tables of what is known.
use Rattle.std.proofs.Common.{◌≡◌, ℕ, ◌<◌, Bool, true, false, cond, ◌||◌, ◌⊎◌, List, length, set, sym, refl, ap, ◌∙◌, inl, inr, ⊎_elim, length-set}
use Rattle.std.proofs.lemmas.Bool.{cases_eq, or_cases, or_left, or_right}
use Rattle.outlook.specs.Outlooks.{at}
use Rattle.outlook.proofs.Basics.{at_same, at_other}
use Rattle.outlook.proofs.Sharing.{still}

-- One state is put in.
set_only : (table : List Bool) (s z : ℕ) → at (set table s true) z ≡ true → (at table z ≡ true) ⊎ (z ≡ s)
set_only table s z e = ⊎_elim (λ is. inr is) (λ ne. inl (sym (at_other table s z true ne) ∙ e)) (cases_eq z s)

-- One state takes over what another has.
module _ (table : List Bool) (s u : ℕ) (fits : s < length table) where
  abbrev joint : List Bool
  joint = set table s (at table s || at table u)

  pub joint_kept : (z : ℕ) → at table z ≡ true → at joint z ≡ true
  joint_kept z e =
      ⊎_elim (λ is. ap (at joint) is ∙ (at_same table s _ fits ∙ or_left _ _ (ap (at table) (sym is) ∙ e))) (λ ne. at_other table s z _ ne ∙ e) (cases_eq z s)

  pub joint_only : (z : ℕ) → at joint z ≡ true → (at table z ≡ true) ⊎ ((z ≡ s) × (at table u ≡ true))
  joint_only z e =
      ⊎_elim (λ is. ⊎_elim (λ old. inl (ap (at table) is ∙ old)) (λ new. inr (is, new)) (or_cases _ _ (sym (at_same table s _ fits) ∙ (ap (at joint) (sym is) ∙ e)))) (λ ne. inl (sym (at_other table s z _ ne) ∙ e)) (cases_eq z s)

  pub joint_told : at joint u ≡ true → at joint s ≡ true
  joint_told e =
      ⊎_elim (λ is. ap (at joint) (sym is) ∙ e) (λ ne. at_same table s _ fits ∙ or_right _ _ (sym (at_other table s u _ ne) ∙ e)) (cases_eq u s)

-- One state is put into the table that its value picks.
module _ (keepable breakable : List Bool) (s : ℕ) (fits_k : s < length keepable) (fits_b : s < length breakable) where
  abbrev noted : Bool → Bool → List Bool
  noted g v = cond v (cond g (set keepable s true) keepable) (cond g breakable (set breakable s true))

  pub noted_kept : (g v : Bool) (z : ℕ) → at (cond v keepable breakable) z ≡ true → at (noted g v) z ≡ true
  noted_kept true true z e = still keepable s z fits_k e
  noted_kept true false z e = e
  noted_kept false true z e = e
  noted_kept false false z e = still breakable s z fits_b e

  pub noted_only : (g v : Bool) (z : ℕ) → at (noted g v) z ≡ true → (at (cond v keepable breakable) z ≡ true) ⊎ ((z ≡ s) × (g ≡ v))
  noted_only true true z e = ⊎_elim (λ old. inl old) (λ is. inr (is, refl)) (set_only keepable s z e)
  noted_only true false z e = inl e
  noted_only false true z e = inl e
  noted_only false false z e = ⊎_elim (λ old. inl old) (λ is. inr (is, refl)) (set_only breakable s z e)

  pub noted_own : (g : Bool) → at (noted g g) s ≡ true
  noted_own true = at_same keepable s true fits_k
  noted_own false = at_same breakable s true fits_b

  pub noted_keepable : (g : Bool) → length (cond g (set keepable s true) keepable) ≡ length keepable
  noted_keepable true = length-set keepable s true
  noted_keepable false = refl

  pub noted_breakable : (g : Bool) → length (cond g breakable (set breakable s true)) ≡ length breakable
  noted_breakable true = refl
  noted_breakable false = length-set breakable s true
