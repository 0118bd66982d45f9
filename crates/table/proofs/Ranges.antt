-- What `all` over the numbers below n answers, where the closure decides a property of each. Assumes nothing.
use Rattle.std.proofs.Common.{◌≡◌, ℕ, ◌<◌, Bool, true, false, Option, length, Decides, MatchBool, MatchOption, sym, refl, subst, ◌∙◌, zero-add, arith}
use denote.Param.Members.{Mut}
use Rattle.std.proofs.iter.Yields.{nat_range_steps}
use Rattle.std.proofs.lemmas.Bool.{false≢true}
use Rattle.std.proofs.lemmas.Iterator.{cases_from_all, YieldsList-from_range}
use Rattle.std.proofs.lemmas.List.FromFn.{get_or-range_with_len, length-range_with_len}
use Rattle.std.specs.Fn.{Called}
use Rattle.std.specs.Iterator.{YieldsThen}
use Rattle.std.specs.List.{range_with_len, slice_index_or, FoldsTo, AllWithin, HoldsAt}
use Rattle.std.specs.declared.ops.Range.{Range}

module _ (n : ℕ) (P : ℕ → Type 0) where
  at : (k : ℕ) → k < n → slice_index_or (range_with_len 0 n) k 0 ≡ k
  at k lt = get_or-range_with_len 0 n k 0 lt ∙ zero-add k

  decides : (r : Bool)
      → MatchBool r (AllWithin P (range_with_len 0 n) 0 (length (range_with_len 0 n))) ((k : ℕ) × (k < length (range_with_len 0 n)) × HoldsAt (λ i. P i → ⊥) (range_with_len 0 n) k)
      → Decides r ((k : ℕ) → k < n → P k)
  decides true each = (λ e k lt. subst P (at k lt) (each k 0 (omega arith) (omega (arith, length-range_with_len 0 n))), λ h. refl)
  decides false some =
      let k : ℕ = some.0 in
      let lt : k < n = omega (arith, length-range_with_len 0 n, some.1) in
      (λ e. absurd (false≢true e), λ h. absurd (some.2 0 (subst P (sym (at k lt)) (h k lt))))

  pub Decides-from_all_below : {F : Type 0} {g : Mut F (ℕ × Unit {0}) Bool} {s u : Range ℕ} {f : F} {r : Bool}
      → (xs : _) × (o : Option ℕ) × (j : F) × YieldsThen nat_range_steps s xs o u × FoldsTo (λ p x q. Called g p (x, tt) true q) f xs j × MatchOption o (r ≡ true) (λ x. (r ≡ false) × ((h : F) × Called g j (x, tt) false h))
      → s ≡ record { start = 0; end = n }
      → ((x : ℕ) (q : F) → Called g f (x, tt) true q → (q ≡ f) × P x) → ((x : ℕ) (q : F) → Called g f (x, tt) false q → P x → ⊥)
      → Decides r ((k : ℕ) → k < n → P k)
  Decides-from_all_below ran range holds fails =
      decides _ (cases_from_all _ _ _ P (λ x. P x → ⊥) ran (YieldsList-from_range 0 n n range (omega arith)) holds fails)
