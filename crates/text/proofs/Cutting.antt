-- Where a line is cut into words. Assumes nothing.
use Rattle.std.proofs.Common.{◌≡◌, ℕ, ◌+◌, ◌<◌, ◌≤◌, true, false, cond, eqb, ltb, ◌⊎◌, List, [], ◌∷◌, length, take, drop, None, Some, sym, ap, ◌∙◌, inl, inr, arith}
use Rattle.std.specs.List.{position, position_or_len}
use Rattle.std.proofs.lemmas.Bool.{cases_Bool, cond-true, cond-false, ltb-true, ltb-false}
use Rattle.std.proofs.lemmas.List.Sums.{fails_before_first}
use Rattle.std.proofs.lemmas.List.Splits.{slice_split_none, slice_split_first}
use Rattle.text.specs.Words.{words}

-- What `position` says of the first place n and the length l.
module _ (n l : ℕ) where
  past : (ltb n l ≡ true) ⊎ (ltb n l ≡ false) → cond (ltb n l) (Some n) None ≡ None → l ≤ n
  past (inl e) h = let same : Some n ≡ None = sym (cond-true _ _ _ e) ∙ h in absurd (cc)
  past (inr e) h = ltb-false n l e

  within : (i : ℕ) → (ltb n l ≡ true) ⊎ (ltb n l ≡ false) → cond (ltb n l) (Some n) None ≡ Some i → (n ≡ i) × (n < l)
  within i (inl e) h = let same : Some n ≡ Some i = sym (cond-true _ _ _ e) ∙ h in (cc, ltb-true n l e)
  within i (inr e) h = let same : None ≡ Some i = sym (cond-false _ _ _ e) ∙ h in absurd (cc)

module _ (line : List ℕ) where
  pub words_none : position (λ b. eqb b 32) line ≡ None → words line ≡ line ∷ []
  words_none e =
      let far = past (position_or_len (λ b. eqb b 32) line) (length line) (cases_Bool _) e in
      slice_split_none _ line (λ k d l. fails_before_first (λ b. eqb b 32) line k d (omega (arith, far, l)))

  pub words_at : (i : ℕ) → position (λ b. eqb b 32) line ≡ Some i → words line ≡ take i line ∷ words (drop (i + 1) line)
  words_at i e =
      let at = within (position_or_len (λ b. eqb b 32) line) (length line) i (cases_Bool _) e in
      slice_split_first (λ b. eqb b 32) line 0 at.1 ∙ ap (λ (n : ℕ). take n line ∷ words (drop (n + 1) line)) at.0
