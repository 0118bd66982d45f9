-- Every formula is stable, and the operators that OSL gives by others are those. Assumes nothing.
use Rattle.std.proofs.Common.{ℕ, zero, suc, ◌+◌, ◌≤◌, ◌↔◌, sym, subst, inl, inr, arith}
use Rattle.std.proofs.lemmas.Bool.{cases_lt, cases_order}
use Rattle.osl.specs.Osl.{Word, Class, Trace, Formula, Holds, total}
use Rattle.osl.specs.Osl.{True, False, First, Any, Not, And, Or, Implies, Until, Always, After, Within, During, RepMax, RepUntil, PermitOnlyEvName, PermitOnlyParam}
use Rattle.osl.specs.Published.{some_of, each_of, AsPublished}

stable_le : (m n : ℕ) → ((m ≤ n → ⊥) → ⊥) → m ≤ n
stable_le m n h = elim (cases_lt n m) [ inl lt ↦ absurd (h (λ le. omega arith)) | inr le ↦ le ]

module _ (getclass : Word → Class) (t : Trace) where
  pub stable : (φ : Formula) (n : ℕ) → ((Holds getclass t n φ → ⊥) → ⊥) → Holds getclass t n φ
  stable True n h = tt
  stable False n h = h (λ x. x)
  stable (First e) n h = λ none. h (λ some. some none)
  stable (Any e) n h = λ none. h (λ some. some none)
  stable (Not φ) n h = λ p. h (λ f. f p)
  stable (And φ ψ) n h = (stable φ n (λ k. h (λ p. k p.0)), stable ψ n (λ k. h (λ p. k p.1)))
  stable (Or φ ψ) n h = λ a b. h (λ e. e a b)
  stable (Implies φ ψ) n h = λ p. stable ψ n (λ k. h (λ f. k (f p)))
  stable (Until φ ψ) n h = λ a b. h (λ e. e a b)
  stable (Always φ) n h = λ v le. stable φ v (λ k. h (λ f. k (f v le)))
  stable (After i φ) n h = stable φ (n + i) h
  stable (Within i φ) n h = λ none. h (λ some. some none)
  stable (During i φ) n h = λ j lt. stable φ (n + j) (λ k. h (λ f. k (f j lt)))
  stable (RepMax l φ) n h =
      (λ none. h (λ p. p.0 none), λ u. stable_le (total t φ n (suc u)) l (λ k. h (λ p. k (p.1 u))))
  stable (RepUntil l φ ψ) n h = (λ none. h (λ p. p.0 none), λ a b. h (λ p. p.1 a b))
  stable (PermitOnlyEvName ex ps) n h = λ en is out v le some. h (λ f. f en is out v le some)
  stable (PermitOnlyParam ex pn en ps) n h =
      (λ pv m. h (λ p. p.0 pv m), λ pv out v le some. h (λ p. p.1 pv out v le some))

  within_some : (φ : Formula) (n i : ℕ) → Holds getclass t n (Within i φ) ↔ Holds getclass t n (some_of i φ)
  within_some φ n zero = (λ some. some (λ j h. omega (arith, h.0)), λ h. absurd h)
  within_some φ n (suc i) = (
    λ some not-before not_last.
        some (λ j h.
        elim (cases_order j i) [
          | inl e ↦ not_last (subst (λ k. Holds getclass t (n + k) φ) e h.1)
          | inr o ↦
              elim o [
                | inl lt ↦ not-before ((within_some φ n i).0 (λ none. none j (lt, h.1)))
                | inr gt ↦ omega (arith, h.0)
              ]
        ]),
    λ e none.
        e
        (λ before. (within_some φ n i).1 before (λ j h. none j (omega (arith, h.0), h.1)))
        (λ last. none i (omega arith, last)),
  )

  during_each : (φ : Formula) (n i : ℕ) → Holds getclass t n (During i φ) ↔ Holds getclass t n (each_of i φ)
  during_each φ n zero = (λ _. tt, λ _ j lt. absurd (omega arith))
  during_each φ n (suc i) = (
    λ all. ((during_each φ n i).0 (λ j lt. all j (omega arith)), all i (omega arith)),
    λ h j lt.
        elim (cases_order j i) [
          | inl e ↦ subst (λ k. Holds getclass t (n + k) φ) (sym e) h.1
          | inr o ↦ elim o [ inl less ↦ (during_each φ n i).1 h.0 j less | inr gt ↦ absurd (omega arith) ]
        ],
  )

pub as_published : AsPublished
as_published getclass t n =
    record {
      by_and =
          λ φ ψ. (
            λ p e. e (λ k. k p.0) (λ k. k p.1),
            λ h. (
              stable getclass t φ n (λ k. h (λ a b. a k)),
              stable getclass t ψ n (λ k. h (λ a b. b k)),
            ),
          );
      by_implies =
          λ φ ψ. (λ f a b. a (λ p. b (f p)), λ e p. stable getclass t ψ n (λ k. e (λ a. a p) k));
      by_always =
          λ φ. (
            λ all _ k. k all,
            λ e v le. stable getclass t φ v (λ k. e (λ some. some (λ u h. h.1)) (λ all. k (all v le))),
          );
      by_within = λ i φ. within_some getclass t φ n i;
      by_during = λ i φ. during_each getclass t φ n i;
      by_repmax =
          λ l φ. (
            λ h. (h.0, λ _ k. k h.1),
            λ h. (
              h.0,
              λ u.
                  stable_le (total t φ n (suc u)) l
                  (λ k. h.1 (λ some. some (λ w q. q.0)) (λ all. k (all u))),
            ),
          );
      by_names = λ ex ps. (λ h. h, λ h. h);
      by_values = λ ex pn en ps. (λ h. h, λ h. h);
    }
