-- Arrays that are made by calls of a closure. Assumes nothing.
use Rattle.std.proofs.Common.{◌≡◌, ℕ, zero, suc, ◌+◌, ◌<◌, ◌≤◌, List, get_or, ap, ◌∙◌, sym, subst, ⊎_elim, arith}
use denote.Param.Members.{Mut, Called}
use Rattle.std.specs.Array.{IsFromFnResultFrom}
use Rattle.std.proofs.lemmas.Bool.{cases_eq}

-- Where each call gives what h gives and leaves the closure as it was, each place of the array has what h gives there.
pub made_by : {F B : Type 0} (g : Mut F (ℕ × Unit {0}) B) (f : F) (h : ℕ → B) (ys : List B) (n i : ℕ) → ((k : ℕ) → k < i + n → (y : B) (q : F) → Called g f (k, tt) y q → (q ≡ f) × (y ≡ h k)) → IsFromFnResultFrom g f ys i n → (s : ℕ) (d : B) → i ≤ s → s < i + n → get_or ys s d ≡ h s
made_by g f h ys zero i acts made s d low high = absurd (omega arith)
made_by {F} g f h ys (suc n) i acts (q, y, is, called, more) s d low high =
    let act = acts i (omega arith) y q called in
    ⊎_elim
    (λ (e : s ≡ i). ap (λ (k : ℕ). get_or ys k d) e ∙ (is.1 d ∙ (act.1 ∙ ap h (sym e))))
    (λ ne.
    made_by g f h ys n (i + 1) (λ k l. acts k (omega arith))
    (subst (λ (p : F). IsFromFnResultFrom g p ys (i + 1) n) act.0 more) s d (omega (arith, ne, low)) (omega arith))
    (cases_eq s i)
