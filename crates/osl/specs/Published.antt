-- OSL gives some operators by others. In Osl.antt each is written out; these are the equations by which OSL gives them, so that both can be
-- compared line by line. Assumes nothing.
use Rattle.std.specs.Prelude.{◌≡◌, ℕ, zero, suc, ◌↔◌, List, ◌∷◌}
use Rattle.osl.specs.Osl.{Word, Class, usage, Params, Trace, Formula, Holds, ◌∈◌}
use Rattle.osl.specs.Osl.{True, False, Any, Not, And, Or, Implies, Until, Always, After, Within, During, RepMax, RepUntil, PermitOnlyEvName, PermitOnlyParam}

-- after 0 φ or .. or after (i − 1) φ
abbrev pub some_of : ℕ → Formula → Formula
some_of zero φ = False
some_of (suc i) φ = Or (some_of i φ) (After i φ)

-- after 0 φ and .. and after (i − 1) φ
abbrev pub each_of : ℕ → Formula → Formula
each_of zero φ = True
each_of (suc i) φ = And (each_of i φ) (After i φ)

pub record Published (getclass : Word → Class) (t : Trace) (n : ℕ) : Type 0 where
  pub by_and : (φ ψ : Formula) → Holds getclass t n (And φ ψ) ↔ Holds getclass t n (Not (Or (Not φ) (Not ψ)))
  pub by_implies : (φ ψ : Formula) → Holds getclass t n (Implies φ ψ) ↔ Holds getclass t n (Or (Not φ) ψ)
  pub by_always : (φ : Formula) → Holds getclass t n (Always φ) ↔ Holds getclass t n (Until φ False)
  pub by_within : (i : ℕ) (φ : Formula) → Holds getclass t n (Within i φ) ↔ Holds getclass t n (some_of i φ)
  pub by_during : (i : ℕ) (φ : Formula) → Holds getclass t n (During i φ) ↔ Holds getclass t n (each_of i φ)
  pub by_repmax : (l : ℕ) (φ : Formula) → Holds getclass t n (RepMax l φ) ↔ Holds getclass t n (RepUntil l φ False)
  pub by_names :
      (ex : List Word) (ps : Params) →
      Holds getclass t n (PermitOnlyEvName ex ps) ↔
      ((en : Word) → getclass en ≡ usage → (en ∈ ex → ⊥) →
      Holds getclass t n (Always (Not (Any (record { name = en; params = ps })))))
  pub by_values :
      (ex : List Word) (pn en : Word) (ps : Params) →
      Holds getclass t n (PermitOnlyParam ex pn en ps) ↔
      (((pv : Word) → (pn, pv) ∈ ps → ⊥) ×
      ((pv : Word) → (pv ∈ ex → ⊥) →
      Holds getclass t n (Always (Not (Any (record { name = en; params = (pn, pv) ∷ ps }))))))

abbrev pub AsPublished : Type 0
AsPublished = (getclass : Word → Class) (t : Trace) (n : ℕ) → Published getclass t n
