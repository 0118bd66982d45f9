-- The tests of a step decide what they stand for. Assumes nothing.
use Rattle.std.proofs.Common.{◌≡◌, Bool, true, false, not, ◌&&◌, ◌||◌, List, [], ◌∷◌, Decides, sym, refl, ap, subst, inl, inr, ⊎_elim}
use mathlib.Core.Bool.{false≢true}
use Rattle.std.proofs.lemmas.Bool.Decides.{Decides-and, Decides-or, Decides-not, Decides-like, not_from_Decides}
use Rattle.std.proofs.lemmas.Bool.{or_cases, or_parts, true_from_ne_false}
use Rattle.std.proofs.lemmas.Slice.Eq.{bytes_eq-Decides}
use Rattle.std.specs.Str.{bytes_eq}
use Rattle.std.specs.List.{list_any, list_all}
use Rattle.watch.specs.Classical.{Exists}
use Rattle.osl.specs.Osl as osl
use Rattle.osl.specs.Osl.{◌∈◌, Word, Params, Class, usage, other, Event, Index, start, ongoing, IndEvent, Formula, ◌refines◌, Satisfies, same_pair, has, within_params, refines?, is_start, satisfies?}
use Rattle.osl.specs.Osl.{True, False, First, Any, Not, And, Or, Implies, Until, Always, After, Within, During, RepMax, RepUntil, PermitOnlyEvName, PermitOnlyParam}
use Rattle.osl.specs.Matching.{listed, strays}

-- some indexed event of a step satisfies an event expression
abbrev pub happens : Formula → List IndEvent → Bool
happens φ ies = list_any (λ ie. satisfies? ie φ) ies

-- no indexed event of a step is astray
abbrev pub none : (Event → Bool) → List IndEvent → Bool
none astray ies = list_all (λ ie. not (astray ie.event)) ies

abbrev pub is_usage : Class → Bool
is_usage osl.usage = true
is_usage osl.other = false

-- what permitted names forbid, by a name's class
abbrev pub stray_name : (Word → Class) → List Word → Params → Event → Bool
stray_name getclass allowed having e =
    is_usage (getclass e.name) && (not (listed allowed e.name) && within_params having e.params)

-- what permitted values forbid
abbrev pub stray_param : List Word → Word → Word → Params → Event → Bool
stray_param allowed param name having e =
    bytes_eq name e.name && (within_params having e.params && strays param allowed e.params)

-- a statement that has a test is stable: it holds where its failing fails
pub stable : {P : Type 0} (r : Bool) → Decides r P → ((P → ⊥) → ⊥) → P
stable true d h = d.0 refl
stable false d h = absurd (h (λ p. false≢true (d.1 p)))

refuted : {P : Type 0} → (P → ⊥) → Decides false P
refuted fails = (λ e. absurd (false≢true e), λ p. absurd (fails p))

pub pair_decides : (p q : Word × Word) → Decides (same_pair p q) (p ≡ q)
pair_decides p q =
    Decides-like (same_pair p q)
    (λ h i. (h.0 i, h.1 i))
    (λ e. (ap (λ (r : Word × Word). r.0) e, ap (λ (r : Word × Word). r.1) e))
    (Decides-and (bytes_eq p.0 q.0) (bytes_eq p.1 q.1) (bytes_eq-Decides p.0 q.0) (bytes_eq-Decides p.1 q.1))

pub has_decides : (ps : Params) (p : Word × Word) → Decides (has ps p) (p ∈ ps)
has_decides [] p = refuted (λ h. h)
has_decides (q ∷ qs) p = Decides-or (same_pair p q) (has qs p) (pair_decides p q) (has_decides qs p)

pub listed_decides : (ws : List Word) (w : Word) → Decides (listed ws w) (w ∈ ws)
listed_decides [] w = refuted (λ h. h)
listed_decides (x ∷ xs) w = Decides-or (bytes_eq w x) (listed xs w) (bytes_eq-Decides w x) (listed_decides xs w)

pub within_decides : (ps qs : Params) → Decides (within_params ps qs) ((p : Word × Word) → p ∈ ps → p ∈ qs)
within_decides [] qs = (λ _ p h. absurd h, λ _. refl)
within_decides (p ∷ ps) qs =
    Decides-like (has qs p && within_params ps qs)
    (λ h q o. ⊎_elim (λ e. subst (λ r. r ∈ qs) (sym e) h.0) (λ m. h.1 q m) o)
    (λ all. (all p (inl refl), λ q m. all q (inr m)))
    (Decides-and (has qs p) (within_params ps qs) (has_decides qs p) (within_decides ps qs))

pub refines_decides : (e₂ e₁ : Event) → Decides (refines? e₂ e₁) (e₂ refines e₁)
refines_decides e₂ e₁ =
    Decides-and (bytes_eq e₁.name e₂.name) (within_params e₁.params e₂.params)
    (bytes_eq-Decides e₁.name e₂.name) (within_decides e₁.params e₂.params)

start_decides : (i : Index) → Decides (is_start i) (i ≡ start)
start_decides start = (λ _. refl, λ _. refl)
start_decides ongoing = refuted (λ e. cc)

pub usage_decides : (c : Class) → Decides (is_usage c) (c ≡ usage)
usage_decides usage = (λ _. refl, λ _. refl)
usage_decides other = refuted (λ e. cc)

pub satisfies_decides : (ie : IndEvent) (φ : Formula) → Decides (satisfies? ie φ) (Satisfies ie φ)
satisfies_decides ie (First e) =
    Decides-and (refines? ie.event e) (is_start ie.index) (refines_decides ie.event e) (start_decides ie.index)
satisfies_decides ie (Any e) = refines_decides ie.event e
satisfies_decides ie True = refuted (λ h. h)
satisfies_decides ie False = refuted (λ h. h)
satisfies_decides ie (Not φ) = refuted (λ h. h)
satisfies_decides ie (And φ ψ) = refuted (λ h. h)
satisfies_decides ie (Or φ ψ) = refuted (λ h. h)
satisfies_decides ie (Implies φ ψ) = refuted (λ h. h)
satisfies_decides ie (Until φ ψ) = refuted (λ h. h)
satisfies_decides ie (Always φ) = refuted (λ h. h)
satisfies_decides ie (After n φ) = refuted (λ h. h)
satisfies_decides ie (Within n φ) = refuted (λ h. h)
satisfies_decides ie (During n φ) = refuted (λ h. h)
satisfies_decides ie (RepMax l φ) = refuted (λ h. h)
satisfies_decides ie (RepUntil l φ ψ) = refuted (λ h. h)
satisfies_decides ie (PermitOnlyEvName ex ps) = refuted (λ h. h)
satisfies_decides ie (PermitOnlyParam ex pn en ps) = refuted (λ h. h)

-- a test of some entry of a list decides that there is one
pub happens_decides : (φ : Formula) (ies : List IndEvent) → Decides (happens φ ies) (Exists (λ ie. (ie ∈ ies) × Satisfies ie φ))
happens_decides φ [] = refuted (λ some. some (λ ie h. h.0))
happens_decides φ (ie ∷ ies) = (
  λ e.
      ⊎_elim
      (λ s no. no ie (inl refl, (satisfies_decides ie φ).0 s))
      (λ s no. (happens_decides φ ies).0 s (λ x h. no x (inr h.0, h.1)))
      (or_cases (satisfies? ie φ) (happens φ ies) e),
  λ some.
      true_from_ne_false (satisfies? ie φ || happens φ ies) (λ e.
      let parts = or_parts (satisfies? ie φ) (happens φ ies) e in
      some (λ x h.
      ⊎_elim
      (λ q. not_from_Decides (satisfies? ie φ) (satisfies_decides ie φ) parts.0 (subst (λ y. Satisfies y φ) q h.1))
      (λ m. not_from_Decides (happens φ ies) (happens_decides φ ies) parts.1 (λ no. no x (m, h.1)))
      h.0)),
)

-- no entry of a list is astray
pub none_decides :
    (astray : Event → Bool) (P : Event → Type 0) → ((e : Event) → Decides (astray e) (P e)) →
    (ies : List IndEvent) → Decides (none astray ies) ((ie : IndEvent) → ie ∈ ies → P ie.event → ⊥)
none_decides astray P d [] = (λ _ ie h _. h, λ _. refl)
none_decides astray P d (ie ∷ ies) =
    Decides-like (not (astray ie.event) && none astray ies)
    (λ h x o p. ⊎_elim (λ e. h.0 (subst (λ y. P y.event) e p)) (λ m. h.1 x m p) o)
    (λ all. (all ie (inl refl), λ x m. all x (inr m)))
    (Decides-and (not (astray ie.event)) (none astray ies)
    (Decides-not (astray ie.event) (d ie.event)) (none_decides astray P d ies))

pub stray_name_decides :
    (getclass : Word → Class) (allowed : List Word) (having : Params) (e : Event) →
    Decides (stray_name getclass allowed having e)
    ((getclass e.name ≡ usage) × ((e.name ∈ allowed → ⊥) × ((p : Word × Word) → p ∈ having → p ∈ e.params)))
stray_name_decides getclass allowed having e =
    Decides-and (is_usage (getclass e.name)) (not (listed allowed e.name) && within_params having e.params)
    (usage_decides (getclass e.name))
    (Decides-and (not (listed allowed e.name)) (within_params having e.params)
    (Decides-not (listed allowed e.name) (listed_decides allowed e.name))
    (within_decides having e.params))

pub strays_decides :
    (allowed : List Word) (param : Word) (ps : Params) →
    Decides (strays param allowed ps) ((v : Word) × ((param, v) ∈ ps) × (v ∈ allowed → ⊥))
strays_decides allowed param [] = refuted (λ h. h.1)
strays_decides allowed param (p ∷ ps) =
    Decides-like ((bytes_eq param p.0 && not (listed allowed p.1)) || strays param allowed ps)
    (λ o.
    ⊎_elim
    (λ h. (p.1, inl (λ i. (h.0 i, p.1)), h.1))
    (λ h. (h.0, inr h.1, h.2))
    o)
    (λ h.
    ⊎_elim
    (λ e. inl (ap (λ (r : Word × Word). r.0) e, subst (λ w. w ∈ allowed → ⊥) (ap (λ (r : Word × Word). r.1) e) h.2))
    (λ m. inr (h.0, m, h.2))
    h.1)
    (Decides-or (bytes_eq param p.0 && not (listed allowed p.1)) (strays param allowed ps)
    (Decides-and (bytes_eq param p.0) (not (listed allowed p.1)) (bytes_eq-Decides param p.0)
    (Decides-not (listed allowed p.1) (listed_decides allowed p.1)))
    (strays_decides allowed param ps))

pub stray_param_decides :
    (allowed : List Word) (param name : Word) (having : Params) (e : Event) →
    Decides (stray_param allowed param name having e)
    ((name ≡ e.name) ×
    (((p : Word × Word) → p ∈ having → p ∈ e.params) × ((v : Word) × ((param, v) ∈ e.params) × (v ∈ allowed → ⊥))))
stray_param_decides allowed param name having e =
    Decides-and (bytes_eq name e.name) (within_params having e.params && strays param allowed e.params)
    (bytes_eq-Decides name e.name)
    (Decides-and (within_params having e.params) (strays param allowed e.params)
    (within_decides having e.params) (strays_decides allowed param e.params))
