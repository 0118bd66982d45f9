-- OSL, the Obligation Specification Language: events, traces, formulas, and when a formula holds at a step of a trace.
--
-- OSL's semantics is classical. Its "or" is Either here, and its "there is" is Exists: not both fail, not all fail. Every formula then
-- means what OSL says to a reader who reasons classically. Assumes nothing.
use Rattle.std.specs.Prelude.{◌≡◌, ℕ, zero, suc, ◌+◌, ◌<◌, ◌≤◌, Bool, true, false, cond, ◌&&◌, ◌⊎◌, List, [], ◌∷◌}
use Rattle.std.specs.Str.{bytes_eq}
use Rattle.std.specs.List.{list_any, list_all}
use Rattle.watch.specs.Classical.{Either, Exists}

infix 50 ◌∈◌
-- x stands in a list
abbrev pub ◌∈◌ : {A : Type 0} → A → List A → Type 0
x ∈ [] = ⊥
x ∈ (y ∷ ys) = (x ≡ y) ⊎ (x ∈ ys)

-- ## Events

-- The names of events and of parameters, and the values of parameters: lists of letters' codes.
abbrev pub Word : Type 0
Word = List ℕ

-- Parameters are a function from names to values, here by its graph: pairs of a name and its value.
abbrev pub Params : Type 0
Params = List (Word × Word)

pub data Class : Type 0 where
  usage other : Class

pub record Event : Type 0 where
  pub name : Word
  pub params : Params

-- An event starts in a step, or goes on in it.
pub data Index : Type 0 where
  start ongoing : Index

pub record IndEvent : Type 0 where
  pub event : Event
  pub index : Index

-- What happens in each step, from step 0 on and without end: a finite set of indexed events, as a list without repetition.
abbrev pub Trace : Type 0
Trace = ℕ → List IndEvent

-- ## Formulas

pub data Formula : Type 0 where
  True False : Formula
  -- the start of an event; an event that is starting or ongoing
  First Any : Event → Formula
  Not : Formula → Formula
  And Or Implies : Formula → Formula → Formula
  Until : Formula → Formula → Formula
  Always : Formula → Formula
  After Within During : ℕ → Formula → Formula
  RepMax : ℕ → Formula → Formula
  RepUntil : ℕ → Formula → Formula → Formula
  PermitOnlyEvName : List Word → Params → Formula
  PermitOnlyParam : List Word → Word → Word → Params → Formula

-- e₂ refines e₁: they have one name, and each parameter of e₁ has the same value in e₂, which may have more.
infix 50 ◌refines◌
abbrev pub ◌refines◌ : Event → Event → Type 0
e₂ refines e₁ = (e₁.name ≡ e₂.name) × ((p : Word × Word) → p ∈ e₁.params → p ∈ e₂.params)

-- An indexed event satisfies an event expression, First e or Any e, and no other formula.
abbrev pub Satisfies : IndEvent → Formula → Type 0
Satisfies ie (First e) = (ie.event refines e) × (ie.index ≡ start)
Satisfies ie (Any e) = ie.event refines e
Satisfies ie True = ⊥
Satisfies ie False = ⊥
Satisfies ie (Not φ) = ⊥
Satisfies ie (And φ ψ) = ⊥
Satisfies ie (Or φ ψ) = ⊥
Satisfies ie (Implies φ ψ) = ⊥
Satisfies ie (Until φ ψ) = ⊥
Satisfies ie (Always φ) = ⊥
Satisfies ie (After n φ) = ⊥
Satisfies ie (Within n φ) = ⊥
Satisfies ie (During n φ) = ⊥
Satisfies ie (RepMax l φ) = ⊥
Satisfies ie (RepUntil l φ ψ) = ⊥
Satisfies ie (PermitOnlyEvName ex ps) = ⊥
Satisfies ie (PermitOnlyParam ex pn en ps) = ⊥

-- An indexed event of step n satisfies an event expression.
abbrev pub Happens : Trace → ℕ → Formula → Type 0
Happens t n φ = Exists (λ ie. (ie ∈ t n) × Satisfies ie φ)

-- ## Counting
-- The number of indexed events of a step that satisfy an event expression. It takes a test for Satisfies, which is proved to decide it.

abbrev pub same_pair : Word × Word → Word × Word → Bool
same_pair p q = bytes_eq p.0 q.0 && bytes_eq p.1 q.1

abbrev pub has : Params → Word × Word → Bool
has qs p = list_any (same_pair p) qs

-- each pair of the first list stands in the second
abbrev pub within_params : Params → Params → Bool
within_params ps qs = list_all (has qs) ps

abbrev pub refines? : Event → Event → Bool
refines? e₂ e₁ = bytes_eq e₁.name e₂.name && within_params e₁.params e₂.params

abbrev pub is_start : Index → Bool
is_start start = true
is_start ongoing = false

abbrev pub satisfies? : IndEvent → Formula → Bool
satisfies? ie (First e) = refines? ie.event e && is_start ie.index
satisfies? ie (Any e) = refines? ie.event e
satisfies? ie True = false
satisfies? ie False = false
satisfies? ie (Not φ) = false
satisfies? ie (And φ ψ) = false
satisfies? ie (Or φ ψ) = false
satisfies? ie (Implies φ ψ) = false
satisfies? ie (Until φ ψ) = false
satisfies? ie (Always φ) = false
satisfies? ie (After n φ) = false
satisfies? ie (Within n φ) = false
satisfies? ie (During n φ) = false
satisfies? ie (RepMax l φ) = false
satisfies? ie (RepUntil l φ ψ) = false
satisfies? ie (PermitOnlyEvName ex ps) = false
satisfies? ie (PermitOnlyParam ex pn en ps) = false

abbrev pub count : Formula → List IndEvent → ℕ
count φ [] = 0
count φ (ie ∷ ies) = cond (satisfies? ie φ) 1 0 + count φ ies

-- an event expression: what may be counted
abbrev pub Countable : Formula → Type 0
Countable φ = Exists (λ e. Either (φ ≡ First e) (φ ≡ Any e))

-- the sum of the first k numbers of a sequence
abbrev pub sum : (ℕ → ℕ) → ℕ → ℕ
sum c zero = 0
sum c (suc k) = sum c k + c k

-- how often an event expression is satisfied in the k steps from step n on
abbrev pub total : Trace → Formula → ℕ → ℕ → ℕ
total t φ n k = sum (λ j. count φ (t (n + j))) k

-- ## When a formula holds at step n of a trace t
-- The present step is included throughout. getclass answers for the class of a name.

abbrev pub Holds : (Word → Class) → Trace → ℕ → Formula → Type 0
Holds getclass t n True = Unit {0}
Holds getclass t n False = ⊥
Holds getclass t n (First e) = Happens t n (First e)
Holds getclass t n (Any e) = Happens t n (Any e)
Holds getclass t n (Not φ) = Holds getclass t n φ → ⊥
Holds getclass t n (And φ ψ) = Holds getclass t n φ × Holds getclass t n ψ
Holds getclass t n (Or φ ψ) = Either (Holds getclass t n φ) (Holds getclass t n ψ)
Holds getclass t n (Implies φ ψ) = Holds getclass t n φ → Holds getclass t n ψ
-- ψ holds at some step u from n on, and φ at each step before u; or φ holds at each step
Holds getclass t n (Until φ ψ) =
    Either
    (Exists (λ u. (n ≤ u) × Holds getclass t u ψ × ((v : ℕ) → n ≤ v → v < u → Holds getclass t v φ)))
    ((v : ℕ) → n ≤ v → Holds getclass t v φ)
Holds getclass t n (Always φ) = (v : ℕ) → n ≤ v → Holds getclass t v φ
Holds getclass t n (After i φ) = Holds getclass t (n + i) φ
-- at one of the i steps from n on; at each of them
Holds getclass t n (Within i φ) = Exists (λ j. (j < i) × Holds getclass t (n + j) φ)
Holds getclass t n (During i φ) = (j : ℕ) → j < i → Holds getclass t (n + j) φ
Holds getclass t n (RepMax l φ) = Countable φ × ((u : ℕ) → total t φ n (suc u) ≤ l)
-- φ is counted through the first step with ψ, that step counted; or, without such a step, for ever
Holds getclass t n (RepUntil l φ ψ) =
    Countable φ ×
    Either
    (Exists (λ u. Holds getclass t (n + u) ψ × ((v : ℕ) → v < u → Holds getclass t (n + v) ψ → ⊥) × (total t φ n (suc u) ≤ l)))
    ((u : ℕ) → total t φ n (suc u) ≤ l)
-- no usage with these parameters has another name
Holds getclass t n (PermitOnlyEvName ex ps) =
    (en : Word) → getclass en ≡ usage → (en ∈ ex → ⊥) →
    (v : ℕ) → n ≤ v → Happens t v (Any (record { name = en; params = ps })) → ⊥
-- the parameter pn is not fixed already, and no event of this name and with these parameters has another value of it
Holds getclass t n (PermitOnlyParam ex pn en ps) =
    ((pv : Word) → (pn, pv) ∈ ps → ⊥) ×
    ((pv : Word) → (pv ∈ ex → ⊥) →
    (v : ℕ) → n ≤ v → Happens t v (Any (record { name = en; params = (pn, pv) ∷ ps })) → ⊥)
