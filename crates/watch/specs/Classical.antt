-- "Or" and "some" as in classical logic. The logic of the proofs is constructive: there "P or Q" would say which, and "some x"
-- would name one. So what the subject means by them is said by what cannot all fail. Assumes nothing.

-- One of two facts holds: they do not both fail.
abbrev pub Either : Type 0 → Type 0 → Type 0
Either P Q = (P → ⊥) → (Q → ⊥) → ⊥

-- Something has the property: it does not fail of everything.
abbrev pub Exists : {A : Type 0} → (A → Type 0) → Type 0
Exists {A} P = ((x : A) → P x → ⊥) → ⊥
