-- The steps of a trace are sets. Assumes nothing.
use Rattle.std.proofs.Common.{◌≡◌, ℕ, suc, Bool, true, false, cond, eqb, ◌⊎◌, List, [], ◌∷◌, ◌++◌, map, refl, ap, subst, inl, inr, ⊎_elim}
use Rattle.osl.specs.Osl.{Event, IndEvent, start, ongoing, ◌∈◌}
use Rattle.osl.specs.Terms.{as_event}
use Rattle.watch.specs.Steps.{digit}
use Rattle.osl.specs.Traces.{entries, entries_from}
use Rattle.osl.specs.Sets.{SameEvent, SameEntry, Apart, StepsAreSets, CountsAreSizes}
use Rattle.osl.proofs.Deciding.{satisfies_decides}

among : {A : Type 0} (x : A) (xs ys : List A) → x ∈ (xs ++ ys) → (x ∈ xs) ⊎ (x ∈ ys)
among x [] ys m = inr m
among x (z ∷ zs) ys m = ⊎_elim (λ e. inl (inl e)) (λ k. ⊎_elim (λ l. inl (inr l)) (λ r. inr r) (among x zs ys k)) m

apart-append :
    {A : Type 0} (R : A → A → Type 0) (xs ys : List A) → Apart R xs → Apart R ys →
    ((x y : A) → x ∈ xs → y ∈ ys → R x y → ⊥) → Apart R (xs ++ ys)
apart-append R [] ys p q cross = q
apart-append R (x ∷ xs) ys p q cross = (
  λ y m r. ⊎_elim (λ k. p.0 y k r) (λ k. cross x y (inl refl) k r) (among y xs ys m),
  apart-append R xs ys p.1 q (λ a b m k. cross a b (inr m) k),
)

-- the entries of one event: x and y are whether its digit is 1 and whether it is 2
module _ (e : Event) where
  abbrev chosen : Bool → Bool → List IndEvent
  chosen x y = cond x (record { event = e; index = start } ∷ []) (cond y (record { event = e; index = ongoing } ∷ []) [])

  chosen_of : (x y : Bool) (ie : IndEvent) → ie ∈ chosen x y → ie.event ≡ e
  chosen_of true y ie m = ⊎_elim (λ p. ap (λ (i : IndEvent). i.event) p) (λ k. absurd k) m
  chosen_of false true ie m = ⊎_elim (λ p. ap (λ (i : IndEvent). i.event) p) (λ k. absurd k) m
  chosen_of false false ie m = absurd m

  chosen_apart : (x y : Bool) → Apart SameEntry (chosen x y)
  chosen_apart true y = (λ z m _. m, tt)
  chosen_apart false true = (λ z m _. m, tt)
  chosen_apart false false = tt

from_declared : (i : ℕ) (es : List Event) (letter : ℕ) (ie : IndEvent) → ie ∈ entries_from i es letter → ie.event ∈ es
from_declared i [] letter ie m = m
from_declared i (e ∷ es) letter ie m =
    ⊎_elim
    (λ k. inl (chosen_of e (eqb (digit letter i) 1) (eqb (digit letter i) 2) ie k))
    (λ k. inr (from_declared (suc i) es letter ie k))
    (among ie (entries e (digit letter i)) (entries_from (suc i) es letter) m)

apart_from : (i : ℕ) (es : List Event) (letter : ℕ) → Apart SameEvent es → Apart SameEntry (entries_from i es letter)
apart_from i [] letter p = tt
apart_from i (e ∷ es) letter p =
    apart-append SameEntry (entries e (digit letter i)) (entries_from (suc i) es letter)
    (chosen_apart e (eqb (digit letter i) 1) (eqb (digit letter i) 2))
    (apart_from (suc i) es letter p.1)
    (λ x y m k r.
    p.0 y.event (from_declared (suc i) es letter y k)
    (subst (λ (f : Event). SameEvent f y.event) (chosen_of e (eqb (digit letter i) 1) (eqb (digit letter i) 2) x m) r.0))

pub steps_are_sets : StepsAreSets
steps_are_sets events p letter = apart_from 0 (map as_event events) letter p

pub counts_are_sizes : CountsAreSizes
counts_are_sizes = satisfies_decides
