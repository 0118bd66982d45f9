-- The states of a group are put into a table.
use Rattle.std.proofs.Common.{◌≡◌, ℕ, suc, ◌+◌, ◌<◌, Bool, true, false, List, [], ◌∷◌, length, set, get_or, Option, Some, refl, sym, ap, ◌∙◌, inl, inr, ⊎_elim, arith, length-set}
use Rattle.std.specs.List.{list_any}
use Rattle.std.proofs.lemmas.List.Folds.{list_any_at}
use Rattle.std.proofs.lemmas.List.{get_or_default}
use Rattle.std.proofs.lemmas.Option.{same_Some}
use Rattle.std.proofs.lemmas.Bool.{cases_eq, both_ways, or_cases}
use Rattle.outlook.specs.Outlooks.{at}
use Rattle.outlook.specs.inner.Tables.{no_stop, stop_at, state_at, Filled, SomeIn, Shared}
use Rattle.outlook.specs.declared.state.State.{State}
use Rattle.outlook.specs.declared.search.Stop.{Stop}
use Rattle.outlook.proofs.Basics.{at_same, at_other}

-- A write puts a state in, and takes none out.
pub still : (table : List Bool) (s z : ℕ) → s < length table → at table z ≡ true → at (set table s true) z ≡ true
still table s z fits e =
    ⊎_elim (λ is. ap (at (set table s true)) is ∙ at_same table s true fits) (λ ne. at_other table s z true ne ∙ e) (cases_eq z s)

-- A stop that was read, at any default.
pub stop_is : (stops : List Stop) (i : ℕ) (x : Stop) → i < length stops → x ≡ get_or stops i x → stop_at stops i ≡ x
stop_is stops i x lt is = get_or_default stops i no_stop x lt ∙ sym is

pub stop_read : (stops : List Stop) (i : ℕ) (x : Stop) → i < length stops → x ≡ get_or stops i x → state_at stops i ≡ x.state.number
stop_read stops i x lt is = ap (λ (y : Stop). y.state.number) (stop_is stops i x lt is)

pub some_in : (before : List Bool) (group : List Stop) → list_any (λ (s : Stop). at before s.state.number) group ≡ true → SomeIn group before
some_in before [] e = absurd (both_ways _ refl e)
some_in before (s ∷ group) e =
    ⊎_elim (λ this. (0, omega arith, this)) (λ rest. let h = some_in before group rest in (suc h.0, omega (arith, h.1), h.2)) (or_cases _ _ e)

pub none_in : (before : List Bool) (group : List Stop) → list_any (λ (s : Stop). at before s.state.number) group ≡ false → (k : ℕ) → k < length group → at before (state_at group k) ≡ true → ⊥
none_in before group e k lt is = both_ways _ e (list_any_at (λ (s : Stop). at before s.state.number) group k no_stop lt is)

module _ (group : List Stop) (before : List Bool) where
  pub filled_none : Filled group 0 before before
  filled_none = record { long = refl; kept = λ z e. e; put = λ k low. absurd (omega arith); only = λ z e. inl e }

  pub filled_more : (i : ℕ) (table : List Bool) → state_at group i < length table → Filled group i before table → Filled group (i + 1) before (set table (state_at group i) true)
  filled_more i table fits x = record {
    long = length-set table (state_at group i) true ∙ x.long;
    kept = λ z e. still table (state_at group i) z fits (x.kept z e);
    put = λ k low. ⊎_elim (λ is. ap (λ (n : ℕ). at (set table (state_at group i) true) (state_at group n)) is ∙ at_same table (state_at group i) true fits) (λ ne. still table (state_at group i) _ fits (x.put k (omega (arith, ne)))) (cases_eq k i);
    only = λ z e. ⊎_elim (λ is. inr (i, omega arith, sym is)) (λ ne. ⊎_elim (λ old. inl old) (λ h. inr (h.0, omega (arith, h.1), h.2)) (x.only z (sym (at_other table (state_at group i) z true ne) ∙ e))) (cases_eq z (state_at group i));
  }

module _ (group : List Stop) (parent : Option State) (before : List Bool) where
  -- None of them was in the table.
  pub shared_none : ((k : ℕ) → k < length group → at before (state_at group k) ≡ true → ⊥) → Shared group parent before before
  shared_none none = record {
    long = refl;
    kept = λ z e. e;
    only = λ z e. inl e;
    even = λ j k low _ e. absurd (none j low e);
    told = λ k q low _ e. absurd (none k low e);
  }

  module _ (some : SomeIn group before) (filled : List Bool) (x : Filled group (length group) before filled) where
    -- They were reached from none.
    pub shared_alone : ((q : State) → parent ≡ Some q → ⊥) → Shared group parent before filled
    shared_alone none = record {
      long = x.long;
      kept = x.kept;
      only = λ z e. ⊎_elim (λ old. inl old) (λ h. inr (some, inl h)) (x.only z e);
      even = λ j k _ low _. x.put k low;
      told = λ k q _ is _. absurd (none q is);
    }

    pub shared_told : (q : State) → parent ≡ Some q → q.number < length filled → Shared group parent before (set filled q.number true)
    shared_told q is fits = record {
      long = length-set filled q.number true ∙ x.long;
      kept = λ z e. still filled q.number z fits (x.kept z e);
      only = λ z e. ⊎_elim (λ this. inr (some, inr (q, is, sym this))) (λ ne. ⊎_elim (λ old. inl old) (λ h. inr (some, inl h)) (x.only z (sym (at_other filled q.number z true ne) ∙ e))) (cases_eq z q.number);
      even = λ j k _ low _. still filled q.number _ fits (x.put k low);
      told = λ k n _ e _. ap (λ (y : State). at (set filled q.number true) y.number) (same_Some _ _ (sym e ∙ is)) ∙ at_same filled q.number true fits;
    }
