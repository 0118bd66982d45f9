-- Where no question says no, each says yes. Assumes nothing.
use Rattle.std.proofs.Common.{◌≡◌, Bool, true, false, not, cond, ◌&&◌, List, [], ◌∷◌, Some, None, refl}
use Rattle.std.specs.List.{list_all, find}
use Rattle.std.proofs.lemmas.Bool.{and_parts}
use Rattle.osl.specs.declared.event.Event.{Event}
use Rattle.osl.specs.declared.row.Row.{Row}
use Rattle.expression.specs.Formulas.{Formula}
use Rattle.limits.specs.declared.refusal.Refusal.TheVariants.{Counts, Form, Range, Events, Undeclared, Fixed, Terms, States}
use Rattle.limits.specs.Questions.{says, asked, all_yes, judged}

pub record Passes (events : List Event) (rows : List Row) (keep : Formula) : Type 0 where
  pub counts : says Counts events rows keep ≡ true
  pub form : says Form events rows keep ≡ true
  pub range : says Range events rows keep ≡ true
  pub apart : says Events events rows keep ≡ true
  pub declared : says Undeclared events rows keep ≡ true
  pub free : says Fixed events rows keep ≡ true
  pub terms : says Terms events rows keep ≡ true
  pub states : says States events rows keep ≡ true

pub passes : (events : List Event) (rows : List Row) (keep : Formula) → all_yes events rows keep ≡ true → Passes events rows keep
passes events rows keep e =
    let a = and_parts (says Counts events rows keep) _ e in
    let b = and_parts (says Form events rows keep) _ a.1 in
    let c = and_parts (says Range events rows keep) _ b.1 in
    let d = and_parts (says Events events rows keep) _ c.1 in
    let f = and_parts (says Undeclared events rows keep) _ d.1 in
    let g = and_parts (says Fixed events rows keep) _ f.1 in
    let h = and_parts (says Terms events rows keep) _ g.1 in
    let i = and_parts (says States events rows keep) _ h.1 in
    record {
      counts = a.0;
      form = b.0;
      range = c.0;
      apart = d.0;
      declared = f.0;
      free = g.0;
      terms = h.0;
      states = i.0;
    }

none_found : {X : Type 0} (p : X → Bool) (xs : List X) → find (λ x. not (p x)) xs ≡ None → list_all p xs ≡ true
none_found p [] e = refl
none_found p (x ∷ xs) e = go (p x) e (λ rest. none_found p xs rest)
  where
    go : (b : Bool) → cond (not b) (Some x) (find (λ y. not (p y)) xs) ≡ None →
        (find (λ y. not (p y)) xs ≡ None → list_all p xs ≡ true) → (b && list_all p xs) ≡ true
    go true e more = more e
    go false e more = cc

-- a sheet that is not refused answers every question with yes
pub all_said_yes : (events : List Event) (rows : List Row) (keep : Formula) → judged events rows keep ≡ None → all_yes events rows keep ≡ true
all_said_yes events rows keep e = none_found (λ q. says q events rows keep) asked e
