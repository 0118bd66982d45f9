-- The questions that the parts of a sheet answer, and the first that says no. Assumes nothing.
use Rattle.std.specs.Prelude.{ℕ, ◌*◌, Bool, true, not, ◌&&◌, List, [], ◌∷◌, length, Option, nat_le}
use Rattle.std.specs.List.{list_all, find}
use Rattle.watch.specs.Letters.{most_events}
use Rattle.watch.specs.Watchers.{most_marks, most_states}
use Rattle.osl.specs.declared.event.Event.{Event}
use Rattle.osl.specs.declared.row.Row.{Row}
use Rattle.rows.specs.Stepping.{states}
use Rattle.expression.specs.Formulas.{Formula}
use Rattle.expression.specs.Writing.{written}
use Rattle.expression.specs.declared.token.Token.{Token}
use Rattle.expression.specs.declared.token.Token.TheVariants.{And, Or, Implies, Not, Term}
use Rattle.limits.specs.declared.refusal.Refusal.{Refusal}
use Rattle.limits.specs.declared.refusal.Refusal.TheVariants.{Counts, Form, Range, Events, Undeclared, Fixed, Terms, States}
use Rattle.limits.specs.Forms.{event_formed, row_formed, row_in_range, row_free}
use Rattle.limits.specs.Events.{events_apart}
use Rattle.limits.specs.Declaring.{row_declared}

-- A term is the number of a row, counted from 1.
abbrev pub term_within : ℕ → Token → Bool
term_within rows And = true
term_within rows Or = true
term_within rows Implies = true
term_within rows Not = true
term_within rows (Term i) = nat_le 1 i && nat_le i rows

-- The states of all rows together: the product.
abbrev pub product : List Row → ℕ
product [] = 1
product (r ∷ rs) = states r * product rs

-- What each question says, yes or no, of some events, rows and what is kept.
abbrev pub says : Refusal → List Event → List Row → Formula → Bool
says Counts events rows keep = nat_le 1 (length events) && nat_le (length events) most_events && nat_le 1 (length rows) && nat_le (length rows) most_marks
says Form events rows keep = list_all event_formed events && list_all row_formed rows
says Range events rows keep = list_all row_in_range rows
says Events events rows keep = events_apart events
says Undeclared events rows keep = list_all (row_declared events) rows
says Fixed events rows keep = list_all row_free rows
says Terms events rows keep = list_all (term_within (length rows)) (written keep)
says States events rows keep = nat_le (product rows) most_states

-- The questions in their order.
abbrev pub asked : List Refusal
asked = Counts ∷ (Form ∷ (Range ∷ (Events ∷ (Undeclared ∷ (Fixed ∷ (Terms ∷ (States ∷ [])))))))

-- Every question says yes.
abbrev pub all_yes : List Event → List Row → Formula → Bool
all_yes events rows keep = list_all (λ q. says q events rows keep) asked

-- The first question that says no.
abbrev pub judged : List Event → List Row → Formula → Option Refusal
judged events rows keep = find (λ q. not (says q events rows keep)) asked
