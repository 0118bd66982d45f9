-- What the questions' yes gives: the limits of a sheet as facts. Assumes nothing.
use Rattle.std.specs.Prelude.{◌≡◌, ℕ, ◌<◌, Bool, true, false, not, ◌&&◌, List, [], ◌∷◌, map, length, vec_items, nat_le, nat_lt, refl}
use Rattle.std.proofs.Common.{sym, ap, subst, ◌∙◌, inl, inr, ⊎_elim}
use Rattle.std.specs.List.{AllByRecursion}
use Rattle.std.specs.Str.{bytes_eq}
use Rattle.std.proofs.lemmas.Bool.{and_parts, or_parts, ltb-true, leb-true, not-true, both_ways, cases_Bool, cond-true, cond-false, false≢true}
use Rattle.std.proofs.lemmas.Slice.Eq.{bytes_eq-Decides}
use Rattle.std.proofs.lemmas.Bool.Decides.{not_from_Decides}
use Rattle.std.specs.List.{list_all, list_any}
use Rattle.text.specs.Lists.{apart}
use Rattle.text.specs.Names.{name_bytes}
use Rattle.watch.specs.Letters.{most_events}
use Rattle.watch.specs.Watchers.{most_marks, most_states}
use Rattle.osl.specs.declared.event.Class.{Class}
use Rattle.osl.specs.declared.event.Class.TheVariants.{Use, Other}
use Rattle.osl.specs.declared.event.Event.{Event}
use Rattle.osl.specs.declared.event.Param.{Param}
use Rattle.osl.specs.declared.row.Row.{Row}
use Rattle.osl.specs.declared.row.Row.TheVariants.{Until, Always, After, Within, During, Most, MostUntil, Answer, Names, Values}
use Rattle.osl.specs.Osl as osl
use Rattle.osl.specs.Osl.{Word, ◌∈◌, within_params}
use Rattle.osl.specs.Sets.{Apart, SameEvent}
use Rattle.osl.specs.Terms.{pairs, as_class, as_event}
use Rattle.osl.specs.Traces.{class_of}
use Rattle.osl.specs.Matching.{same_event?}
use Rattle.osl.proofs.Deciding.{within_decides}
use Rattle.rows.specs.Meaning.{Declared, Lawful}
use Rattle.expression.specs.Formulas.{Formula}
use Rattle.limits.specs.Forms.{row_in_range, called, row_free}
use Rattle.limits.specs.Events.{same_class, events_clash, params_once}
use Rattle.limits.specs.Questions.{product, all_yes}
use Rattle.limits.proofs.Passing.{passes}
use Rattle.sheet.specs.Bounds.{Bounds}

pub within : (events : List Event) (rows : List Row) (keep : Formula) → all_yes events rows keep ≡ true → Bounds events rows
within events rows keep e =
    let p = passes events rows keep e in
    let a = and_parts (nat_le 1 (length events) && nat_le (length events) most_events && nat_le 1 (length rows)) (nat_le (length rows) most_marks) p.counts in
    let b = and_parts (nat_le 1 (length events) && nat_le (length events) most_events) (nat_le 1 (length rows)) a.0 in
    let c = and_parts (nat_le 1 (length events)) (nat_le (length events) most_events) b.0 in
    record {
      some_events = leb-true 1 (length events) c.0;
      few_events = leb-true (length events) most_events c.1;
      some_rows = leb-true 1 (length rows) b.1;
      few_rows = leb-true (length rows) most_marks a.1;
      few_states = leb-true (product rows) most_states p.states;
    }

-- ## Rows

at_least_one : (n : ℕ) → (nat_lt 0 n && nat_le n 1000) ≡ true → 0 < n
at_least_one n e = ltb-true 0 n (and_parts (nat_lt 0 n) (nat_le n 1000) e).0

unfixed : (ps : List Param) (w : Word) → list_any (called w) ps ≡ false → (v : Word) → (w, v) ∈ pairs ps → ⊥
unfixed [] w e v m = m
unfixed (p ∷ ps) w e v m =
    let q = or_parts (called w p) (list_any (called w) ps) e in
    ⊎_elim
    (λ is. not_from_Decides (called w p) (bytes_eq-Decides w (name_bytes p.name)) q.0 (ap (λ (r : Word × Word). r.0) is))
    (λ k. unfixed ps w q.1 v k)
    m

lawful_row : (row : Row) → row_in_range row ≡ true → row_free row ≡ true → Lawful row
lawful_row (Until a b) e f = tt
lawful_row (Always a) e f = tt
lawful_row (After n a) e f = tt
lawful_row (Within n a) e f = at_least_one n e
lawful_row (During n a) e f = tt
lawful_row (Most l c) e f = tt
lawful_row (MostUntil l c b) e f = tt
lawful_row (Answer n a b) e f = at_least_one n e
lawful_row (Names p) e f = tt
lawful_row (Values p) e f = unfixed (vec_items p.having) (name_bytes p.param) (not-true (list_any (called (name_bytes p.param)) (vec_items p.having)) f)

lawful_all : (rows : List Row) → list_all row_in_range rows ≡ true → list_all row_free rows ≡ true → AllByRecursion Lawful rows
lawful_all [] e f = tt
lawful_all (r ∷ rs) e f =
    let p = and_parts (row_in_range r) (list_all row_in_range rs) e in
    let q = and_parts (row_free r) (list_all row_free rs) f in
    (lawful_row r p.0 q.0, lawful_all rs p.1 q.1)

pub lawful_rows : (events : List Event) (rows : List Row) (keep : Formula) → all_yes events rows keep ≡ true → AllByRecursion Lawful rows
lawful_rows events rows keep e = let p = passes events rows keep e in lawful_all rows p.range p.free

-- ## Events

-- two events that do not clash
module _ (e d : Event) (fine : events_clash e d ≡ false) where
  clash_parts : (same_event? e d ≡ false) × ((bytes_eq (name_bytes e.name) (name_bytes d.name) && not (same_class e.class d.class)) ≡ false)
  clash_parts = or_parts (same_event? e d) (bytes_eq (name_bytes e.name) (name_bytes d.name) && not (same_class e.class d.class)) fine

  class_is : (a b : Class) → not (same_class a b) ≡ false → a ≡ b
  class_is Use Use h = refl
  class_is Use Other h = absurd (false≢true (sym h))
  class_is Other Use h = absurd (false≢true (sym h))
  class_is Other Other h = refl

  one_class : bytes_eq (name_bytes e.name) (name_bytes d.name) ≡ true → e.class ≡ d.class
  one_class same =
      class_is e.class d.class
      (sym (ap (λ (b : Bool). b && not (same_class e.class d.class)) same) ∙ clash_parts.1)

  not_same : SameEvent (as_event e) (as_event d) → ⊥
  not_same s =
      let name = (bytes_eq-Decides (name_bytes e.name) (name_bytes d.name)).1 s.1.0 in
      let one = (within_decides (pairs (vec_items d.params)) (pairs (vec_items e.params))).1 s.0.1 in
      let two = (within_decides (pairs (vec_items e.params)) (pairs (vec_items d.params))).1 s.1.1 in
      both_ways (same_event? e d) clash_parts.0 (all_true _ _ _ name one two)
    where
      all_true : (a b c : Bool) → a ≡ true → b ≡ true → c ≡ true → (a && (b && c)) ≡ true
      all_true true true true x y z = refl
      all_true true true false x y z = z
      all_true true false c x y z = y
      all_true false b c x y z = x

none_of : (e : Event) (es : List Event) → list_any (events_clash e) es ≡ false → AllByRecursion (λ d. events_clash e d ≡ false) es
none_of e [] h = tt
none_of e (d ∷ ds) h = let p = or_parts (events_clash e d) (list_any (events_clash e) ds) h in (p.0, none_of e ds p.1)

all_two : {X : Type 0} {P Q R : X → Type 0} → ((x : X) → P x → Q x → R x) → (xs : List X) → AllByRecursion P xs → AllByRecursion Q xs → AllByRecursion R xs
all_two f [] h k = tt
all_two f (x ∷ xs) h k = (f x h.0 k.0, all_two f xs h.1 k.1)

-- the events behind one have the class of their name beside it, too
beside : (e : Event) (es : List Event) (d : Event) → events_clash e d ≡ false →
    class_of es (name_bytes d.name) ≡ as_class d.class → class_of (e ∷ es) (name_bytes d.name) ≡ as_class d.class
beside e es d fine is =
    elim (cases_Bool (bytes_eq (name_bytes d.name) (name_bytes e.name))) [
      | inl same ↦
          cond-true _ _ _ same ∙
          ap as_class
          (one_class e d fine
          ((bytes_eq-Decides (name_bytes e.name) (name_bytes d.name)).1
          (sym ((bytes_eq-Decides (name_bytes d.name) (name_bytes e.name)).0 same))))
      | inr other ↦ cond-false _ _ _ other ∙ is
    ]

classed : (es : List Event) → apart events_clash es ≡ true → AllByRecursion (λ e. class_of es (name_bytes e.name) ≡ as_class e.class) es
classed [] h = tt
classed (e ∷ es) h =
    let p = and_parts (not (list_any (events_clash e) es)) (apart events_clash es) h in
    let fine = none_of e es (not-true (list_any (events_clash e) es) p.0) in (
      cond-true _ _ _ ((bytes_eq-Decides (name_bytes e.name) (name_bytes e.name)).1 refl),
      all_two (λ d f is. beside e es d f is) es fine (classed es p.1),
    )

members : (P : osl.Event → Type 0) (es : List Event) → AllByRecursion (λ d. P (as_event d)) es → (y : osl.Event) → y ∈ map as_event es → P y
members P [] h y m = absurd m
members P (d ∷ ds) h y m = ⊎_elim (λ is. subst P (sym is) h.0) (λ k. members P ds h.1 y k) m

differ : (es : List Event) → apart events_clash es ≡ true → Apart SameEvent (map as_event es)
differ [] h = tt
differ (e ∷ es) h =
    let p = and_parts (not (list_any (events_clash e) es)) (apart events_clash es) h in
    let fine = none_of e es (not-true (list_any (events_clash e) es) p.0) in (
      members (λ y. SameEvent (as_event e) y → ⊥) es (all_two (λ d f _. not_same e d f) es fine fine),
      differ es p.1,
    )

apart_yes : (events : List Event) (rows : List Row) (keep : Formula) → all_yes events rows keep ≡ true → apart events_clash events ≡ true
apart_yes events rows keep e = (and_parts (apart events_clash events) (list_all params_once events) (passes events rows keep e).apart).0

pub declared : (events : List Event) (rows : List Row) (keep : Formula) → all_yes events rows keep ≡ true → Declared events
declared events rows keep e =
    record { few = (within events rows keep e).few_events; classed = classed events (apart_yes events rows keep e) }

pub events_differ : (events : List Event) (rows : List Row) (keep : Formula) → all_yes events rows keep ≡ true → Apart SameEvent (map as_event events)
events_differ events rows keep e = differ events (apart_yes events rows keep e)
