-- Every row's automaton is never broken exactly when the row's formula holds at step 0. Assumes nothing.
use Rattle.std.proofs.Common.{◌≡◌, ℕ, suc, ◌+◌, ◌<◌, ◌≤◌, Bool, not, ◌&&◌, ltb, ◌↔◌, List, [], ◌∷◌, length, vec_items, Decides, sym, refl, ap, ◌∙◌, subst, inl, inr, ⊎_elim, zero-le, zero-add}
use mathlib.Core.Path.{fun_ext}
use mathlib.Core.Bool.{false≢true}
use Rattle.std.proofs.lemmas.Bool.Decides.{Decides-not, Decides-at}
use Rattle.std.specs.List.{AllByRecursion}
use Rattle.text.specs.Names.{name_bytes}
use Rattle.watch.specs.Classical.{Either, Exists}
use Rattle.watch.specs.Runs.{Run}
use Rattle.watch.specs.Letters.{most_events}
use Rattle.osl.specs.declared.event.Event.{Event}
use Rattle.osl.specs.declared.event.Class.{Class}
use Rattle.osl.specs.declared.event.Class.TheVariants.{Use, Other}
use Rattle.osl.specs.declared.event.Pattern.{Pattern}
use Rattle.osl.specs.declared.row.PermittedNames.{PermittedNames}
use Rattle.osl.specs.declared.row.PermittedValues.{PermittedValues}
use Rattle.osl.specs.declared.row.Test.{Test}
use Rattle.osl.specs.declared.row.Test.TheVariants.{True, False, First, Any, NoFirst, NoAny}
use Rattle.osl.specs.declared.row.Count.{Count}
use Rattle.osl.specs.declared.row.Count.TheVariants.{First as First', Any as Any'}
use Rattle.osl.specs.declared.row.Row.{Row}
use Rattle.osl.specs.declared.row.Row.TheVariants.{Until, Always, After, Within, During, Most, MostUntil, Answer, Names, Values}
use Rattle.osl.specs.Osl as osl
use Rattle.osl.specs.Osl.{◌∈◌, Word, Params, IndEvent, Trace, Formula, Holds, Countable, within_params, count, sum, total, usage}
use Rattle.osl.specs.Terms.{words, pairs, as_event, as_class, as_pattern, as_test, as_count, row_formula}
use Rattle.osl.specs.Traces.{trace, class_of}
use Rattle.osl.specs.Matching.{matches, is_use, listed, names_forbid, values_forbid}
use Rattle.osl.specs.Resolving.{set_of, test_set, count_set, matched_by}
use Rattle.osl.proofs.Deciding.{happens, none, is_usage, stray_name, stray_param, happens_decides, none_decides, stray_name_decides, stray_param_decides}
use Rattle.rows.specs.declared.counting.Doing.{Doing}
use Rattle.rows.specs.declared.counting.Doing.TheVariants.{Starting, StartingOrOngoing}
use Rattle.rows.specs.Moves.{Never}
use Rattle.watch.specs.Steps.{digits_of}
use Rattle.rows.specs.Stepping.{occurs, absent, truth, number, moved, broken}
use Rattle.rows.specs.Meaning.{Declared, Lawful, Tells, RowMeansItsFormula}
use Rattle.rows.proofs.Streams.{until_right, always_right, after_right, within_right, during_right, most_right, repmax_right, answer_right}
use Rattle.rows.proofs.Counted.{expression, tally_count, happens_count, tally_none}

either_map : {A B C D : Type 0} → (A → C) → (B → D) → Either A B → Either C D
either_map f g e not-c not-d = e (λ a. not-c (f a)) (λ b. not-d (g b))

exists_map : {A : Type 0} {P Q : A → Type 0} → ((x : A) → P x → Q x) → Exists P → Exists Q
exists_map f some nowhere = some (λ x p. nowhere x (f x p))

all_from : {X : Type 0} {P : X → Type 0} → ((x : X) → P x) → (xs : List X) → AllByRecursion P xs
all_from f [] = tt
all_from f (x ∷ xs) = (f x, all_from f xs)

all_map : {X : Type 0} {P Q : X → Type 0} → ((x : X) → P x → Q x) → (xs : List X) → AllByRecursion P xs → AllByRecursion Q xs
all_map f [] h = tt
all_map f (x ∷ xs) h = (f x h.0, all_map f xs h.1)

use_usage : (c : Class) → is_use c ≡ is_usage (as_class c)
use_usage Use = refl
use_usage Other = refl

module _ (events : List Event) (few : length events ≤ most_events) (run : Run) where
  abbrev t : Trace
  t = trace events run

  abbrev ds : ℕ → List ℕ
  ds v = digits_of (run v)

  abbrev H : ℕ → Formula → Type 0
  H n φ = Holds (class_of events) t n φ

  -- some event of a pattern's set does what is meant exactly where this happens in the trace
  occurs_decides : (w : Doing) (p : Pattern) (v : ℕ) →
      Decides (occurs w (set_of (matches p) events) (ds v)) (Exists (λ ie. (ie ∈ t v) × osl.Satisfies ie (expression w (as_pattern p))))
  occurs_decides w p v =
      Decides-at (occurs w (set_of (matches p) events) (ds v)) (happens (expression w (as_pattern p)) (t v))
      (ap (λ (n : ℕ). ltb 0 n) (tally_count w p most_events events 0 (run v) few) ∙ happens_count (expression w (as_pattern p)) (t v))
      (happens_decides (expression w (as_pattern p)) (t v))

  -- a test's truth in a step decides whether its formula holds there
  abbrev holding : Test → ℕ → Bool
  holding a v = truth a (test_set events a) (ds v)

  test_decides : (a : Test) (v : ℕ) → Decides (holding a v) (H v (as_test a))
  test_decides True v = (λ _. tt, λ _. refl)
  test_decides False v = (λ e. absurd (false≢true e), λ h. absurd h)
  test_decides (First p) v = occurs_decides Starting p v
  test_decides (Any p) v = occurs_decides StartingOrOngoing p v
  test_decides (NoFirst p) v = Decides-not (occurs Starting (set_of (matches p) events) (ds v)) (occurs_decides Starting p v)
  test_decides (NoAny p) v = Decides-not (occurs StartingOrOngoing (set_of (matches p) events) (ds v)) (occurs_decides StartingOrOngoing p v)

  abbrev counting : Count → ℕ → ℕ
  counting c v = number c (count_set events c) (ds v)

  number_count : (c : Count) (v : ℕ) → counting c v ≡ count (as_count c) (t v)
  number_count (First' p) v = tally_count Starting p most_events events 0 (run v) few
  number_count (Any' p) v = tally_count StartingOrOngoing p most_events events 0 (run v) few

  -- a formula at step 0 + v is the formula at step v
  at : (φ : Formula) (v : ℕ) → H v φ → H (0 + v) φ
  at φ v = subst (λ i. H i φ) (sym (zero-add v))

  back : (φ : Formula) (v : ℕ) → H (0 + v) φ → H v φ
  back φ v = subst (λ i. H i φ) (zero-add v)

  sum_total : (c : Count) (k : ℕ) → sum (counting c) k ≡ total t (as_count c) 0 k
  sum_total c k =
      ap (λ (f : ℕ → ℕ). sum f k)
      (fun_ext (λ j. number_count c j ∙ ap (λ (i : ℕ). count (as_count c) (t i)) (sym (zero-add j))))

  fits : (c : Count) (k l : ℕ) → sum (counting c) k ≤ l → total t (as_count c) 0 k ≤ l
  fits c k l = subst (λ n. n ≤ l) (sum_total c k)

  fitted : (c : Count) (k l : ℕ) → total t (as_count c) 0 k ≤ l → sum (counting c) k ≤ l
  fitted c k l = subst (λ n. n ≤ l) (sym (sum_total c k))

  -- what a row counts is an event expression
  countable : (c : Count) → Countable (as_count c)
  countable (First' p) nowhere = nowhere (as_pattern p) (λ not_first _. not_first refl)
  countable (Any' p) nowhere = nowhere (as_pattern p) (λ _ not-any. not-any refl)

  -- the events of a set are absent exactly where no entry of the trace is astray
  absent_decides :
      (q : Event → Bool) (astray : osl.Event → Bool) (P : osl.Event → Type 0) → ((e : osl.Event) → Decides (astray e) (P e)) →
      AllByRecursion (λ e. q e ≡ astray (as_event e)) events → (v : ℕ) →
      Decides (absent (set_of q events) (ds v)) ((ie : IndEvent) → ie ∈ t v → P ie.event → ⊥)
  absent_decides q astray P d all v =
      Decides-at (absent (set_of q events) (ds v)) (none astray (t v))
      (tally_none q astray most_events events 0 (run v) few all) (none_decides astray P d (t v))

  abbrev Right : Row → Type 0
  Right row = Never (λ k s. moved row (matched_by events row) (ds k) s) (broken row) ↔ H 0 (row_formula row)

  right_until : (a b : Test) → Right (Until a b)
  right_until a b =
      let r = until_right (holding a) (holding b) (λ v. H v (as_test a)) (λ v. H v (as_test b)) (test_decides a) (test_decides b) in (
        λ never. either_map (exists_map (λ u h. (zero-le, h.0, λ v _ lt. h.1 v lt))) (λ all v _. all v) (r.0 never),
        λ holds. r.1 (either_map (exists_map (λ u h. (h.1, λ v lt. h.2 v zero-le lt))) (λ all v. all v zero-le) holds),
      )

  right_within : (n : ℕ) (a : Test) → 0 < n → Right (Within n a)
  right_within n a pos =
      let r = within_right n (holding a) (λ v. H v (as_test a)) (test_decides a) pos in (
        λ never. exists_map (λ j h. (h.0, at (as_test a) j h.1)) (r.0 never),
        λ some. r.1 (exists_map (λ j h. (h.0, back (as_test a) j h.1)) some),
      )

  right_most_until : (l : ℕ) (c : Count) (b : Test) → Right (MostUntil l c b)
  right_most_until l c b =
      let r = most_right l (counting c) (holding b) (λ v. H v (as_test b)) (test_decides b) in (
        λ never. (
          countable c,
          either_map
              (exists_map (λ u h. (at (as_test b) u h.0, λ v lt q. h.1 v lt (back (as_test b) v q), fits c (suc u) l h.2)))
              (λ all u. fits c (suc u) l (all u))
              (r.0 never),
        ),
        λ holds.
            r.1
            (either_map
            (exists_map (λ u h. (back (as_test b) u h.0, λ v lt q. h.1 v lt (at (as_test b) v q), fitted c (suc u) l h.2)))
            (λ all u. fitted c (suc u) l (all u))
            holds.1),
      )

  right_names : (p : PermittedNames) → AllByRecursion (λ e. class_of events (name_bytes e.name) ≡ as_class e.class) events → Right (Names p)
  right_names p classed =
      let ex : List Word = words (vec_items p.names) in
      let ps : Params = pairs (vec_items p.having) in
      let r =
      always_right (λ k. absent (set_of (names_forbid p) events) (ds k)) _
      (absent_decides (names_forbid p) (stray_name (class_of events) ex ps) _ (stray_name_decides (class_of events) ex ps)
      (all_map (λ e is.
      ap (λ (b : Bool). b && (not (listed ex (name_bytes e.name)) && within_params ps (pairs (vec_items e.params))))
      (use_usage e.class ∙ ap is_usage (sym is)))
      events classed))
      in (
        λ never en used out v _ some.
            some (λ ie h.
            r.0 never v ie h.0
            (subst (λ w. class_of events w ≡ usage) h.1.0 used, (subst (λ w. w ∈ ex → ⊥) h.1.0 out, h.1.1))),
        λ holds.
            r.1 (λ v ie m s. holds ie.event.name s.0 s.1.0 v zero-le (λ nowhere. nowhere ie (m, (refl, s.1.1)))),
      )

  right_values : (p : PermittedValues) → Lawful (Values p) → Right (Values p)
  right_values p lawful =
      let ex : List Word = words (vec_items p.values) in
      let ps : Params = pairs (vec_items p.having) in
      let pn : Word = name_bytes p.param in
      let en : Word = name_bytes p.event in
      let r =
      always_right (λ k. absent (set_of (values_forbid p) events) (ds k)) _
      (absent_decides (values_forbid p) (stray_param ex pn en ps) _ (stray_param_decides ex pn en ps) (all_from (λ e. refl) events))
      in (
        λ never. (
          lawful,
          λ pv out v _ some.
              some (λ ie h.
              r.0 never v ie h.0
              (h.1.0, ((λ q m. h.1.1 q (inr m)), (pv, h.1.1 (pn, pv) (inl refl), out)))),
        ),
        λ holds.
            r.1 (λ v ie m s.
            holds.1 s.1.1.0 s.1.1.2 v zero-le
            (λ nowhere.
            nowhere ie (
              m,
              (s.0, λ q o. ⊎_elim (λ e. subst (λ z. z ∈ ie.event.params) (sym e) s.1.1.1) (λ k. s.1.0 q k) o),
            ))),
      )

  right : (row : Row) → Lawful row → AllByRecursion (λ e. class_of events (name_bytes e.name) ≡ as_class e.class) events → Right row
  right (Until a b) lawful classed = right_until a b
  right (Always a) lawful classed =
      let r = always_right (holding a) (λ v. H v (as_test a)) (test_decides a) in
      (λ never v _. r.0 never v, λ all. r.1 (λ v. all v zero-le))
  right (After n a) lawful classed =
      let r = after_right n (holding a) (λ v. H v (as_test a)) (test_decides a) in
      (λ never. at (as_test a) n (r.0 never), λ holds. r.1 (back (as_test a) n holds))
  right (Within n a) lawful classed = right_within n a lawful
  right (During n a) lawful classed =
      let r = during_right n (holding a) (λ v. H v (as_test a)) (test_decides a) in
      (λ never j lt. at (as_test a) j (r.0 never j lt), λ all. r.1 (λ j lt. back (as_test a) j (all j lt)))
  right (Most l c) lawful classed =
      let r = repmax_right l (counting c) in
      (λ never. (countable c, λ u. fits c (suc u) l (r.0 never u)), λ holds. r.1 (λ u. fitted c (suc u) l (holds.1 u)))
  right (MostUntil l c b) lawful classed = right_most_until l c b
  right (Answer n a b) lawful classed =
      let r =
      answer_right n (holding a) (holding b) (λ v. H v (as_test a)) (λ v. H v (as_test b)) (test_decides a) (test_decides b) lawful
      in
      (λ never v _ p. r.0 never v p, λ all. r.1 (λ v p. all v zero-le p))
  right (Names p) lawful classed = right_names p classed
  right (Values p) lawful classed = right_values p lawful

tells : (move : ℕ → ℕ → ℕ) (state : ℕ) {holds : Type 0} → Never move state ↔ holds → Tells move state holds
tells move state r =
    record {
      never = record { then = r.0; back = r.1 };
      appears = record { then = λ some h. some (r.1 h); back = λ fails none. fails (r.0 none) };
    }

pub row_means_its_formula : (events : List Event) (row : Row) → Declared events → Lawful row → RowMeansItsFormula events row
row_means_its_formula events row declared lawful run =
    tells (λ k s. moved row (matched_by events row) (digits_of (run k)) s) (broken row)
    (right events declared.few run row lawful declared.classed)
