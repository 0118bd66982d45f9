-- On every run the marks of a sheet tell which of its rows are true. Assumes nothing.
use Rattle.std.proofs.Common.{◌≡◌, ℕ, zero, suc, ◌<◌, ◌≤◌, true, List, [], ◌∷◌, length, get_or, sym, ap, ◌∙◌, subst, ap₂, inl, inr, arith}
use Rattle.std.specs.List.{AllByRecursion}
use Rattle.std.proofs.lemmas.Bool.{cases_lt}
use Rattle.watch.specs.Exactly.{Exactly}
use Rattle.watch.specs.Marks.{Has}
use Rattle.watch.specs.Runs as watch
use Rattle.watch.specs.Runs.{Run, Over, passed}
use Rattle.watch.specs.Watchers as watchers
use Rattle.watch.specs.Watchers.{Watching, most_marks}
use Rattle.osl.specs.declared.event.Event.{Event}
use Rattle.osl.specs.declared.row.Row.{Row}
use Rattle.osl.specs.declared.matched.Matched.{Matched}
use Rattle.osl.specs.Resolving.{matched_by}
use Rattle.osl.specs.Osl.{Holds}
use Rattle.osl.specs.Terms.{row_formula}
use Rattle.osl.specs.Traces.{trace, class_of}
use Rattle.osl.proofs.Steps.{steps_are_sets}
use Rattle.rows.specs.Moves.{path}
use Rattle.watch.specs.Steps.{digits_of}
use Rattle.rows.specs.Stepping.{moved, broken}
use Rattle.rows.specs.Meaning.{Declared, Lawful, Tells}
use Rattle.rows.proofs.Meaning.{row_means_its_formula}
use Rattle.expression.specs.Formulas.{Formula, term, not, and, or, implies, TrueOf}
use Rattle.limits.specs.Questions.{product, all_yes}
use Rattle.sheet.specs.Joints.{joint, marks_at, matched_all, nothing, watched}
use Rattle.sheet.specs.Meaning.{at_row, RowTrue, RowTold, Means}
use Rattle.sheet.specs.Bounds.{Bounds}
use Rattle.sheet.specs.Limits.{within, lawful_rows, declared, events_differ}
use Rattle.sheet.specs.Parts.{part, part_start, part_next, length_matched, matched_at, shown→broken, broken→shown}
use Rattle.sheet.specs.Watched.{stepping, showing, no_mark_past, some_row, sheet_lawful}

-- ## Row number i

to_row : (rows : List Row) (i : ℕ) (d : Row) (P : Row → Type 0) → i < length rows → P (get_or rows i d) → at_row rows (suc i) P
to_row [] i d P here p = tt
to_row (r ∷ rs) zero d P here p = p
to_row (r ∷ rs) (suc i) d P here p = to_row rs i d P (omega arith) p

from_row : (rows : List Row) (i : ℕ) (d : Row) (P : Row → Type 0) → i < length rows → at_row rows (suc i) P → P (get_or rows i d)
from_row [] i d P here p = absurd (omega arith)
from_row (r ∷ rs) zero d P here p = p
from_row (r ∷ rs) (suc i) d P here p = from_row rs i d P (omega arith) p

past_rows : (rows : List Row) (i : ℕ) (P : Row → Type 0) → length rows ≤ i → at_row rows (suc i) P
past_rows [] i P past = tt
past_rows (r ∷ rs) zero P past = absurd (omega arith)
past_rows (r ∷ rs) (suc i) P past = past_rows rs i P (omega arith)

no_row : (rows : List Row) (P : Row → Type 0) → at_row rows zero P
no_row [] P = tt
no_row (r ∷ rs) P = tt

all_at : (P : Row → Type 0) (rows : List Row) (i : ℕ) (d : Row) → i < length rows → AllByRecursion P rows → P (get_or rows i d)
all_at P [] i d here all = absurd (omega arith)
all_at P (r ∷ rs) zero d here all = all.0
all_at P (r ∷ rs) (suc i) d here all = all_at P rs i d (omega arith) all.1

module _
    (events : List Event) (rows : List Row) (lim : Bounds events rows) (fine : Declared events) (lawful : AllByRecursion Lawful rows)
    (run : Run) (over : Over (length events) run)
  where
    abbrev w : Watching
    w = watched events rows

    abbrev ms : List Matched
    ms = matched_all events most_marks rows

    law : watchers.Lawful w
    law = sheet_lawful events rows lim

    passed_below : (k : ℕ) → passed w run k < product rows
    passed_below zero = law.start_within
    passed_below (suc k) = law.next_within (passed w run k) (run k)

    passed_more : (k : ℕ) → passed w run (suc k) ≡ joint rows ms (digits_of (run k)) (passed w run k)
    passed_more k = stepping events rows (passed w run k) (run k) (passed_below k) (over k)

    -- row i within the sheet goes the way that it goes alone
    module _ (i : ℕ) (d : Row) (here : i < length rows) where
      abbrev row : Row
      row = get_or rows i d

      abbrev alone : ℕ → ℕ
      alone k = path (λ j s. moved row (matched_by events row) (digits_of (run j)) s) k

      part_passed : (k : ℕ) → part rows i (passed w run k) ≡ alone k
      part_passed zero = part_start rows i
      part_passed (suc k) =
          ap (λ (s : ℕ). part rows i s) (passed_more k) ∙
          (part_next rows ms (digits_of (run k)) i d nothing (passed w run k) here (omega (arith, length_matched events most_marks rows, lim.few_rows)) ∙
          ap₂ (λ (m : Matched) (s : ℕ). moved row m (digits_of (run k)) s)
          (matched_at events most_marks rows i d nothing here lim.few_rows) (part_passed k))

      shown_is : (k : ℕ) → w.shown (passed w run k) ≡ marks_at rows (passed w run k)
      shown_is k = showing events rows (passed w run k) (passed_below k)

      mark→broken : (k : ℕ) → Has (suc i) (w.shown (passed w run k)) → alone k ≡ broken row
      mark→broken k mark =
          sym (part_passed k) ∙ shown→broken rows i d (passed w run k) here (subst (λ (n : ℕ). Has (suc i) n) (shown_is k) mark)

      broken→mark : (k : ℕ) → alone k ≡ broken row → Has (suc i) (w.shown (passed w run k))
      broken→mark k is =
          subst (λ (n : ℕ). Has (suc i) n) (sym (shown_is k)) (broken→shown rows i d (passed w run k) here (part_passed k ∙ is))

      abbrev H : Row → Type 0
      H r = Holds (class_of events) (trace events run) 0 (row_formula r)

      here_told : RowTold events rows run (suc i)
      here_told =
          let t : Tells (λ k s. moved row (matched_by events row) (digits_of (run k)) s) (broken row) (H row) =
          row_means_its_formula events row fine (all_at Lawful rows i d here lawful) run
          in
          record {
            never =
                record {
                  then = λ holds. to_row rows i d H here (t.never.then (λ k e. holds k (broken→mark k e)));
                  back = λ true-row k mark. t.never.back (from_row rows i d H here true-row) k (mark→broken k mark);
                };
            appears =
                record {
                  then =
                      λ some true-row.
                      t.appears.then (λ none. some (λ k mark. none k (mark→broken k mark))) (from_row rows i d H here true-row);
                  back = λ false-row none. t.appears.back (λ h. false-row (to_row rows i d H here h)) (λ k e. none k (broken→mark k e));
                };
          }

    -- a number without a row: its mark never appears
    never_told : (i : ℕ) → ((k : ℕ) → Has i (w.shown (passed w run k)) → ⊥) → RowTrue events rows run i → RowTold events rows run i
    never_told i quiet holds =
        record {
          never = record { then = λ _. holds; back = λ _. quiet };
          appears = record { then = λ some _. some quiet; back = λ false-row. absurd (false-row holds) };
        }

    past_told : (i : ℕ) → length rows ≤ i → RowTold events rows run (suc i)
    past_told i past =
        never_told (suc i)
        (λ k mark. no_mark_past events rows i (passed w run k) past (subst (λ (n : ℕ). Has (suc i) n) (showing events rows (passed w run k) (passed_below k)) mark))
        (past_rows rows i (λ r. Holds (class_of events) (trace events run) 0 (row_formula r)) past)

    pub told : (d : Row) (i : ℕ) → RowTold events rows run i
    told d zero = never_told zero (λ k mark. mark) (no_row rows (λ r. Holds (class_of events) (trace events run) 0 (row_formula r)))
    told d (suc i) = elim (cases_lt i (length rows)) [ inl here ↦ here_told i d here | inr past ↦ past_told i past ]

-- ## The whole sheet

-- a formula is true of facts that stand or fall together with others exactly when it is true of those
true_like :
    (P Q : ℕ → Type 0) → ((i : ℕ) → Exactly (P i) (Q i)) → (f : Formula) → Exactly (TrueOf P f) (TrueOf Q f)
true_like P Q e (term i) = e i
true_like P Q e (not f) =
    let a = true_like P Q e f in record { then = λ no x. no (a.back x); back = λ no x. no (a.then x) }
true_like P Q e (and f g) =
    let a = true_like P Q e f in
    let b = true_like P Q e g in
    record { then = λ h. (a.then h.0, b.then h.1); back = λ h. (a.back h.0, b.back h.1) }
true_like P Q e (or f g) =
    let a = true_like P Q e f in
    let b = true_like P Q e g in
    record {
      then = λ h x y. h (λ p. x (a.then p)) (λ q. y (b.then q));
      back = λ h x y. h (λ p. x (a.back p)) (λ q. y (b.back q));
    }
true_like P Q e (implies f g) =
    let a = true_like P Q e f in
    let b = true_like P Q e g in
    record { then = λ h x. b.then (h (a.back x)); back = λ h x. b.back (h (a.then x)) }

-- what is asked of a sheet does not hang on what it keeps, so the theorem is for every expression over its rows
pub means : (events : List Event) (rows : List Row) (own keep : Formula) → all_yes events rows own ≡ true → Means events rows keep
means events rows own keep e =
    let lim : Bounds events rows = within events rows own e in
    let all : (run : Run) → Over (length events) run → (i : ℕ) → RowTold events rows run i =
    λ run over i.
    told events rows lim (declared events rows own e) (lawful_rows events rows own e) run over (some_row rows lim.some_rows) i
    in
    record {
      rows_told = all;
      kept =
          λ run over.
          true_like (watch.Holds (watched events rows) run) (RowTrue events rows run) (λ i. (all run over i).never) keep;
      sets = λ letter. steps_are_sets events (events_differ events rows own e) letter;
    }
