-- The running record takes notes and closings as the plain monitor does. Assumes nothing.
use Rattle.std.proofs.Common.{◌≡◌, ℕ, zero, suc, ◌+◌, ◌*◌, ◌^◌, ◌<◌, ◌≤◌, Bool, true, false, cond, ◌&&◌, ◌||◌, eqb, ltb, List, [], ◌∷◌, ◌++◌, length, get_or, set, map, replicate, is_ok, is_some, Ok, Err, Result, Option, None, Some, ◌≢◌, sym, refl, ap, ◌∙◌, subst, ap₂, ⊎_elim, arith, length-set}
use Rattle.std.proofs.Math.Nat.{pow-succ', one-le-pow}
use mathlib.Core.Bool as bool
use mathlib.Core.Bool.{or-false, or_assoc}
use Rattle.std.proofs.lemmas.List.{map-set, get_or-set_same, get_or-set_other, length_push}
use Rattle.std.proofs.lemmas.Bool.{true≢false, cases_eq, lt-ltb, eq-eqb, ne_eqb, or_right}
use Rattle.watch.specs.Letters.{digits, letter_count, most_events}
use Rattle.watch.specs.Kinds.{kind_number}
use Rattle.watch.specs.Steps.{digit_of, spelt, step_digits}
use Rattle.watch.specs.Watchers.{Watching, Lawful}
use Rattle.watch.specs.declared.kind.Kind.{Kind}
use Rattle.watch.specs.declared.kind.Kind.TheVariants.{Starting, Ongoing}
use Rattle.watch.proofs.Spelling.{digit_few, digit_at, digit_of_none}
use Rattle.monitor.specs.Plain.{Plain, NoteOf, noted, letter, note_answer, close_answer, most_closed, after}
use Rattle.monitor.specs.inner.Running.{Follows, Notes, reached, Spelled}
use Rattle.monitor.specs.declared.running.Running.{Running}
use Rattle.monitor.specs.declared.refusal.Refusal.{Refusal}
use Rattle.monitor.specs.declared.refusal.Refusal.TheVariants.{Event, Noted, Steps}
use Rattle.monitor.specs.declared.calls.Call.TheVariants.{Note, Close}

pub letter_more : (ns : List NoteOf) (n : NoteOf) → letter (ns ++ (n ∷ [])) ≡ letter ns + n.kind * (digits ^ n.event)
letter_more [] n = omega arith
letter_more (m ∷ ns) n = omega (arith, letter_more ns n)

pub noted_more : (ns : List NoteOf) (n : NoteOf) (e : ℕ) → noted (ns ++ (n ∷ [])) e ≡ (noted ns e || eqb n.event e)
noted_more [] n e = or-false _
noted_more (m ∷ ns) n e = ap (λ (b : Bool). eqb m.event e || b) (noted_more ns n e) ∙ sym (or_assoc (eqb m.event e) _ _)

-- A digit that was 0 adds its kind times the power of its event.
spelt-set : (ds : List ℕ) (e k : ℕ) → e < length ds → get_or ds e 0 ≡ 0 → spelt (set ds e k) ≡ spelt ds + k * (digits ^ e)
spelt-set [] e k lt none = absurd (omega arith)
spelt-set (d ∷ ds) zero k lt none = omega arith
spelt-set (d ∷ ds) (suc e) k lt none =
    let more : k * (digits ^ suc e) ≡ digits * (k * (digits ^ e)) = rw (pow-succ' digits e) (grind arith) in
    omega (arith, spelt-set ds e k (omega arith) none, more)

-- Lawful digits, none past the events, spell a letter.
pub spelt_below : (g : ℕ) (ds : List ℕ) → ((e : ℕ) → get_or ds e 0 < digits) → ((e : ℕ) → g ≤ e → get_or ds e 0 ≡ 0) → spelt ds < letter_count g
spelt_below g [] small absent = omega (arith, one-le-pow g digits (omega arith))
spelt_below zero (d ∷ ds) small absent = omega (arith, absent 0 (omega arith), spelt_below zero ds (λ e. small (suc e)) (λ e past. absent (suc e) (omega arith)))
spelt_below (suc g) (d ∷ ds) small absent =
    omega (arith, small 0, spelt_below g ds (λ e. small (suc e)) (λ e past. absent (suc e) (omega arith)), pow-succ' digits g)

-- One note more.
module _ (g : ℕ) (notes : List NoteOf) (ds : List ℕ) (few : g ≤ most_events) (x : Notes g notes ds) (e k : ℕ) (lt : e < g) (some : 0 < k) (lawful : k < digits) (free : get_or ds e 0 ≡ 0) where
  put : (i : ℕ) → i ≡ e → get_or (set ds e k) i 0 ≡ k
  put i is = ap (λ (n : ℕ). get_or (set ds e k) n 0) is ∙ get_or-set_same ds e k 0 (omega (arith, x.five))

  notes_more : Notes g (notes ++ (record { event = e; kind = k } ∷ [])) (set ds e k)
  notes_more = record {
    five = length-set ds e k ∙ x.five;
    sum = letter_more notes _ ∙ (ap (λ (n : ℕ). n + k * (digits ^ e)) x.sum ∙ sym (spelt-set ds e k (omega (arith, x.five)) free));
    marks = λ i below.
        noted_more notes _ i
        ∙ ⊎_elim
        (λ is. or_right _ _ (eq-eqb e i (sym is)) ∙ sym (ap (λ (n : ℕ). bool.not (eqb n 0)) (put i is) ∙ ap bool.not (ne_eqb k 0 (omega arith))))
        (λ ne. (ap (λ (b : Bool). noted notes i || b) (ne_eqb e i (λ is. ne (sym is))) ∙ or-false _) ∙ (x.marks i below ∙ sym (ap (λ (n : ℕ). bool.not (eqb n 0)) (get_or-set_other ds e i k 0 ne))))
        (cases_eq i e);
    small = λ i. ⊎_elim (λ is. omega (arith, put i is)) (λ ne. omega (arith, get_or-set_other ds e i k 0 ne, x.small i)) (cases_eq i e);
    absent = λ i past. get_or-set_other ds e i k 0 (omega arith) ∙ x.absent i past;
  }

pub is_free : (k : Option Kind) → is_some k ≡ false → k ≡ None
is_free None free = refl
is_free (Some kind) free = absurd (true≢false free)

pub is_taken : (k : Option Kind) → is_some k ≡ true → k ≡ None → ⊥
is_taken k taken none = true≢false (sym taken ∙ ap is_some none)

kind_some : (k : Kind) → 0 < kind_number k
kind_some Starting = omega arith
kind_some Ongoing = omega arith

pub kind_lawful : (k : Kind) → (eqb (kind_number k) 1 || eqb (kind_number k) 2) ≡ true
kind_lawful Starting = refl
kind_lawful Ongoing = refl

-- A number that no kind has.
pub no_kind : (b : Bool) (n : ℕ) → ((k : Kind) → kind_number k ≢ n) → (b && (eqb n 1 || eqb n 2)) ≡ false
no_kind b n none = unlawful b _ _ (ne_eqb n 1 (λ is. none Starting (sym is))) (ne_eqb n 2 (λ is. none Ongoing (sym is)))
  where
    unlawful : (a b c : Bool) → b ≡ false → c ≡ false → (a && (b || c)) ≡ false
    unlawful false b c nb nc = refl
    unlawful true false c nb nc = nc
    unlawful true true c nb nc = nb

-- A note that the plain monitor takes.
module _ (w : Watching) (plain : Plain) (p : Running) (few : w.events ≤ most_events) (x : Follows w plain p) (e : ℕ) (kind : Kind) (lt : e < w.events) (free : get_or p.step.kinds e None ≡ None) where
  abbrev k : ℕ
  k = kind_number kind

  abbrev more : Plain
  more = record { closed = plain.closed; notes = plain.notes ++ (record { event = e; kind = k } ∷ []) }

  abbrev written : Running
  written = record { state = p.state; closed = p.closed; step = record { kinds = set p.step.kinds e (Some kind) } }

  no_digit : get_or (step_digits p.step) e 0 ≡ 0
  no_digit = digit_at p.step.kinds e ∙ ap digit_of free

  accepted : note_answer w.events plain e k ≡ Ok tt
  accepted =
      let fresh : noted plain.notes e ≡ false = x.notes.marks e (omega arith) ∙ ap (λ (n : ℕ). bool.not (eqb n 0)) no_digit in
      let lawful : (ltb e w.events && (eqb k 1 || eqb k 2)) ≡ true = ap₂ (λ (a b : Bool). a && b) (lt-ltb e w.events lt) (kind_lawful kind) in
      ap (λ (b : Bool). cond b (cond (noted plain.notes e) (Err Noted) (Ok tt)) (Err Event)) lawful ∙ ap (λ (b : Bool). cond b (Err Noted) (Ok tt)) fresh

  follows_more : Follows w more written
  follows_more = record {
    here = x.here;
    spelled = x.spelled;
    count = x.count;
    notes = subst (λ (ds : List ℕ). Notes w.events more.notes ds) (sym (map-set digit_of p.step.kinds e (Some kind)))
        (notes_more w.events plain.notes (step_digits p.step) few x.notes e k lt (kind_some kind) (digit_few (Some kind)) no_digit);
  }

  pub takes_note : (Ok tt ≡ note_answer w.events plain e k) × Follows w (after w.events plain (Note e k)) written
  takes_note = (sym accepted, subst (λ (a : Result (Unit {0}) Refusal). Follows w (cond (is_ok a) more plain) written) (sym accepted) follows_more)

-- A note that is refused changes nothing.
pub refused_note : (w : Watching) (plain : Plain) (p : Running) (g e k : ℕ) (why : Refusal) → Follows w plain p → note_answer g plain e k ≡ Err why
    → (Err why ≡ note_answer g plain e k) × Follows w (after g plain (Note e k)) p
refused_note w plain p g e k why x answer =
    (sym answer, subst (λ (a : Result (Unit {0}) Refusal). Follows w (cond (is_ok a) (record { closed = plain.closed; notes = plain.notes ++ (record { event = e; kind = k } ∷ []) }) plain) p) (sym answer) x)

pub out_of_range : (plain : Plain) (g e k : ℕ) → (ltb e g && (eqb k 1 || eqb k 2)) ≡ false → note_answer g plain e k ≡ Err Event
out_of_range plain g e k bad = ap (λ (b : Bool). cond b (cond (noted plain.notes e) (Err Noted) (Ok tt)) (Err Event)) bad

pub noted_already : (w : Watching) (plain : Plain) (p : Running) (e : ℕ) (kind : Kind) → Follows w plain p → e < most_events
    → e < w.events → (get_or p.step.kinds e None ≡ None → ⊥) → note_answer w.events plain e (kind_number kind) ≡ Err Noted
noted_already w plain p e kind x few lt taken =
    let k = kind_number kind in
    let some_digit : get_or (step_digits p.step) e 0 ≡ 0 → ⊥ = λ none. taken (digit_of_none _ (sym (digit_at p.step.kinds e) ∙ none)) in
    let there : noted plain.notes e ≡ true = x.notes.marks e few ∙ ap bool.not (ne_eqb (get_or (step_digits p.step) e 0) 0 some_digit) in
    let lawful : (ltb e w.events && (eqb k 1 || eqb k 2)) ≡ true = ap₂ (λ (a b : Bool). a && b) (lt-ltb e w.events lt) (kind_lawful kind) in
    ap (λ (b : Bool). cond b (cond (noted plain.notes e) (Err Noted) (Ok tt)) (Err Event)) lawful ∙ ap (λ (b : Bool). cond b (Err Noted) (Ok tt)) there

-- No event has a digit in a step without notes.
digit_none : (e : ℕ) → get_or (map digit_of (replicate most_events None)) e 0 ≡ 0
digit_none zero = refl
digit_none (suc zero) = refl
digit_none (suc (suc zero)) = refl
digit_none (suc (suc (suc zero))) = refl
digit_none (suc (suc (suc (suc zero)))) = refl
digit_none (suc (suc (suc (suc (suc e))))) = refl

reached-push : (w : Watching) (s : ℕ) (closed : List ℕ) (a : ℕ) → reached w s (closed ++ (a ∷ [])) ≡ w.next (reached w s closed) a
reached-push w s [] a = refl
reached-push w s (b ∷ more) a = reached-push w (w.next s b) more a

spelled-push : (g : ℕ) (closed : List ℕ) (a : ℕ) → Spelled g closed → a < letter_count g → Spelled g (closed ++ (a ∷ []))
spelled-push g [] a spelled lt = (lt, tt)
spelled-push g (b ∷ more) a spelled lt = (spelled.0, spelled-push g more a spelled.1 lt)

-- A closing that the plain monitor takes.
module _ (w : Watching) (law : Lawful w) (plain : Plain) (p : Running) (x : Follows w plain p) (room : p.closed < most_closed) (state a : ℕ) (spells : a ≡ spelt (step_digits p.step)) (moves : state ≡ w.next p.state a) where
  abbrev further : Plain
  further = record { closed = plain.closed ++ (letter plain.notes ∷ []); notes = [] }

  abbrev onward : Running
  onward = record { state = state; closed = p.closed + 1; step = record { kinds = replicate most_events None } }

  closes : close_answer plain ≡ Ok tt
  closes = ap (λ (b : Bool). cond b (Ok tt) (Err Steps)) (lt-ltb (length plain.closed) most_closed (omega (arith, x.count)))

  follows_further : Follows w further onward
  follows_further = record {
    here = (moves ∙ ap₂ w.next x.here (spells ∙ sym x.notes.sum)) ∙ sym (reached-push w w.start plain.closed (letter plain.notes));
    spelled = spelled-push w.events plain.closed _ x.spelled (subst (λ (n : ℕ). n < letter_count w.events) (sym x.notes.sum) (spelt_below w.events (step_digits p.step) x.notes.small x.notes.absent));
    count = ap (λ (n : ℕ). n + 1) x.count ∙ sym (length_push plain.closed _);
    notes = record {
      five = refl;
      sum = refl;
      marks = λ e below. sym (ap (λ (n : ℕ). bool.not (eqb n 0)) (digit_none e));
      small = λ e. omega (arith, digit_none e);
      absent = λ e past. digit_none e;
    };
  }

  pub takes_close : (Ok tt ≡ close_answer plain) × Follows w (after w.events plain Close) onward
  takes_close = (sym closes, subst (λ (b : Result (Unit {0}) Refusal). Follows w (cond (is_ok b) further plain) onward) (sym closes) follows_further)
