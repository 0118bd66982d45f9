-- A step is closed with its own letter where no event does anything that there is not. Assumes nothing.
use Rattle.std.proofs.Common.{◌≡◌, ℕ, suc, ◌+◌, ◌*◌, ◌^◌, ◌<◌, ◌≤◌, Bool, true, false, cond, ◌&&◌, ◌||◌, eqb, ltb, List, [], ◌∷◌, ◌++◌, map, get_or, is_ok, is_some, Ok, Err, Result, Option, None, Some, sym, refl, ap, ap₂, ◌∙◌, subst, ⊎_elim, append_assoc, append-nil, add-one, arith}
use Rattle.std.proofs.Math.Nat.{pow-succ'}
use Rattle.std.proofs.lemmas.Bool.{true≢false, cases_lt, lt-ltb, ne_eqb}
use Rattle.watch.specs.Kinds.{kind_number}
use Rattle.watch.specs.Letters.{digits}
use Rattle.watch.specs.Steps.{digit_of, spelt, step_digits}
use Rattle.watch.specs.Watchers.{Watching}
use Rattle.watch.specs.declared.kind.Kind.{Kind}
use Rattle.watch.specs.declared.step.Step.{Step}
use Rattle.expression.specs.Formulas.{Formula}
use Rattle.monitor.specs.Plain.{Plain, NoteOf, noted, letter, note_answer, close_answer}
use Rattle.monitor.specs.Closing.{notes_from, closing, outcome, left, kept_notes, Makes, ClosesWith}
use Rattle.monitor.specs.inner.Standing.{Represents}
use Rattle.monitor.specs.declared.calls.Call.{Call}
use Rattle.monitor.specs.declared.calls.Call.TheVariants.{Close}
use Rattle.monitor.specs.declared.monitor.Monitor.{Monitor}
use Rattle.monitor.specs.declared.refusal.Refusal.{Refusal}
use Rattle.monitor.specs.declared.refusal.Refusal.TheVariants.{Event, Noted}
use Rattle.monitor.proofs.Making.{made_once, told}
use Rattle.monitor.proofs.Noting.{noted_more, kind_lawful}

spread : (x k s : ℕ) → k * x + digits * x * s ≡ x * (k + digits * s)
spread x k s = grind arith

power_more : (e : ℕ) → digits ^ (e + 1) ≡ digits * digits ^ e
power_more e = ap (λ (n : ℕ). digits ^ n) (add-one e) ∙ pow-succ' digits e

-- The notes of a step spell its letter.
kept_letter : (kinds : List (Option Kind)) (e : ℕ) → letter (kept_notes e kinds) ≡ digits ^ e * spelt (map digit_of kinds)
kept_letter [] e = omega arith
kept_letter (None ∷ kinds) e = rw (kept_letter kinds (e + 1), power_more e) (omega (arith, spread (digits ^ e) 0 (spelt (map digit_of kinds))))
kept_letter (Some kind ∷ kinds) e = rw (kept_letter kinds (e + 1), power_more e) (spread (digits ^ e) (kind_number kind) (spelt (map digit_of kinds)))

abbrev noting : List ℕ → List NoteOf → Plain
noting closed notes = record { closed = closed; notes = notes }

-- The plain monitor after a closing with these notes.
abbrev shut : List ℕ → List NoteOf → Plain
shut closed notes = cond (is_ok (close_answer (noting closed []))) (noting (closed ++ letter notes ∷ []) []) (noting closed notes)

note_taken : (g e : ℕ) (closed : List ℕ) (notes : List NoteOf) (kind : Kind) → e < g → noted notes e ≡ false → note_answer g (noting closed notes) e (kind_number kind) ≡ Ok tt
note_taken g e closed notes kind lt free =
    let k = kind_number kind in
    let lawful : (ltb e g && (eqb k 1 || eqb k 2)) ≡ true = ap₂ (λ (a b : Bool). a && b) (lt-ltb e g lt) (kind_lawful kind) in
    ap (λ (b : Bool). cond b (cond (noted notes e) (Err Noted) (Ok tt)) (Err Event)) lawful ∙ ap (λ (b : Bool). cond b (Err Noted) (Ok tt)) free

-- Where no event from e on has a note, and none does anything but the first g, all notes are taken, and the step is closed.
all_taken : (g : ℕ) (closed : List ℕ) (kinds : List (Option Kind)) (e : ℕ) (notes : List NoteOf)
    → ((k : ℕ) → e ≤ k → noted notes k ≡ false) → ((i : ℕ) → g ≤ e + i → get_or kinds i None ≡ None)
    → (outcome g (noting closed notes) (notes_from e kinds ++ Close ∷ []) ≡ close_answer (noting closed []))
    × (left g (noting closed notes) (notes_from e kinds ++ Close ∷ []) ≡ shut closed (notes ++ kept_notes e kinds))
all_taken g closed [] e notes free absent =
    (sym (told (close_answer (noting closed []))), made_once (is_ok (close_answer (noting closed []))) _ _ ∙ ap (shut closed) (sym (append-nil notes)))
all_taken g closed (None ∷ kinds) e notes free absent =
    all_taken g closed kinds (e + 1) notes (λ k past. free k (omega arith)) (λ i past. absent (suc i) (omega arith))
all_taken g closed (Some kind ∷ kinds) e notes free absent =
    let lt : e < g = ⊎_elim (λ lt. lt) (λ past. absurd (true≢false (ap is_some (absent 0 (omega arith))))) (cases_lt e g) in
    let ok = note_taken g e closed notes kind lt (free e (omega arith)) in
    let note : NoteOf = record { event = e; kind = kind_number kind } in
    let fresh : (k : ℕ) → e + 1 ≤ k → noted (notes ++ note ∷ []) k ≡ false =
    λ k past. noted_more notes note k ∙ ap₂ (λ (a b : Bool). a || b) (free k (omega arith)) (ne_eqb e k (omega arith)) in
    let more = all_taken g closed kinds (e + 1) (notes ++ note ∷ []) fresh (λ i past. absent (suc i) (omega arith)) in
    let rest : List Call = notes_from (e + 1) kinds ++ Close ∷ [] in
    let ready = noting closed (notes ++ note ∷ []) in
    let still = noting closed notes in
    subst
    (λ (r : Result (Unit {0}) Refusal).
    (cond (is_ok r) (outcome g (cond (is_ok r) ready still) rest) r ≡ close_answer (noting closed []))
    × (cond (is_ok r) (left g (cond (is_ok r) ready still) rest) still ≡ shut closed (notes ++ note ∷ kept_notes (e + 1) kinds)))
    (sym ok) (more.0, more.1 ∙ ap (shut closed) (append_assoc notes (note ∷ []) (kept_notes (e + 1) kinds)))

pub closes_with : {W : Type 0} (w : Watching) (f : Formula) (m n : Monitor W) (step : Step) (r : Result (Unit {0}) Refusal) → Makes w f m (closing step) r n → ClosesWith w f m step r n
closes_with w f m n step r makes closed within stands =
    let all = all_taken w.events closed step.kinds 0 [] (λ k past. refl) (λ i past. within i (omega arith)) in
    let made = makes (noting closed []) stands in
    let kept = kept_notes 0 step.kinds in
    let spells : letter kept ≡ spelt (step_digits step) = omega (arith, kept_letter step.kinds 0) in
    let shuts = ap (λ (n : ℕ). cond (is_ok (close_answer (noting closed []))) (noting (closed ++ n ∷ []) []) (noting closed kept)) spells in
    (made.0 ∙ all.0, subst (Represents w f n) (all.1 ∙ shuts) made.1)
