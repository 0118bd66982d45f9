-- The monitor in its plainest form, two lists, and what it answers to a list of calls. Assumes nothing.
use Rattle.std.specs.Prelude.{◌≡◌, ℕ, ◌+◌, ◌*◌, ◌^◌, Bool, true, false, cond, ◌&&◌, ◌||◌, List, [], ◌∷◌, ◌++◌, length, is_ok, Ok, Err, Result, ◌==◌, nat_lt}
use Rattle.watch.specs.Letters.{digits}
use Rattle.watch.specs.Watchers.{Watching}
use Rattle.expression.specs.Formulas.{Formula}
use Rattle.monitor.specs.Words.{RightWord}
use Rattle.monitor.specs.declared.word.Word.{Word}
use Rattle.monitor.specs.declared.refusal.Refusal.{Refusal}
use Rattle.monitor.specs.declared.refusal.Refusal.TheVariants.{Event, Noted, Steps}
use Rattle.monitor.specs.declared.calls.Call.{Call}
use Rattle.monitor.specs.declared.calls.Call.TheVariants.{Note, Close, Ask}
use Rattle.monitor.specs.declared.calls.Answer.{Answer}
use Rattle.monitor.specs.declared.calls.Answer.TheVariants.{Accepted, Refused, Says}

-- A note: an event and its kind, 1 for starting and 2 for ongoing.
pub record NoteOf : Type 0 where
  pub event : ℕ
  pub kind : ℕ

-- The letters of the closed steps, and the notes of the step in progress.
pub record Plain : Type 0 where
  pub closed : List ℕ
  pub notes : List NoteOf

abbrev pub opened : Plain
opened = record { closed = []; notes = [] }

-- The event has a note.
abbrev pub noted : List NoteOf → ℕ → Bool
noted [] e = false
noted (n ∷ ns) e = n.event == e || noted ns e

-- The letter of the notes. An event without a note is absent.
abbrev pub letter : List NoteOf → ℕ
letter [] = 0
letter (n ∷ ns) = n.kind * (digits ^ n.event) + letter ns

-- At most so many steps are closed.
abbrev pub most_closed : ℕ
most_closed = 1000000

-- A note is refused at the first no: is the event below g and the kind 1 or 2, and has the event no note yet?
abbrev pub note_answer : ℕ → Plain → ℕ → ℕ → Result (Unit {0}) Refusal
note_answer g p e k =
    cond (nat_lt e g && (k == 1 || k == 2)) (cond (noted p.notes e) (Err Noted) (Ok tt)) (Err Event)

-- A closing is refused once so many steps are closed.
abbrev pub close_answer : Plain → Result (Unit {0}) Refusal
close_answer p = cond (nat_lt (length p.closed) most_closed) (Ok tt) (Err Steps)

-- The plain monitor after a call. A refused call and a question change nothing.
abbrev pub after : ℕ → Plain → Call → Plain
after g p (Note e k) =
    cond (is_ok (note_answer g p e k)) (record { closed = p.closed; notes = p.notes ++ (record { event = e; kind = k } ∷ []) }) p
after g p Close =
    cond (is_ok (close_answer p)) (record { closed = p.closed ++ (letter p.notes ∷ []); notes = [] }) p
after g p Ask = p

abbrev pub answered : Result (Unit {0}) Refusal → Answer
answered (Ok done) = Accepted
answered (Err refusal) = Refused refusal

-- A note or closing was taken.
abbrev pub accepts : Answer → Bool
accepts Accepted = true
accepts (Refused refusal) = false
accepts (Says word closed) = false

-- The answer to one call is the plain monitor's over g events; to a question, a word that is right after the closed steps, as `right` says,
-- and their number.
abbrev pub AnswersBy : ℕ → (List ℕ → Word → Type 0) → Plain → Call → Answer → Type 0
AnswersBy g right p (Note e k) a = a ≡ answered (note_answer g p e k)
AnswersBy g right p Close a = a ≡ answered (close_answer p)
AnswersBy g right p Ask a = (word : Word) × ((a ≡ Says word (length p.closed)) × right p.closed word)

-- The answers to a list of calls are the plain monitor's, call by call.
abbrev pub AgreesBy : ℕ → (List ℕ → Word → Type 0) → Plain → List Call → List Answer → Type 0
AgreesBy g right p [] [] = Unit {0}
AgreesBy g right p [] (a ∷ more) = ⊥
AgreesBy g right p (c ∷ cs) [] = ⊥
AgreesBy g right p (c ∷ cs) (a ∷ more) = AnswersBy g right p c a × AgreesBy g right (after g p c) cs more

-- The same over a watcher and a formula: the right word is that of the endless continuations.
abbrev pub RightAnswer : Watching → Formula → Plain → Call → Answer → Type 0
RightAnswer w f = AnswersBy w.events (RightWord w f)

abbrev pub Agrees : Watching → Formula → Plain → List Call → List Answer → Type 0
Agrees w f = AgreesBy w.events (RightWord w f)
