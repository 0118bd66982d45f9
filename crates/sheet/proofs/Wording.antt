-- A word that is right over a sheet's watcher is right in OSL. Assumes nothing.
use Rattle.std.proofs.Common.{ℕ, List, [], ◌∷◌}
use Rattle.watch.specs.Watchers.{Watching}
use Rattle.osl.specs.declared.event.Event.{Event}
use Rattle.osl.specs.declared.row.Row.{Row}
use Rattle.expression.specs.Formulas.{Formula}
use Rattle.monitor.specs.Words.{RightWord}
use Rattle.monitor.specs.Plain.{Plain, RightAnswer, Agrees, AnswersBy, AgreesBy, after}
use Rattle.monitor.specs.declared.word.Word.{Word}
use Rattle.monitor.specs.declared.calls.Call.{Call}
use Rattle.monitor.specs.declared.calls.Call.TheVariants.{Note, Close, Ask}
use Rattle.monitor.specs.declared.calls.Answer.{Answer}
use Rattle.sheet.specs.Joints.{watched}
use Rattle.sheet.specs.Meaning.{Means}
use Rattle.sheet.specs.Words.{RightWordOfRows}

pub right_word :
    (events : List Event) (rows : List Row) (keep : Formula) → Means events rows keep → (closed : List ℕ) (word : Word) →
    RightWord (watched events rows) keep closed word → RightWordOfRows events rows keep closed word
right_word events rows keep m closed word right =
    record {
      violated =
          record {
            then = λ is run over begins kept. right.violated.then is run over begins ((m.kept run over).back kept);
            back = λ none. right.violated.back (λ run over begins keeps. none run over begins ((m.kept run over).then keeps));
          };
      satisfied =
          record {
            then =
                λ is run over begins broken. right.satisfied.then is run over begins (λ keeps. broken ((m.kept run over).then keeps));
            back =
                λ none. right.satisfied.back (λ run over begins broken. none run over begins (λ kept. broken ((m.kept run over).back kept)));
          };
    }

-- Answers that agree with the plain monitor's agree over the watcher's events, where the right word is the watcher's: by definition.
module _ (w : Watching) (f : Formula) where
  answers_by : (p : Plain) (c : Call) (a : Answer) → RightAnswer w f p c a → AnswersBy w.events (RightWord w f) p c a
  answers_by p c a right = right

  pub agrees_by : (p : Plain) (cs : List Call) (more : List Answer) → Agrees w f p cs more → AgreesBy w.events (RightWord w f) p cs more
  agrees_by p cs more right = right

-- answers that agree where one word is right agree where another is that follows from it
module _ (g : ℕ) (R S : List ℕ → Word → Type 0) (so : (closed : List ℕ) (word : Word) → R closed word → S closed word) where
  answers_like : (p : Plain) (c : Call) (a : Answer) → AnswersBy g R p c a → AnswersBy g S p c a
  answers_like p (Note e k) a h = h
  answers_like p Close a h = h
  answers_like p Ask a h = (h.0, (h.1.0, so p.closed h.0 h.1.1))

  pub agrees_like : (p : Plain) (cs : List Call) (more : List Answer) → AgreesBy g R p cs more → AgreesBy g S p cs more
  agrees_like p [] [] h = tt
  agrees_like p [] (a ∷ more) h = h
  agrees_like p (c ∷ cs) [] h = h
  agrees_like p (c ∷ cs) (a ∷ more) h = (answers_like p c a h.0, agrees_like (after g p c) cs more h.1)
