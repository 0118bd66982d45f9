use Rattle.std.proofs.Common.{rules, ◌≡◌, ℕ, Option, sym, subst}
use Rattle.watch.specs.Kinds.{kind_number}
use Rattle.watch.specs.declared.kind.Kind.{Kind}
use Rattle.expression.specs.Expressions.{formula}
use Rattle.monitor.specs.Closing.{Makes, note_of}
use Rattle.monitor.specs.Plain.{note_answer}
use Rattle.monitor.specs.inner.Standing.{Takes}
use Rattle.monitor.specs.declared.calls.Call.TheVariants.{Note}
use Rattle.monitor.proofs.Making.{one_note}
use Rattle.monitor.proofs.monitor.Monitor.note_kind.Goals as goal

-- What was noted is the kind's number by its value, and not only as the conversion's own result.
pub returns-in-Some-clause-makes : goal.returns-in-Some-clause-makes
returns-in-Some-clause-makes g c =
    let m = c.args.self.now in
    let w = g.W.Watcher.watching m.watcher in
    let f = formula m.expression in
    let number : ℕ = kind_number c.in-Some.kind in
    let Noted : ℕ → Type 0 = λ k. Takes w f m (Note c.args.event k) (λ plain. note_answer w.events plain c.args.event k) c.note.result c.note.new.self in
    let told : (k : ℕ) → k ≡ number → Noted k → Noted number = λ k is noted. subst Noted is noted in
    let noted : Noted number = search (rules, told, c.from.ensures, c.note.ensures.takes) in
    subst (λ (k : Option Kind). Makes w f m (note_of c.args.event k) c.note.result c.note.new.self) (sym c.in-Some.is)
    (one_note w f m c.note.new.self c.args.event number c.note.result noted)
