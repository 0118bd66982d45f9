use Rattle.std.proofs.Common.{rules, ◌≡◌, ◌&&◌, ◌||◌, ltb, false, Ok, Err, None, Some, set, is_some, sym, ap, ◌∙◌, subst, subst₂, Result, slice_index_or, ◌==◌, arith}
use Rattle.watch.specs.Kinds.{kind_number}
use Rattle.monitor.specs.Plain.{note_answer, after}
use Rattle.monitor.specs.inner.Running.{Follows}
use Rattle.monitor.specs.declared.refusal.Refusal.{Refusal}
use Rattle.monitor.specs.declared.refusal.Refusal.TheVariants.{Event, Noted}
use Rattle.monitor.specs.declared.calls.Call.TheVariants.{Note}
use Rattle.monitor.proofs.Noting.{takes_note, refused_note, out_of_range, noted_already, is_free, is_taken, no_kind}
use Rattle.monitor.proofs.running.Running.note.Goals as goal

pub returns-in_err-kind-clause-right : goal.returns-in_err-kind-clause-right
returns-in_err-kind-clause-right c w plain same x =
    let e = c.args.event in
    let k = c.args.kind in
    let bad : (ltb e c.args.events && (k == 1 || k == 2)) ≡ false = no_kind (ltb e c.args.events) k c.in_err-kind.ensures.1 in
    let said : c.from_residual.result ≡ Err Event = search rules in
    subst (λ (r : Result (Unit {0}) Refusal). (r ≡ note_answer c.args.events plain e k) × Follows w (after c.args.events plain (Note e k)) c.args.self.now) (sym said)
    (refused_note w plain c.args.self.now c.args.events e k Event x (out_of_range plain c.args.events e k bad))

pub returns-then-is_some-clause-right : goal.returns-then-is_some-clause-right
returns-then-is_some-clause-right c w plain same x =
    let p = c.args.self.now in
    let e = c.args.event in
    let there : slice_index_or p.step.kinds e None ≡ None → ⊥ = is_taken _ (ap (λ i. is_some (slice_index_or p.step.kinds i None)) (sym c.from-place.ensures) ∙ (sym c.is_some.ensures ∙ c.if-is_some.true)) in
    refused_note w plain p c.args.events e c.args.kind Noted x
    (subst₂ (λ g k. note_answer g plain e k ≡ Err Noted) (sym same) c.in_ok-kind.ensures (noted_already w plain p e c.in_ok-kind.kind x (omega (arith, c.requires, c.if-event-events.false)) (omega (arith, same, c.if-event-events.false)) there))

pub returns-clause-right : goal.returns-clause-right
returns-clause-right c w plain same x =
    let p = c.args.self.now in
    let e = c.args.event in
    let free : slice_index_or p.step.kinds e None ≡ None = is_free _ (ap (λ i. is_some (slice_index_or p.step.kinds i None)) (sym c.from-place.ensures) ∙ (sym c.is_some.ensures ∙ c.if-is_some.false)) in
    subst₂ (λ g k. (Ok tt ≡ note_answer g plain e k) × Follows w (after g plain (Note e k)) (record { state = p.state; closed = p.closed; step = record { kinds = set p.step.kinds c.from-place.result (Some c.in_ok-kind.kind) } }))
    (sym same) c.in_ok-kind.ensures
    (subst (λ i. (Ok tt ≡ note_answer w.events plain e (kind_number c.in_ok-kind.kind)) × Follows w (after w.events plain (Note e (kind_number c.in_ok-kind.kind))) (record { state = p.state; closed = p.closed; step = record { kinds = set p.step.kinds i (Some c.in_ok-kind.kind) } })) (sym c.from-place.ensures)
    (takes_note w plain p (omega (arith, c.requires, same)) x e c.in_ok-kind.kind (omega (arith, same, c.if-event-events.false)) free))
