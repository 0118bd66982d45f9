use Rattle.std.proofs.Common.{◌≡◌, ℕ, ◌+◌, ◌^◌, ◌<◌, length}
use Rattle.watch.specs.Letters.{digits, most_events}
use Rattle.watch.specs.Steps.{spelt, step_digits}
use Rattle.watch.proofs.Spelling.{spelt_onto}
use Rattle.watch.proofs.step.Step.letter.Given as goal

-- the letter of the events so far, which are the last ones, behind those that are left
abbrev pub invariant-loop-kind : goal.invariant-loop-kind
invariant-loop-kind l = record {
  spells : spelt_onto l.kind-iterator.iter.rest.now l.letter ≡ spelt (step_digits l.fn.self);
  small : (n : ℕ) × (n + length l.kind-iterator.iter.rest.now ≡ most_events) × (l.letter < digits ^ n);
}
