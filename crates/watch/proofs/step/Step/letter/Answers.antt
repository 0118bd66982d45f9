use Rattle.std.proofs.Common.{rules, ◌≡◌, ℕ, suc, ◌<◌, List, length, Option, sym, ap, ◌∙◌, arith}
use Rattle.std.proofs.lemmas.List.{length_push}
use Rattle.watch.specs.Letters.{most_events}
use Rattle.watch.specs.declared.kind.Kind.{Kind}
use Rattle.watch.proofs.Spelling.{spelt_onto, spelt_onto-none, spelt_onto-push, spelt_onto-nil, power_few, next_small, digit_few}
use Rattle.watch.proofs.step.Step.letter.Goals as goal

pub loop-kind-init : goal.loop-kind-init
loop-kind-init c =
    let all : c.into_iter-kind-iterator.result.iter.rest.now ≡ c.args.self.kinds = cc in
    record { spells = rw all (spelt_onto-none c.args.self.kinds); small = (0, rw all (search rules), omega arith) }

pub overflow_mul-letter : goal.overflow_mul-letter
overflow_mul-letter c =
    let n = c.loop-kind.invariant.small.0 in
    let fewer : n < most_events = omega (arith, c.loop-kind.invariant.small.1, ap length c.in-Some.ensures.steps, length_push c.next.new.self.iter.rest.now c.in-Some.kind.now) in
    omega (arith, power_few n fewer, c.loop-kind.invariant.small.2)

pub overflow_add-letter : goal.overflow_add-letter
overflow_add-letter c =
    let n = c.loop-kind.invariant.small.0 in
    let fewer : n < most_events = omega (arith, c.loop-kind.invariant.small.1, ap length c.in-Some.ensures.steps, length_push c.next.new.self.iter.rest.now c.in-Some.kind.now) in
    omega (arith, power_few n fewer, c.loop-kind.invariant.small.2, digit_few c.in-Some.kind.now, c.digit_of.ensures)

pub loop-kind-preserved : goal.loop-kind-preserved
loop-kind-preserved c =
    let n = c.loop-kind.invariant.small.0 in
    let rest = c.next.new.self.iter.rest.now in
    record {
      spells =
          ap (λ (n : ℕ). spelt_onto rest n) (omega (arith, c.digit_of.ensures))
          ∙ (sym (spelt_onto-push rest c.in-Some.kind.now c.loop-kind.letter) ∙ (ap (λ (ks : List (Option Kind)). spelt_onto ks c.loop-kind.letter) (sym c.in-Some.ensures.steps) ∙ c.loop-kind.invariant.spells));
      small = (
        suc n,
        omega (arith, c.loop-kind.invariant.small.1, ap length c.in-Some.ensures.steps, length_push rest c.in-Some.kind.now),
        rw c.digit_of.ensures (next_small n c.loop-kind.letter c.in-Some.kind.now c.loop-kind.invariant.small.2),
      );
    }

pub returns : goal.returns
returns c = sym (spelt_onto-nil c.loop-kind.kind-iterator.iter.rest.now c.loop-kind.letter c.in-None.ensures.steps.0) ∙ c.loop-kind.invariant.spells
