use Rattle.std.proofs.Common.{◌≡◌, ℕ, pred, ◌+◌, true, List, ◌++◌, length, Bor, decimal, sym, refl, ap, ◌∙◌, add-one, arith, rules}
use Rattle.std.proofs.Output.{has_written_append, has_written_of_eq, has_written_to_eq}
use Rattle.std.proofs.lemmas.Bool.{eqb-true, eqb-false}
use Rattle.watch.specs.Marks.{has}
use Rattle.watch.specs.MarkTexts.{marks_upto, or_none}
use Rattle.watch.proofs.MarkTexts.{gap, with_mark, without_mark, gap_after, no_marks, some_marks, all_marks}
use Rattle.watch.proofs.marks.MarkSetDisplay.fmt.Goals as goal
use Rattle.watch.proofs.marks.MarkSetDisplay.fmt.Goals.{then-has+in_ok-write, else-has}

pub loop-mark-preserved : goal.loop-mark-preserved
loop-mark-preserved g c =
    let set : ℕ = c.args.self.now.bits in
    let mark : ℕ = c.loop-mark.mark-counter in
    let took = g.W.Write.write_str_gives in
    let before : List ℕ = marks_upto (pred mark) set in
    let next : marks_upto (pred (mark + 1)) set ≡ marks_upto mark set = ap (λ (k : ℕ). marks_upto (pred k) set) (add-one mark) in
    elim c.if-has.branch [
      | then-has+in_ok-write w ↦
          let has-it : has mark set ≡ true = sym c.has.ensures ∙ w.if-has.true in
          let text : before ++ (c.loop-mark.gap.now ++ decimal mark) ≡ marks_upto (pred (mark + 1)) set =
          ap (λ (t : List ℕ). before ++ (t ++ decimal mark)) c.loop-mark.invariant.gap ∙ sym (next ∙ with_mark set mark (omega arith) has-it) in
          record {
            text = search rules;
            gap = ap (λ (b : Bor (List ℕ)). b.now) w.gap-is ∙ sym (ap gap next ∙ gap_after set mark (omega arith) (omega arith) has-it);
            written = λ plain.
                let so_far = c.loop-mark.invariant.written plain in
                has_written_to_eq took c.args.f.now _ _ _ w.f-is
                (has_written_of_eq took c.args.f.now _ _ _ text
                (has_written_append took c.args.f.now _ _ _ _ so_far (w.in_ok-write.ensures.writes so_far.plain refl)));
          }
      | else-has w ↦
          let same : before ≡ marks_upto (pred (mark + 1)) set = sym (next ∙ without_mark set mark (omega arith) (sym c.has.ensures ∙ w.if-has.false)) in
          record {
            text = search rules;
            gap = ap (λ (b : Bor (List ℕ)). b.now) w.gap-is ∙ c.loop-mark.invariant.gap ∙ ap gap same;
            written = λ plain.
                has_written_to_eq took c.args.f.now _ _ _ w.f-is (has_written_of_eq took c.args.f.now _ _ _ same (c.loop-mark.invariant.written plain));
          }
    ]

pub returns-then-is_empty-clause-writes : goal.returns-then-is_empty-clause-writes
returns-then-is_empty-clause-writes g c plain ok =
    let took = g.W.Write.write_str_gives in
    let text : List ℕ = marks_upto (pred c.loop-mark.mark-counter) c.args.self.now.bits in
    let so_far = c.loop-mark.invariant.written plain in
    let empty : length (gap text) ≡ 0 = sym (ap length c.loop-mark.invariant.gap) ∙ eqb-true _ _ (sym c.is_empty.ensures ∙ c.if-is_empty.true) in
    has_written_of_eq took c.args.f.now _ _ _ (no_marks text empty ∙ ap or_none (all_marks c.args.self.now.bits c.loop-mark.mark-counter (omega arith)))
    (has_written_append took c.args.f.now _ _ _ _ so_far (c.write_str.ensures.writes so_far.plain ok))

pub returns-clause-writes : goal.returns-clause-writes
returns-clause-writes g c plain ok =
    let text : List ℕ = marks_upto (pred c.loop-mark.mark-counter) c.args.self.now.bits in
    let full : length (gap text) ≡ 0 → ⊥ = λ empty. eqb-false _ _ (sym c.is_empty.ensures ∙ c.if-is_empty.false) (ap length c.loop-mark.invariant.gap ∙ empty) in
    has_written_of_eq g.W.Write.write_str_gives c.args.f.now _ _ _ (some_marks text full ∙ ap or_none (all_marks c.args.self.now.bits c.loop-mark.mark-counter (omega arith)))
    (c.loop-mark.invariant.written plain)
