-- The rows within their limits are a watcher. Assumes nothing.
use Rattle.std.specs.Prelude.{◌≡◌, ℕ, zero, suc, ◌^◌, ◌<◌, ◌≤◌, ◌&&◌, List, [], ◌∷◌, length, nat_lt, slice_index_or}
use Rattle.std.proofs.Common.{sym, ap, subst, ◌∙◌, inl, inr, arith, pow_pos}
use Rattle.std.proofs.lemmas.Bool.{and_from, and_left, and_right, lt-ltb, le-ltb, cond-true, cond-false, cases_Bool, cases_lt, both_ways}
use Rattle.watch.specs.Letters.{letter_count}
use Rattle.watch.specs.Marks.{Has, has}
use Rattle.watch.specs.Watchers.{Watching, Lawful, most_marks}
use Rattle.watch.proofs.Bits.{has_from, has_past}
use Rattle.osl.specs.declared.event.Event.{Event}
use Rattle.osl.specs.declared.row.Row.{Row}
use Rattle.watch.specs.Steps.{digits_of}
use Rattle.rows.specs.Stepping.{moved, broken}
use Rattle.rows.proofs.Bounds.{moved_broken}
use Rattle.limits.specs.Questions.{product}
use Rattle.limits.proofs.Products.{product_pos}
use Rattle.sheet.specs.Joints.{joint, marks_at, matched_all, nothing, watched}
use Rattle.sheet.specs.Bounds.{Bounds}
use Rattle.sheet.specs.Parts.{part, joint_below, part_next, length_matched, shown→broken, broken→shown, marks_below}

module _ (events : List Event) (rows : List Row) where
  abbrev w : Watching
  w = watched events rows

  -- within its sizes the watcher steps and shows as its rows do
  pub stepping : (s a : ℕ) → s < product rows → a < letter_count (length events) → w.next s a ≡ joint rows (matched_all events most_marks rows) (digits_of a) s
  stepping s a hs ha =
      cond-true (nat_lt s (product rows) && nat_lt a (letter_count (length events))) _ _
      (and_from (nat_lt s (product rows)) (nat_lt a (letter_count (length events))) (lt-ltb s (product rows) hs) (lt-ltb a (letter_count (length events)) ha))

  pub showing : (s : ℕ) → s < product rows → w.shown s ≡ marks_at rows s
  showing s hs = cond-true (nat_lt s (product rows)) _ _ (lt-ltb s (product rows) hs)

  next_below : (s a : ℕ) → w.next s a < product rows
  next_below s a =
      elim (cases_Bool (nat_lt s (product rows) && nat_lt a (letter_count (length events)))) [
        | inl e ↦
            subst (λ n. n < product rows) (sym (cond-true _ _ _ e)) (joint_below rows (matched_all events most_marks rows) (digits_of a) s)
        | inr e ↦ subst (λ n. n < product rows) (sym (cond-false _ _ _ e)) (product_pos rows)
      ]

  shown_below : (s : ℕ) → w.shown s < 2 ^ length rows
  shown_below s =
      elim (cases_Bool (nat_lt s (product rows))) [
        | inl e ↦ subst (λ n. n < 2 ^ length rows) (sym (cond-true _ _ _ e)) (marks_below rows s)
        | inr e ↦ subst (λ n. n < 2 ^ length rows) (sym (cond-false _ _ _ e)) (pow_pos (length rows))
      ]

  -- no mark beyond the rows
  pub no_mark_past : (i s : ℕ) → length rows ≤ i → Has (suc i) (marks_at rows s) → ⊥
  no_mark_past i s past mark =
      both_ways (has (suc i) (marks_at rows s)) (has_past (length rows) (suc i) (marks_at rows s) (marks_below rows s) (omega arith)) (has_from (suc i) (marks_at rows s) mark)

  -- a broken row stays broken
  broken_stays :
      (i : ℕ) (d : Row) (s a : ℕ) → i < length rows → length rows ≤ most_marks → part rows i s ≡ broken (slice_index_or rows i d) →
      part rows i (joint rows (matched_all events most_marks rows) (digits_of a) s) ≡ broken (slice_index_or rows i d)
  broken_stays i d s a here few is =
      part_next rows (matched_all events most_marks rows) (digits_of a) i d nothing s here (omega (arith, length_matched events most_marks rows)) ∙
      (ap (λ (n : ℕ). moved (slice_index_or rows i d) (slice_index_or (matched_all events most_marks rows) i nothing) (digits_of a) n) is ∙
      moved_broken (slice_index_or rows i d) (slice_index_or (matched_all events most_marks rows) i nothing) (digits_of a))

  mark_stays :
      (i : ℕ) (d : Row) (s a : ℕ) → length rows ≤ most_marks → Has (suc i) (marks_at rows s) →
      Has (suc i) (marks_at rows (joint rows (matched_all events most_marks rows) (digits_of a) s))
  mark_stays i d s a few mark =
      elim (cases_lt i (length rows)) [
        | inl here ↦
            broken→shown rows i d (joint rows (matched_all events most_marks rows) (digits_of a) s) here
            (broken_stays i d s a here few (shown→broken rows i d s here mark))
        | inr past ↦ absurd (no_mark_past i s past mark)
      ]

pub some_row : (rows : List Row) → 1 ≤ length rows → Row
some_row [] h = absurd (let q : ⊥ = omega arith in q)
some_row (r ∷ rs) h = r

pub sheet_lawful : (events : List Event) (rows : List Row) → Bounds events rows → Lawful (watched events rows)
sheet_lawful events rows lim =
    record {
      some_state = product_pos rows;
      few_states = lim.few_states;
      some_event = lim.some_events;
      few_events = lim.few_events;
      some_mark = lim.some_rows;
      few_marks = lim.few_rows;
      start_within = product_pos rows;
      next_within = next_below events rows;
      next_beyond_states =
          λ s a past. cond-false _ _ _ (and_left (nat_lt s (product rows)) (nat_lt a (letter_count (length events))) (le-ltb s (product rows) past));
      next_beyond_letters =
          λ s a past.
          cond-false _ _ _
          (and_right (nat_lt s (product rows)) (nat_lt a (letter_count (length events))) (le-ltb a (letter_count (length events)) past));
      shown_within = shown_below events rows;
      shown_beyond = λ s past. cond-false _ _ _ (le-ltb s (product rows) past);
      marks_stay = λ s a i hs ha mark. stays s a i hs ha mark;
    }
  where
    stays :
        (s a i : ℕ) → s < product rows → a < letter_count (length events) → Has i ((watched events rows).shown s) →
        Has i ((watched events rows).shown ((watched events rows).next s a))
    stays s a zero hs ha mark = mark
    stays s a (suc i) hs ha mark =
        let J : ℕ = joint rows (matched_all events most_marks rows) (digits_of a) s in
        let before : Has (suc i) (marks_at rows s) = subst (λ (n : ℕ). Has (suc i) n) (showing events rows s hs) mark in
        let after : Has (suc i) (marks_at rows J) = mark_stays events rows i (some_row rows lim.some_rows) s a lim.few_rows before in
        let shown : (watched events rows).shown ((watched events rows).next s a) ≡ marks_at rows J =
        ap (λ (n : ℕ). (watched events rows).shown n) (stepping events rows s a hs ha) ∙
        showing events rows J (joint_below rows (matched_all events most_marks rows) (digits_of a) s)
        in
        subst (λ (n : ℕ). Has (suc i) n) (sym shown) after
