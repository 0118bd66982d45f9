-- A list draws a lawful watcher if its sizes are lawful and each of its states is. Assumes nothing.
use Rattle.std.proofs.Common.{ℕ, ◌<◌, List, vec_items, ⊎_elim, arith, pow_pos}
use mathlib.Core.Logic.{∥∥₁_elim}
use Rattle.std.proofs.lemmas.Bool.{cases_lt}
use Rattle.std.proofs.lemmas.Bool.Decides.{nat_tests}
use Rattle.watch.specs.Letters.{letter_count}
use Rattle.watch.specs.Watchers.{Lawful}
use Rattle.watch.proofs.Uniqueness.{lawful_unique}
use Rattle.table.specs.Drawings.{drawn, Head, StateLawful}
use Rattle.table.specs.declared.table.Table.{Table}

-- What the table's type carries.
pub table_lawful : (t : Table) → Lawful (drawn (vec_items t.words))
table_lawful t = ∥∥₁_elim t.lawful (lawful_unique (drawn (vec_items t.words))) (λ law. law)

module _ (words : List ℕ) where
  abbrev n : ℕ
  n = (drawn words).states

  abbrev count : ℕ
  count = letter_count (drawn words).events

  pub all_lawful : Head words → ((s : ℕ) → s < n → StateLawful (drawn words) s) → Lawful (drawn words)
  all_lawful head each = record {
    some_state = head.some_state;
    few_states = omega (arith, head.few_states);
    some_event = head.some_event;
    few_events = head.few_events;
    some_mark = head.some_mark;
    few_marks = head.few_marks;
    start_within = head.some_state;
    next_within = λ s a.
        ⊎_elim
        (λ below. ⊎_elim (λ letter. ((each s below).1 a letter).0) (λ beyond. grind (arith, nat_tests, head.some_state)) (cases_lt a count))
        (λ beyond. grind (arith, nat_tests, head.some_state)) (cases_lt s n);
    next_beyond_states = λ s a h. grind (arith, nat_tests);
    next_beyond_letters = λ s a h. grind (arith, nat_tests);
    shown_within = λ s.
        ⊎_elim (λ below. (each s below).0) (λ beyond. grind (arith, nat_tests, pow_pos (drawn words).marks)) (cases_lt s n);
    shown_beyond = λ s h. grind (arith, nat_tests);
    marks_stay = λ s a i hs ha. ((each s hs).1 a ha).1 i;
  }
