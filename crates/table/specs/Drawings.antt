-- The watcher that a list of words draws. Assumes nothing.
use Rattle.std.specs.Prelude.{◌≡◌, ℕ, ◌+◌, ◌*◌, ◌^◌, ◌<◌, ◌≤◌, cond, ◌&&◌, List, length, nat_lt, slice_index, slice_index_or}
use Rattle.watch.specs.Letters.{letter_count, most_events}
use Rattle.watch.specs.Marks.{Has}
use Rattle.watch.specs.Watchers.{Watching, most_marks}

-- The list begins with the number of states, of events and of marks. The empty list draws the blank table: one state,
-- one event, one mark, never shown.
abbrev pub drawn_states : List ℕ → ℕ
drawn_states words = slice_index_or words 0 1

abbrev pub drawn_events : List ℕ → ℕ
drawn_events words = slice_index_or words 1 1

abbrev pub drawn_marks : List ℕ → ℕ
drawn_marks words = slice_index_or words 2 1

-- Then come the states' sets of marks, and then their next states, state by state and in each letter by letter.
-- State 0 is the start.
abbrev pub drawn : List ℕ → Watching
drawn words =
    let n : ℕ = drawn_states words in
    let count : ℕ = letter_count (drawn_events words) in
    record {
      states = n;
      events = drawn_events words;
      marks = drawn_marks words;
      start = 0;
      next = λ s a. cond (nat_lt s n && nat_lt a count) (slice_index words (3 + n + s * count + a)) 0;
      shown = λ s. cond (nat_lt s n) (slice_index words (3 + s)) 0;
    }

abbrev pub most_drawn_states : ℕ
most_drawn_states = 1024

-- The list begins with lawful sizes.
pub record Head (words : List ℕ) : Type 0 where
  pub three : 3 ≤ length words
  pub some_state : 1 ≤ drawn_states words
  pub few_states : drawn_states words ≤ most_drawn_states
  pub some_event : 1 ≤ drawn_events words
  pub few_events : drawn_events words ≤ most_events
  pub some_mark : 1 ≤ drawn_marks words
  pub few_marks : drawn_marks words ≤ most_marks

-- It has exactly the length that they say.
pub record Sized (words : List ℕ) : Type 0 where
  pub head : Head words
  pub long : length words ≡ 3 + drawn_states words + drawn_states words * letter_count (drawn_events words)

-- What a watcher must show, of one letter and of one state.
abbrev pub LetterLawful : Watching → ℕ → ℕ → Type 0
LetterLawful w s a =
    (w.next s a < w.states) × ((i : ℕ) → Has i (w.shown s) → Has i (w.shown (w.next s a)))

abbrev pub StateLawful : Watching → ℕ → Type 0
StateLawful w s =
    (w.shown s < 2 ^ w.marks) × ((a : ℕ) → a < letter_count w.events → LetterLawful w s a)
