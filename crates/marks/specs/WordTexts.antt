-- The words of an evening, as they are printed. Assumes nothing.
use Rattle.std.specs.Prelude.{◌≡◌, ℕ, zero, suc, ◌+◌, ◌≤◌, min, Bool, true, false, cond, List, [], ◌++◌, length, take, None, codes, decimal, nat_le}
use Rattle.watch.specs.Following.{Stray}
use Rattle.watch.specs.Letters.{letter_count}
use Rattle.watch.specs.Watchers.{Watching}
use Rattle.expression.specs.Formulas.{Formula}
use Rattle.monitor.specs.Plain.{most_closed}
use Rattle.monitor.specs.Refusals.{refusal_number}
use Rattle.monitor.specs.Words.{RightWord, word_text}
use Rattle.monitor.specs.declared.refusal.Refusal.TheVariants.{Steps}
use Rattle.monitor.specs.declared.word.Word.{Word}
use Rattle.monitor.specs.declared.word.Word.TheVariants.{Open, Satisfied, Violated}

abbrev pub same_word : Word → Word → Bool
same_word Open Open = true
same_word Open Satisfied = false
same_word Open Violated = false
same_word Satisfied Open = false
same_word Satisfied Satisfied = true
same_word Satisfied Violated = false
same_word Violated Open = false
same_word Violated Satisfied = false
same_word Violated Violated = true

-- The word before any step.
abbrev pub new_line : Word → List ℕ
new_line word = codes "new " ++ (word_text word ++ codes "\n")

-- A step and the word after it, where the word before it was another.
abbrev pub change_line : ℕ → Word → Word → List ℕ
change_line step before word =
    cond (same_word word before) [] (decimal step ++ (codes " " ++ (word_text word ++ codes "\n")))

abbrev pub closed_line : ℕ → List ℕ
closed_line n = codes "closed " ++ (decimal n ++ codes "\n")

abbrev pub refused_line : ℕ → ℕ → List ℕ
refused_line number line = codes "refused " ++ (decimal number ++ (codes " line " ++ (decimal line ++ codes "\n")))

-- The lines of the first n steps; `word k` is the word after k steps.
abbrev pub word_lines : (ℕ → Word) → ℕ → List ℕ
word_lines word zero = new_line (word 0)
word_lines word (suc n) = word_lines word n ++ change_line n (word n) (word (suc n))

-- The last line, at n letters: how many steps are closed, or that the first step beyond the most is refused.
abbrev pub last_line : ℕ → List ℕ
last_line n = cond (nat_le n most_closed) (closed_line n) (refused_line (refusal_number Steps) (most_closed + 1))

-- The lines of n letters, and the last line.
abbrev pub words_text : (ℕ → Word) → ℕ → List ℕ
words_text word n = word_lines word (min n most_closed) ++ last_line n

-- The text is that of the right words: after each number of closed steps, the word says whether any endless
-- continuation of them keeps the terms, and whether any breaks them.
pub record RightText (w : Watching) (f : Formula) (letters text : List ℕ) : Type 0 where
  pub word : ℕ → Word
  pub right : (k : ℕ) → k ≤ min (length letters) most_closed → RightWord w f (take k letters) (word k)
  pub is : text ≡ words_text word (length letters)

-- Where no letter is beyond the alphabet, the text is that of the right words.
abbrev pub Tells : Watching → Formula → List ℕ → List ℕ → Type 0
Tells w f letters text = Stray (letter_count w.events) letters None → RightText w f letters text
