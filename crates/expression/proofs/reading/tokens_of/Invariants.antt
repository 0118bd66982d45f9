use Rattle.text.specs.Words.{words, words_left}
use Rattle.expression.specs.inner.Drafts.{Drafting}
use Rattle.expression.proofs.reading.tokens_of.Given as goal

abbrev pub invariant-loop-word : goal.invariant-loop-word
invariant-loop-word l =
    (goal.iterator-loop-word).can_next l.word-iterator
    × (goal.iterator-loop-word).is_finite l.word-iterator
    × Drafting (words l.line) l.tokens (words_left l.word-iterator)
