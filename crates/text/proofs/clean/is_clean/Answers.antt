use Rattle.std.proofs.Common.{ℕ, Bor, List, rules}
use Rattle.std.proofs.lemmas.Iterator.Consumers.{YieldsList-from_first}
use Rattle.std.proofs.lemmas.Iterator.Search.{all_from_yields_List}
use borrow.Author.Tests.{tests}
use Rattle.text.specs.Clean.{clean_word}
use Rattle.text.specs.Words.{words, words_left}
use Rattle.text.proofs.clean.is_clean.Goals as goal

pub returns : goal.returns
returns c =
    all_from_yields_List clean_word c.all.new.self _ _ c.all.ensures.ran
    (YieldsList-from_first (λ (w : Bor (List ℕ)). w.now) words_left (words c.args.line.now) c.of.ensures.words)
    (λ x b q k. search (rules, tests))
