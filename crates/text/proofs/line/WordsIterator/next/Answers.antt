use Rattle.std.proofs.Common.{◌≡◌, ℕ, Bor, List, length, eqb, Some, Option, sym, ap, ◌∙◌, arith, rules}
use borrow.Author.Tests.{tests}
use Rattle.std.specs.List.{position}
use Rattle.std.proofs.lemmas.List.{take_rest}
use Rattle.std.proofs.lemmas.Iterator.{YieldsList-from_slice}
use Rattle.std.proofs.lemmas.Iterator.Search.{position_from_yields_List}
use Rattle.text.specs.Words.{words, words_left}
use Rattle.text.specs.declared.line.Words.{Words}
use Rattle.text.proofs.Cutting.{words_none, words_at}
use Rattle.text.proofs.line.WordsIterator.next.Goals as goal
use Rattle.text.proofs.line.WordsIterator.next.Goals.{After-position}

-- The first space is where `position` found it.
found : (c : After-position) → c.position.result ≡ position (λ b. eqb b 32) c.in_ok-rest.rest.now
found c =
    position_from_yields_List (λ b. eqb b 32) _ _ _ c.position.ensures.ran
    (YieldsList-from_slice c.in_ok-rest.rest.now cc)
    (λ x b q k. search (rules, tests))

-- What is left is the rest of a line.
rest_left : (w : Words) (rest : Bor (List ℕ)) → w.0 ≡ Some rest → words_left w ≡ words rest.now
rest_left w rest e = ap (λ (o : Option (Bor (List ℕ))). words_left (record { 0 = o })) e

pub returns-in_default-clause-steps : goal.returns-in_default-clause-steps
returns-in_default-clause-steps c =
    let c' = (goal.at.returns-in_default-clause-steps c).After-position in
    rest_left c.args.self.now c.in_ok-rest.rest c.in_ok-rest.was
    ∙ words_none c.in_ok-rest.rest.now (sym (found c') ∙ c.in_default.is)

pub returns-clause-steps : goal.returns-clause-steps
returns-clause-steps c =
    let c' = (goal.at.returns-clause-steps c).After-position in
    rest_left c.args.self.now c.in_ok-rest.rest c.in_ok-rest.was
    ∙ simp (take_rest) (words_at c.in_ok-rest.rest.now c.in-Some.space (sym (found c') ∙ c.in-Some.is))

pub returns-clause-goes : goal.returns-clause-goes
returns-clause-goes c =
    let steps = returns-clause-steps c in
    record { on = λ _. (tt, tt, omega (arith, ap length steps)); keeps = tt; rests = λ _. tt }
