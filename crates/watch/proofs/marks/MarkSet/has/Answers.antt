use Rattle.std.proofs.Common.{◌≡◌, ℕ, ◌≤◌, true, sym, ap, ⊎_elim, ◌∙◌, arith, rules}
use Rattle.std.proofs.lemmas.Bool.{cases_lt, false≢true}
use Rattle.watch.specs.Marks.{has}
use Rattle.watch.proofs.Bits.{has_past}
use Rattle.watch.proofs.marks.MarkSet.has.Goals as goal

pub returns-else-contains : goal.returns-else-contains
returns-else-contains c =
    let mark : ℕ = c.args.mark in
    let set : ℕ = c.args.self.bits in
    let inside : 1 ≤ mark → mark ≤ 8 → c.contains.result ≡ true = λ low high. search rules in
    ⊎_elim
    (λ none. let zero : mark ≡ 0 = omega arith in c.if-contains.false ∙ sym (ap (λ (i : ℕ). has i set) zero))
    (λ some.
    ⊎_elim (λ past. c.if-contains.false ∙ sym (has_past 8 mark set (omega arith) past))
    (λ few. absurd (false≢true (sym c.if-contains.false ∙ inside some few))) (cases_lt 8 mark))
    (cases_lt mark 1)
