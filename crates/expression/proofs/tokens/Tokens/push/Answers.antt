use Rattle.std.proofs.Common.{◌+◌, ◌∙◌, arith}
use Rattle.std.proofs.lemmas.List.{length-set, drop-set-lt}
use Rattle.expression.proofs.Drafting.{blanks_less}
use Rattle.expression.proofs.tokens.Tokens.push.Goals as goal

pub invariant_of-self : goal.invariant_of-self
invariant_of-self c =
    let a = c.self.inside in
    let h = c.self.invariant in (
      length-set a.cells a.len c.args.token ∙ h.0,
      omega (arith, h.1, c.if-self-eq-MOST_WORDS.false),
      drop-set-lt (a.len + 1) a.cells a.len c.args.token (omega arith) ∙ blanks_less a.cells a.len h.2,
    )
