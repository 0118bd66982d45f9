use Rattle.std.proofs.Common.{rules}
use Rattle.sheet.proofs.Digits.{made_matched}
use Rattle.sheet.proofs.terms.Terms.matched.Goals as goal

pub returns : goal.returns
returns c =
    made_matched _ _ c.args.self.events.now c.args.self.rows.now (λ i m q k. search rules) c.from_fn.result 8 c.from_fn.ensures.items
