use Rattle.std.proofs.Common.{vec_items}
use Rattle.expression.specs.Expressions.{formula}
use Rattle.sheet.specs.Limits.{within}
use Rattle.sheet.proofs.sheet.Sheet.terms.Goals as goal

pub invariant_of-result : goal.invariant_of-result
invariant_of-result c =
    let s = c.args.self.now in
    record { within = rw (c.deref.ensures.value, c.deref-2.ensures.value) (within (vec_items s.events) (vec_items s.rows) (formula s.keep) s.lawful) }
