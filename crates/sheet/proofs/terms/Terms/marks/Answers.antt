use Rattle.std.proofs.Common.{◌≡◌, ℕ, Bool, true, false, cond, refl, ap, ◌∙◌, rules}
use mir.Val.{bool_byte}
use Rattle.sheet.proofs.Digits.{marked}
use Rattle.sheet.proofs.terms.Terms.marks.Goals as goal

byte_is : (b : Bool) → ◌≡◌ {A = ℕ} (bool_byte b) (cond b 1 0)
byte_is true = refl
byte_is false = refl

pub loop-row-preserved : goal.loop-row-preserved
loop-row-preserved c =
    marked c.args.self.rows.now c.args.state c.loop-row.row-index c.loop-row.rest c.loop-row.bit c.loop-row.sum c.loop-row.invariant
    c.row-item.result c.loop-row-test.true c.row-item.is c.states-count.result c.from.result c.states-count.ensures
    (c.from.ensures ∙ (byte_is c.shows.result ∙ ap (λ (b : Bool). cond {A = ℕ} b 1 0) c.shows.ensures)) (search rules)
