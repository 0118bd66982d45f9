use Rattle.std.proofs.Common.{◌+◌, ◌*◌, ◌∙◌, arith}
use Rattle.limits.proofs.Products.{product_more, product_least, product_all}
use Rattle.limits.proofs.judging.state_count.Goals as goal

pub returns-then-product-from : goal.returns-then-product-from
returns-then-product-from c =
    let rows = c.args.rows.now in
    let more =
    product_more rows c.loop-row.row-index c.loop-row.product c.loop-row.invariant.0 c.row-item.result c.from-product.result
    c.loop-row-test.true c.row-item.is (c.from-product.ensures ∙ c.states.ensures)
    in
    omega (arith, product_least rows (c.loop-row.row-index + 1) (c.loop-row.product * c.from-product.result) more)

pub loop-row-preserved : goal.loop-row-preserved
loop-row-preserved c = (
  product_more c.args.rows.now c.loop-row.row-index c.loop-row.product c.loop-row.invariant.0 c.row-item.result c.from-product.result
      c.loop-row-test.true c.row-item.is (c.from-product.ensures ∙ c.states.ensures),
  omega arith,
)

pub returns : goal.returns
returns c =
    let all = product_all c.args.rows.now c.loop-row.row-index c.loop-row.product c.loop-row.invariant.0 c.loop-row-test.false in
    (all, omega (arith, c.loop-row.invariant.1))
