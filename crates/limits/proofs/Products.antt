-- The product of the rows' states, row by row. Assumes nothing.
use Rattle.std.proofs.Common.{◌≡◌, ℕ, ◌+◌, ◌*◌, ◌<◌, ◌≤◌, List, [], ◌∷◌, length, get_or, drop, sym, ap, ◌∙◌, mul_assoc, mul-one, le-mul_of_pos_right, arith}
use Rattle.std.proofs.lemmas.List.{at_drop_more, at_drop_all}
use Rattle.osl.specs.declared.row.Row.{Row}
use Rattle.rows.specs.Stepping.{states}
use Rattle.limits.specs.Questions.{product}

pub product_pos : (rows : List Row) → 0 < product rows
product_pos [] = omega arith
product_pos (r ∷ rs) = omega (arith, le-mul_of_pos_right {m = product rs} (states r) (product_pos rs))

module _ (rows : List Row) (i p : ℕ) (inv : p * product (drop i rows) ≡ product rows) where
  pub product_more : (x : Row) (n : ℕ) → i < length rows → x ≡ get_or rows i x → n ≡ states x → p * n * product (drop (i + 1) rows) ≡ product rows
  product_more x n here is size =
      ap (λ (m : ℕ). p * m * product (drop (i + 1) rows)) size ∙
      (mul_assoc p (states x) (product (drop (i + 1) rows)) ∙
      (ap (λ (y : Row). p * (states y * product (drop (i + 1) rows))) is ∙
      (ap (λ (m : ℕ). p * m) (sym (at_drop_more product rows i x here)) ∙ inv)))

  pub product_least : p ≤ product rows
  product_least = omega (arith, inv, le-mul_of_pos_right {m = product (drop i rows)} p (product_pos (drop i rows)))

  pub product_all : length rows ≤ i → p ≡ product rows
  product_all past = sym (mul-one p) ∙ (ap (λ (m : ℕ). p * m) (sym (at_drop_all product rows i past)) ∙ inv)
