-- The rows of a joint state step as each would alone, and show each row's mark. Assumes nothing.
use Rattle.std.specs.Prelude.{◌≡◌, ℕ, zero, suc, ◌+◌, ◌*◌, ◌/◌, ◌%◌, ◌^◌, ◌<◌, ◌≤◌, Bool, true, false, cond, List, [], ◌∷◌, length, ◌==◌, slice_index_or, refl}
use Rattle.std.proofs.Common.{sym, ap, ◌∙◌, mod-lt, div-one, pow-suc, mul_comm, arith}
use Rattle.std.proofs.Math.Nat.{zero-mod, zero-div, div-div-eq-div-mul}
use Rattle.std.proofs.Math.Arith.{digits_div, digits_mod}
use Rattle.std.proofs.lemmas.Nat.{mul-add-lt}
use Rattle.std.proofs.lemmas.Bool.{eqb-true, eq-eqb}
use Rattle.watch.specs.Marks.{Has}
use Rattle.osl.specs.declared.event.Event.{Event}
use Rattle.osl.specs.declared.row.Row.{Row}
use Rattle.osl.specs.declared.matched.Matched.{Matched}
use Rattle.osl.specs.Resolving.{matched_by}
use Rattle.rows.specs.Stepping.{moved, broken, states}
use Rattle.rows.proofs.Bounds.{moved_below}
use Rattle.limits.specs.Questions.{product}
use Rattle.limits.proofs.Products.{product_pos}
use Rattle.sheet.specs.Joints.{joint, marks_at, matched_all}

-- the state of row number i, counted from 0
abbrev pub part : List Row → ℕ → ℕ → ℕ
part [] i s = 0
part (r ∷ rs) zero s = s % states r
part (r ∷ rs) (suc i) s = part rs i (s / states r)

own_below : (r : Row) (m : Matched) (ds : List ℕ) (s : ℕ) → moved r m ds (s % states r) < states r
own_below r m ds s = moved_below r m ds (s % states r) (mod-lt s (let p : 0 < states r = omega arith in p))

pub joint_below : (rows : List Row) (ms : List Matched) (ds : List ℕ) (s : ℕ) → joint rows ms ds s < product rows
joint_below [] ms ds s = omega arith
joint_below (r ∷ rs) [] ds s = product_pos (r ∷ rs)
joint_below (r ∷ rs) (m ∷ ms) ds s =
    mul-add-lt (joint rs ms ds (s / states r)) (states r) (moved r m ds (s % states r)) (product rs)
    (joint_below rs ms ds (s / states r)) (own_below r m ds s)

pub part_start : (rows : List Row) (i : ℕ) → part rows i 0 ≡ 0
part_start [] i = refl
part_start (r ∷ rs) zero = zero-mod (states r)
part_start (r ∷ rs) (suc i) = ap (λ (s : ℕ). part rs i s) (zero-div (states r)) ∙ part_start rs i

-- the part of the next state is the part's next state
pub part_next :
    (rows : List Row) (ms : List Matched) (ds : List ℕ) (i : ℕ) (d : Row) (e : Matched) (s : ℕ) → i < length rows → length rows ≤ length ms →
    part rows i (joint rows ms ds s) ≡ moved (slice_index_or rows i d) (slice_index_or ms i e) ds (part rows i s)
part_next [] ms ds i d e s here room = absurd (omega arith)
part_next (r ∷ rs) [] ds i d e s here room = absurd (omega arith)
part_next (r ∷ rs) (m ∷ ms) ds zero d e s here room = digits_mod (joint rs ms ds (s / states r)) (own_below r m ds s)
part_next (r ∷ rs) (m ∷ ms) ds (suc i) d e s here room =
    ap (λ (n : ℕ). part rs i n) (digits_div (joint rs ms ds (s / states r)) (own_below r m ds s)) ∙
    part_next rs ms ds i d e (s / states r) (omega arith) (omega arith)

pub length_matched : (events : List Event) (n : ℕ) (rows : List Row) → length (matched_all events n rows) ≡ n
length_matched events zero rows = refl
length_matched events (suc n) [] = ap suc (length_matched events n [])
length_matched events (suc n) (r ∷ rs) = ap suc (length_matched events n rs)

pub matched_at :
    (events : List Event) (n : ℕ) (rows : List Row) (i : ℕ) (d : Row) (e : Matched) → i < length rows → length rows ≤ n →
    slice_index_or (matched_all events n rows) i e ≡ matched_by events (slice_index_or rows i d)
matched_at events zero [] i d e here room = absurd (omega arith)
matched_at events zero (r ∷ rs) i d e here room = absurd (omega arith)
matched_at events (suc n) [] i d e here room = absurd (omega arith)
matched_at events (suc n) (r ∷ rs) zero d e here room = refl
matched_at events (suc n) (r ∷ rs) (suc i) d e here room = matched_at events n rs i d e (omega arith) (omega arith)

-- ## Marks

low_bit : (b : Bool) (m : ℕ) → (m * 2 + cond b 1 0) % 2 ≡ cond b 1 0
low_bit true m = let e : (m * 2 + 1) % 2 ≡ 1 = omega arith in e
low_bit false m = let e : (m * 2 + 0) % 2 ≡ 0 = omega arith in e

high_bits : (b : Bool) (m : ℕ) → (m * 2 + cond b 1 0) / 2 ≡ m
high_bits true m = let e : (m * 2 + 1) / 2 ≡ m = omega arith in e
high_bits false m = let e : (m * 2 + 0) / 2 ≡ m = omega arith in e

-- a higher bit is a bit of the half
half : (x j : ℕ) → x / 2 ^ suc j ≡ x / 2 / 2 ^ j
half x j = ap (λ (n : ℕ). x / n) (pow-suc 2 j ∙ mul_comm (2 ^ j) 2) ∙ sym (div-div-eq-div-mul x 2 (2 ^ j))

bit_is : (rs : List Row) (r : Row) (s j : ℕ) → marks_at (r ∷ rs) s / 2 ^ suc j ≡ marks_at rs (s / states r) / 2 ^ j
bit_is rs r s j =
    half (marks_at (r ∷ rs) s) j ∙
    ap (λ (n : ℕ). n / 2 ^ j) (high_bits (s % states r == broken r) (marks_at rs (s / states r)))

first_bit : (rs : List Row) (r : Row) (s : ℕ) → (marks_at (r ∷ rs) s / 2 ^ 0) % 2 ≡ cond (s % states r == broken r) 1 0
first_bit rs r s =
    ap (λ (n : ℕ). n % 2) (div-one (marks_at (r ∷ rs) s)) ∙ low_bit (s % states r == broken r) (marks_at rs (s / states r))

one_is_true : (b : Bool) → ◌≡◌ {A = ℕ} (cond b 1 0) 1 → b ≡ true
one_is_true true e = refl
one_is_true false e = absurd (let z : ◌≡◌ {A = ℕ} 0 1 = e in let no : ⊥ = omega arith in no)

-- a mark is shown exactly where the row's part is broken
pub shown→broken : (rows : List Row) (i : ℕ) (d : Row) (s : ℕ) → i < length rows → Has (suc i) (marks_at rows s) → part rows i s ≡ broken (slice_index_or rows i d)
shown→broken [] i d s here has = absurd (omega arith)
shown→broken (r ∷ rs) zero d s here has =
    eqb-true (s % states r) (broken r) (one_is_true (s % states r == broken r) (sym (first_bit rs r s) ∙ has))
shown→broken (r ∷ rs) (suc i) d s here has =
    shown→broken rs i d (s / states r) (omega arith) (sym (ap (λ (n : ℕ). n % 2) (bit_is rs r s i)) ∙ has)

pub broken→shown : (rows : List Row) (i : ℕ) (d : Row) (s : ℕ) → i < length rows → part rows i s ≡ broken (slice_index_or rows i d) → Has (suc i) (marks_at rows s)
broken→shown [] i d s here is = absurd (omega arith)
broken→shown (r ∷ rs) zero d s here is =
    first_bit rs r s ∙ ap (λ (b : Bool). cond {A = ℕ} b 1 0) (eq-eqb (s % states r) (broken r) is)
broken→shown (r ∷ rs) (suc i) d s here is =
    ap (λ (n : ℕ). n % 2) (bit_is rs r s i) ∙ broken→shown rs i d (s / states r) (omega arith) is

pub marks_below : (rows : List Row) (s : ℕ) → marks_at rows s < 2 ^ length rows
marks_below [] s = omega arith
marks_below (r ∷ rs) s = go (s % states r == broken r) (marks_below rs (s / states r))
  where
    go : (b : Bool) → marks_at rs (s / states r) < 2 ^ length rs → marks_at rs (s / states r) * 2 + cond b 1 0 < 2 ^ suc (length rs)
    go true h = omega (arith, pow-suc 2 (length rs))
    go false h = omega (arith, pow-suc 2 (length rs))
