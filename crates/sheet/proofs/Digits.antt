-- Numbers with a digit for each row, taken apart and put together row by row. Assumes nothing.
use Rattle.std.proofs.Common.{◌≡◌, ℕ, zero, suc, ◌+◌, ◌*◌, ◌/◌, ◌%◌, ◌^◌, ◌<◌, ◌≤◌, cond, eqb, List, [], ◌∷◌, length, get_or, drop, ◌⊎◌, ⊎_elim, refl, sym, ap, subst, ◌∙◌, le-mul_of_pos_right, mod-lt, mul_assoc, mul_comm, mul-le-mul_left, pow-suc, mul-zero, mul-one, mul-add, arith}
use Rattle.std.proofs.lemmas.List.{at_drop_more}
use Rattle.std.specs.Prelude.{slice_get}
use Rattle.std.specs.Option.{option_map_or}
use Rattle.std.specs.Array.{IsFromFnResult}
use Rattle.std.specs.Fn.{Mut, Called}
use Rattle.osl.specs.declared.event.Event.{Event}
use Rattle.osl.specs.declared.row.Row.{Row}
use Rattle.osl.specs.declared.matched.Matched.{Matched}
use Rattle.osl.specs.Resolving.{matched_by}
use Rattle.osl.proofs.Places.{made}
use Rattle.rows.specs.Stepping.{moved, broken, states}
use Rattle.rows.proofs.Bounds.{moved_below}
use Rattle.limits.specs.Questions.{product}
use Rattle.limits.proofs.Products.{product_pos}
use Rattle.sheet.specs.Parts.{length_matched}
use Rattle.sheet.specs.Joints.{joint, marks_at, matched_all, nothing}

-- one digit r below n is put on the sum, with the weight w; what is left above it is q
carry : (sum w n r q all : ℕ) → all ≡ q * n + r → sum + w * r + w * n * q ≡ sum + w * all
carry sum w n r q all is =
    let e : w * all ≡ w * (q * n) + w * r = ap (λ (m : ℕ). w * m) is ∙ mul-add w (q * n) r in
    let f : w * n * q ≡ w * (q * n) = mul_assoc w n q ∙ ap (λ (m : ℕ). w * m) (mul_comm n q) in
    omega arith

-- the sum stays below the weight
carry_below : (sum w n r : ℕ) → sum < w → r < n → sum + w * r < w * n
carry_below sum w n r low digit =
    let up : w * suc r ≤ w * n = mul-le-mul_left w digit in
    let e : w * suc r ≡ w * r + w * 1 = ap (λ (m : ℕ). w * m) (let z : suc r ≡ r + 1 = omega arith in z) ∙ mul-add w r 1 in
    let f : w * 1 ≡ w = mul-one w in
    omega arith

-- ## The next state

-- Of some rows and what they speak of: the sum so far, its weight and what is left of the state, where these rows and what they
-- speak of are left. In the end the sum is `all`, below `size`.
pub record Summing (all size : ℕ) (rs : List Row) (ms : List Matched) (ds : List ℕ) (rest weight sum : ℕ) : Type 0 where
  pub value : sum + weight * joint rs ms ds rest ≡ all
  pub whole : weight * product rs ≡ size
  pub below : sum < weight
  pub room : length rs ≤ length ms

module _
    (all size : ℕ) (left rs : List Row) (of ms : List Matched) (ds : List ℕ) (rest weight sum : ℕ)
    (so : Summing all size left of ds rest weight sum) (x : Row) (m : Matched) (row : left ≡ x ∷ rs) (own : of ≡ m ∷ ms)
    (n r : ℕ) (count : n ≡ states x) (new : r ≡ moved x m ds (rest % n))
  where
    here : Summing all size (x ∷ rs) (m ∷ ms) ds rest weight sum
    here =
        subst (λ (l : List Row). Summing all size l (m ∷ ms) ds rest weight sum) row
        (subst (λ (l : List Matched). Summing all size left l ds rest weight sum) own so)

    here_joint : joint (x ∷ rs) (m ∷ ms) ds rest ≡ joint rs ms ds (rest / n) * n + r
    here_joint = ap (λ (k : ℕ). joint rs ms ds (rest / k) * k + moved x m ds (rest % k)) (sym count) ∙ ap (λ (k : ℕ). joint rs ms ds (rest / n) * n + k) (sym new)

    digit_below : r < n
    digit_below =
        let b : moved x m ds (rest % states x) < states x = moved_below x m ds (rest % states x) (mod-lt rest (let z : 0 < states x = omega arith in z)) in
        let e : moved x m ds (rest % n) ≡ moved x m ds (rest % states x) = ap (λ (k : ℕ). moved x m ds (rest % k)) count in
        omega arith

    whole_more : weight * n * product rs ≡ size
    whole_more = mul_assoc weight n (product rs) ∙ (ap (λ (k : ℕ). weight * (k * product rs)) count ∙ here.whole)

    pub summed : Summing all size rs ms ds (rest / n) (weight * n) (sum + weight * r)
    summed =
        record {
          value = carry sum weight n r (joint rs ms ds (rest / n)) (joint (x ∷ rs) (m ∷ ms) ds rest) here_joint ∙ here.value;
          whole = whole_more;
          below = carry_below sum weight n r here.below digit_below;
          room = omega (arith, here.room);
        }

    -- how large the parts are
    pub weight_fits : weight * n ≤ size
    weight_fits = omega (arith, whole_more, le-mul_of_pos_right {m = product rs} (weight * n) (product_pos rs))

pub summed_all :
    (all size : ℕ) (rs : List Row) (ms : List Matched) (ds : List ℕ) (rest weight sum : ℕ) → Summing all size rs ms ds rest weight sum →
    (rs ≡ []) ⊎ (ms ≡ []) → (sum ≡ all) × (sum < size)
summed_all all size [] ms ds rest weight sum so none =
    (omega (arith, so.value, mul-zero weight), omega (arith, so.below, so.whole, mul-one weight))
summed_all all size (r ∷ rs) [] ds rest weight sum so none = absurd (let room = so.room in omega arith)
summed_all all size (r ∷ rs) (m ∷ ms) ds rest weight sum so none =
    absurd (⊎_elim (λ e. let l = ap length e in omega arith) (λ e. let l = ap length e in omega arith) none)

-- ## The marks

-- After i rows: the sum, the next row's bit and what is left of the state.
pub record Marking (rows : List Row) (s i rest bit sum : ℕ) : Type 0 where
  pub value : sum + bit * marks_at (drop i rows) rest ≡ marks_at rows s
  pub size : bit ≡ 2 ^ i
  pub below : sum < bit

pub marked :
    (rows : List Row) (s i rest bit sum : ℕ) → Marking rows s i rest bit sum →
    (x : Row) → i < length rows → x ≡ get_or rows i x →
    (n r : ℕ) → n ≡ states x → r ≡ cond (eqb (rest % n) (broken x)) 1 0 → r ≤ 1 →
    Marking rows s (i + 1) (rest / n) (bit * 2) (sum + bit * r)
marked rows s i rest bit sum so x here is n r size new small =
    record {
      value = carry sum bit 2 r (marks_at (drop (i + 1) rows) (rest / n)) (marks_at (drop i rows) rest) here_marks ∙ so.value;
      size = ap (λ (k : ℕ). k * 2) so.size ∙ (sym (pow-suc 2 i) ∙ ap (λ (k : ℕ). 2 ^ k) (let z : suc i ≡ i + 1 = omega arith in z));
      below = carry_below sum bit 2 r so.below (omega arith);
    }
  where
    here_marks : marks_at (drop i rows) rest ≡ marks_at (drop (i + 1) rows) (rest / n) * 2 + r
    here_marks =
        at_drop_more (λ (rs : List Row). marks_at rs rest) rows i x here ∙
        (ap (λ (y : Row). marks_at (y ∷ drop (i + 1) rows) rest) (sym is) ∙
        (ap (λ (k : ℕ). marks_at (drop (i + 1) rows) (rest / k) * 2 + cond (eqb (rest % k) (broken x)) 1 0) (sym size) ∙
        ap (λ (k : ℕ). marks_at (drop (i + 1) rows) (rest / n) * 2 + k) (sym new)))

-- ## What the rows speak of

abbrev said : List Event → List Row → ℕ → Matched
said events rows i = option_map_or (matched_by events) (slice_get rows i) nothing

get_or-matched_all : (events : List Event) (n : ℕ) (rows : List Row) (i : ℕ) → i < n → get_or (matched_all events n rows) i nothing ≡ said events rows i
get_or-matched_all events zero rows i below = absurd (omega arith)
get_or-matched_all events (suc n) [] zero below = refl
get_or-matched_all events (suc n) [] (suc i) below = get_or-matched_all events n [] i (omega arith)
get_or-matched_all events (suc n) (r ∷ rs) zero below = refl
get_or-matched_all events (suc n) (r ∷ rs) (suc i) below = get_or-matched_all events n rs i (omega arith)

pub made_matched :
    {F : Type 0} (g : Mut F (ℕ × Unit {0}) Matched) (f : F) (events : List Event) (rows : List Row) →
    ((i : ℕ) (m : Matched) (q : F) → Called g f (i, tt) m q → (q ≡ f) × (m ≡ said events rows i)) →
    (ms : List Matched) (n : ℕ) → IsFromFnResult g f ms n → ms ≡ matched_all events n rows
made_matched g f events rows calls ms n all =
    made g f (said events rows) nothing calls ms n (matched_all events n rows) (length_matched events n rows)
    (λ i below. get_or-matched_all events n rows i below) all
