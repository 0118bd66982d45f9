-- Reads of changed tables, and what every search keeps.
use Rattle.std.proofs.Common.{◌≡◌, ℕ, ◌+◌, ◌-◌, ◌<◌, ◌≤◌, Bool, true, false, cond, ◌⊎◌, List, length, set, sym, ap, ◌∙◌, inl, inr, ⊎_elim, arith, length-set}
use Rattle.std.proofs.lemmas.List.{get_or-set_same, get_or-set_other}
use Rattle.std.proofs.lemmas.List.Sums.{count_by-le-length, sum_by-set}
use Rattle.std.proofs.lemmas.Bool.{cases_eq, cases_lt, cases_Bool}
use Rattle.watch.specs.Watchers.{Watching, Lawful}
use Rattle.outlook.specs.Outlooks.{at}
use Rattle.outlook.specs.inner.Ways.{Leads}
use Rattle.outlook.specs.inner.Tables.{item}
use Rattle.outlook.specs.inner.Searching.{Memory, trues, on, bound, Held, Gone, Searching}

pub at_same : (table : List Bool) (i : ℕ) (b : Bool) → i < length table → at (set table i b) i ≡ b
at_same table i b lt = get_or-set_same table i b false lt

pub at_other : (table : List Bool) (i k : ℕ) (b : Bool) → (k ≡ i → ⊥) → at (set table i b) k ≡ at table k
at_other table i k b ne = get_or-set_other table i k b false ne

pub item_same : (xs : List ℕ) (i n : ℕ) → i < length xs → item (set xs i n) i ≡ n
item_same xs i n lt = get_or-set_same xs i n 0 lt

pub item_other : (xs : List ℕ) (i k n : ℕ) → (k ≡ i → ⊥) → item (set xs i n) k ≡ item xs k
item_other xs i k n ne = get_or-set_other xs i k n 0 ne

abbrev one : Bool → ℕ
one b = cond b 1 0

pub trues_add : (table : List Bool) (i : ℕ) → i < length table → at table i ≡ false → trues (set table i true) ≡ trues table + 1
trues_add table i lt e = omega (arith, sum_by-set one table i true false lt, ap one e)

-- What is not true is false.
pub out : (b : Bool) → (b ≡ true → ⊥) → b ≡ false
out b no-b = ⊎_elim (λ e. absurd (no-b e)) (λ e. e) (cases_Bool b)

pub for_both : (P : Bool → Type 0) → P true → P false → (v : Bool) → P v
for_both P t f true = t
for_both P t f false = f

module _ (w : Watching) (law : Lawful w) (good : List Bool) (x : Memory) (ok : Searching w good x) where
  -- There is room for a state that was never seen.
  pub room_left : (u : ℕ) → u < w.states → at x.seen u ≡ false → x.depth < 16384
  room_left u within new =
      omega (arith, ok.room, trues_add x.seen u (omega (arith, law.few_states, ok.sized.seen)) new, count_by-le-length (λ b. b) (set x.seen u true), length-set x.seen u true, ok.sized.seen)

  pub groups_le : x.groups ≤ x.depth
  groups_le =
      ⊎_elim (λ some. omega (arith, ok.apart (x.groups - 1) (omega arith), ok.below (x.groups - 1) (omega arith), ok.top)) (λ none. omega arith) (cases_lt 0 x.groups)

  -- Each state stands on the path once.
  pub unique : (i j : ℕ) → i < x.depth → j < x.depth → on x i ≡ on x j → i ≡ j
  unique i j a b e = sym (ok.placed i a) ∙ (ap (item x.place) e ∙ ok.placed j b)

  -- Every state of the path leads to those of the last group.
  pub leads_last : (j k : ℕ) → j < x.depth → k < x.depth → ((i : ℕ) → i < x.groups → bound x i ≤ k) → Leads w (on x j) (on x k)
  leads_last j k a b last = ok.leads j k a b (λ i lt _. last i lt)

  pub leads_here : (t : ℕ) → x.here ≡ t + 1 → (j : ℕ) → j < x.depth → Leads w (on x j) (on x t)
  leads_here t is j lt = leads_last j t lt (omega (arith, ok.top)) (λ i some. omega (arith, ok.below i some))

  -- A state that was seen is gone, or stands on the path.
  pub gone_or_held : (z : ℕ) → at x.seen z ≡ true → Gone x z ⊎ Held x (item x.place z) z
  gone_or_held z seen =
      let k : ℕ = item x.place z in
      let back : (i : ℕ) → Held x i z → i ≡ item x.place z = λ i h. sym (ok.placed i h.0) ∙ ap (item x.place) h.1 in
      ⊎_elim (λ lt. ⊎_elim (λ e. inr (lt, e)) (λ ne. inl (seen, λ i h. ne (ap (on x) (sym (back i h)) ∙ h.1))) (cases_eq (on x k) z)) (λ le. inl (seen, λ i h. omega (arith, le, h.0, back i h))) (cases_lt k x.depth)
