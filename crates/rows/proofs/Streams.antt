-- The row automata over streams: each is never broken exactly when what its row says is true of the streams of tests and counts.
-- Assumes nothing.
use Rattle.std.proofs.Common.{◌≡◌, ℕ, zero, suc, ◌+◌, ◌<◌, ◌≤◌, Bool, true, false, ◌⊎◌, ◌↔◌, Decides, sym, refl, ap, ◌∙◌, subst, inl, inr, arith}
use mathlib.Core.Bool.{false≢true}
use Rattle.std.proofs.lemmas.Bool.Decides.{nat_tests}
use Rattle.std.proofs.lemmas.Bool.{cases_Bool, cases_order, cases_lt, both_ways}
use Rattle.watch.specs.Classical.{Either, Exists}
use Rattle.osl.specs.Osl.{sum}
use Rattle.rows.specs.Moves.{until_move, after_move, within_move, during_move, most_move, answer_move, path, Never}

-- what holds below k and at k holds below suc k
more : (P : ℕ → Type 0) (k : ℕ) → ((v : ℕ) → v < k → P v) → P k → (v : ℕ) → v < suc k → P v
more P k all here v h =
    elim (cases_order v k) [
      | inl e ↦ subst P (sym e) here
      | inr o ↦ elim o [ inl l ↦ all v l | inr g ↦ absurd (omega arith) ]
    ]

none : (P : ℕ → Type 0) (v : ℕ) → v < 0 → P v
none P v h = absurd (omega arith)

-- ## until

until_b : (a b : Bool) (s : ℕ) → s ≡ 0 → b ≡ true → until_move a b s ≡ 1
until_b a b s e f = grind (arith, nat_tests)

until_a : (a b : Bool) (s : ℕ) → s ≡ 0 → b ≡ false → a ≡ true → until_move a b s ≡ 0
until_a a b s e f g = grind (arith, nat_tests)

until_neither : (a b : Bool) (s : ℕ) → s ≡ 0 → b ≡ false → a ≡ false → until_move a b s ≡ 2
until_neither a b s e f g = grind (arith, nat_tests)

until_stays : (a b : Bool) (s : ℕ) → s ≡ 1 → until_move a b s ≡ 1
until_stays a b s e = grind (arith, nat_tests)

module _ (a b : ℕ → Bool) (P Q : ℕ → Type 0) (da : (v : ℕ) → Decides (a v) (P v)) (db : (v : ℕ) → Decides (b v) (Q v)) where
  abbrev until_moves : ℕ → ℕ → ℕ
  until_moves k s = until_move (a k) (b k) s

  -- not broken, and with no step that ends the wait, the automaton waits on, and a holds
  until_waits : Never until_moves 2 → ((u : ℕ) → Q u → ((v : ℕ) → v < u → P v) → ⊥) → (k : ℕ) → (path until_moves k ≡ 0) × ((v : ℕ) → v < k → P v)
  until_waits never endless zero = (refl, none P)
  until_waits never endless (suc k) =
      let ih : (path until_moves k ≡ 0) × ((v : ℕ) → v < k → P v) = until_waits never endless k in
      elim (cases_Bool (b k)) [
        | inl eb ↦ absurd (endless k ((db k).0 eb) ih.1)
        | inr eb ↦
            elim (cases_Bool (a k)) [
              | inl ea ↦ (until_a (a k) (b k) (path until_moves k) ih.0 eb ea, more P k ih.1 ((da k).0 ea))
              | inr ea ↦ absurd (never (suc k) (until_neither (a k) (b k) (path until_moves k) ih.0 eb ea))
            ]
      ]

  -- while G holds, the automaton waits or is done
  until_safe :
      (G : ℕ → Type 0) → G 0 → ((k : ℕ) → G k → b k ≡ false → (a k ≡ true) × G (suc k)) →
      (k : ℕ) → ((path until_moves k ≡ 0) × G k) ⊎ (path until_moves k ≡ 1)
  until_safe G g next zero = inl (refl, g)
  until_safe G g next (suc k) =
      elim (until_safe G g next k) [
        | inr e ↦ inr (until_stays (a k) (b k) (path until_moves k) e)
        | inl w ↦
            elim (cases_Bool (b k)) [
              | inl eb ↦ inr (until_b (a k) (b k) (path until_moves k) w.0 eb)
              | inr eb ↦
                  inl (until_a (a k) (b k) (path until_moves k) w.0 eb (next k w.1 eb).0, (next k w.1 eb).1)
            ]
      ]

  until_unbroken : (G : ℕ → Type 0) → G 0 → ((k : ℕ) → G k → b k ≡ false → (a k ≡ true) × G (suc k)) → Never until_moves 2
  until_unbroken G g next k e =
      elim (until_safe G g next k) [ inl w ↦ let h = w.0 in omega arith | inr h ↦ omega arith ]

  pub until_right :
      Never until_moves 2 ↔
      Either (Exists (λ u. Q u × ((v : ℕ) → v < u → P v))) ((v : ℕ) → P v)
  until_right = (
    λ never no_end no-always.
        no-always (λ v. (until_waits never (λ u q all. no_end (λ none. none u (q, all))) (suc v)).1 v (omega arith)),
    λ holds k e.
        holds
        (λ some.
        some (λ u h.
        until_unbroken (λ k. k ≤ u) (omega arith)
        (λ k le eb.
        elim (cases_order k u) [
          | inl eq ↦ absurd (both_ways (b k) eb ((db k).1 (subst Q (sym eq) h.0)))
          | inr o ↦ elim o [ inl lt ↦ ((da k).1 (h.1 k lt), lt) | inr gt ↦ absurd (omega arith) ]
        ])
        k e))
        (λ all. until_unbroken (λ _. Unit {0}) tt (λ k _ _. ((da k).1 (all k), tt)) k e),
  )

-- ## after

after_counts : (n : ℕ) (a : Bool) (s : ℕ) → s < n → after_move n a s ≡ s + 1
after_counts n a s h = grind (arith, nat_tests)

after_holds : (n : ℕ) (a : Bool) (s : ℕ) → s ≡ n → a ≡ true → after_move n a s ≡ n + 1
after_holds n a s h e = grind (arith, nat_tests)

after_fails : (n : ℕ) (a : Bool) (s : ℕ) → s ≡ n → a ≡ false → after_move n a s ≡ n + 2
after_fails n a s h e = grind (arith, nat_tests)

after_stays : (n : ℕ) (a : Bool) (s : ℕ) → s ≡ n + 1 → after_move n a s ≡ n + 1
after_stays n a s h = grind (arith, nat_tests)

module _ (n : ℕ) (a : ℕ → Bool) (P : ℕ → Type 0) (da : (v : ℕ) → Decides (a v) (P v)) where
  abbrev after_moves : ℕ → ℕ → ℕ
  after_moves k s = after_move n (a k) s

  after_state : (k : ℕ) → k ≤ n → path after_moves k ≡ k
  after_state zero h = refl
  after_state (suc k) h =
      let ih : path after_moves k ≡ k = after_state k (omega arith) in
      let lt : path after_moves k < n = omega arith in
      let e = after_counts n (a k) (path after_moves k) lt in
      omega arith

  after_safe : a n ≡ true → (k : ℕ) → ((path after_moves k ≡ k) × (k ≤ n)) ⊎ (path after_moves k ≡ n + 1)
  after_safe h zero = inl (refl, omega arith)
  after_safe h (suc k) =
      elim (after_safe h k) [
        | inr e ↦ inr (after_stays n (a k) (path after_moves k) e)
        | inl w ↦
            elim (cases_order k n) [
              | inl eq ↦ inr (after_holds n (a k) (path after_moves k) (w.0 ∙ eq) (ap a eq ∙ h))
              | inr o ↦
                  elim o [
                    | inl lt ↦
                        inl (
                          let i : path after_moves k < n = omega (arith, w.0) in
                              let e = after_counts n (a k) (path after_moves k) i in
                              omega (arith, w.0),
                          lt,
                        )
                    | inr gt ↦ absurd (omega (arith, w.1))
                  ]
            ]
      ]

  pub after_right : Never after_moves (n + 2) ↔ P n
  after_right = (
    λ never.
        elim (cases_Bool (a n)) [
          | inl e ↦ (da n).0 e
          | inr e ↦
              absurd
              (never (suc n) (after_fails n (a n) (path after_moves n) (after_state n (omega arith)) e))
        ],
    λ p k e.
        elim (after_safe ((da n).1 p) k)
        [ inl w ↦ omega (arith, w.0, w.1) | inr h ↦ omega arith ],
  )

-- ## within

within_holds : (n : ℕ) (a : Bool) (s : ℕ) → s < n → a ≡ true → within_move n a s ≡ n
within_holds n a s h e = grind (arith, nat_tests)

within_counts : (n : ℕ) (a : Bool) (s : ℕ) → s + 1 < n → a ≡ false → within_move n a s ≡ s + 1
within_counts n a s h e = grind (arith, nat_tests)

within_fails : (n : ℕ) (a : Bool) (s : ℕ) → s + 1 ≡ n → a ≡ false → within_move n a s ≡ n + 1
within_fails n a s h e = grind (arith, nat_tests)

within_stays : (n : ℕ) (a : Bool) (s : ℕ) → s ≡ n → within_move n a s ≡ n
within_stays n a s h = grind (arith, nat_tests)

module _ (n : ℕ) (a : ℕ → Bool) (P : ℕ → Type 0) (da : (v : ℕ) → Decides (a v) (P v)) where
  abbrev within_moves : ℕ → ℕ → ℕ
  within_moves k s = within_move n (a k) s

  false_at : ((j : ℕ) → (j < n) × P j → ⊥) → (k : ℕ) → k < n → a k ≡ false
  false_at nowhere k h = elim (cases_Bool (a k)) [ inl e ↦ absurd (nowhere k (h, (da k).0 e)) | inr e ↦ e ]

  within_state : ((j : ℕ) → (j < n) × P j → ⊥) → (k : ℕ) → k < n → path within_moves k ≡ k
  within_state nowhere zero h = refl
  within_state nowhere (suc k) h =
      let ih : path within_moves k ≡ k = within_state nowhere k (omega arith) in
      let lt : path within_moves k + 1 < n = omega arith in
      let e = within_counts n (a k) (path within_moves k) lt (false_at nowhere k (omega arith)) in
      omega arith

  within_safe : (j : ℕ) → j < n → a j ≡ true → (k : ℕ) → ((path within_moves k ≡ k) × (k ≤ j)) ⊎ (path within_moves k ≡ n)
  within_safe j h t zero = inl (refl, omega arith)
  within_safe j h t (suc k) =
      elim (within_safe j h t k) [
        | inr e ↦ inr (within_stays n (a k) (path within_moves k) e)
        | inl w ↦
            let i : path within_moves k < n = omega (arith, w.0, w.1) in
            elim (cases_Bool (a k)) [
              | inl e ↦ inr (within_holds n (a k) (path within_moves k) i e)
              | inr e ↦
                  elim (cases_order k j) [
                    | inl eq ↦ absurd (both_ways (a k) e (ap a eq ∙ t))
                    | inr o ↦
                        elim o [
                          | inl lt ↦
                              inl (
                                let m : path within_moves k + 1 < n = omega (arith, w.0, w.1) in
                                    let q = within_counts n (a k) (path within_moves k) m e in
                                    omega (arith, w.0),
                                lt,
                              )
                          | inr gt ↦ absurd (omega (arith, w.1))
                        ]
                  ]
            ]
      ]

  pub within_right : 0 < n → Never within_moves (n + 1) ↔ Exists (λ j. (j < n) × P j)
  within_right pos = (
    λ never nowhere. within_breaks n refl never nowhere,
    λ some k e.
        some (λ j h.
        elim (within_safe j h.0 ((da j).1 h.1) k)
        [ inl w ↦ omega (arith, w.0, w.1, h.0) | inr q ↦ omega arith ]),
  )
    where
      within_breaks : (m : ℕ) → n ≡ m → Never within_moves (n + 1) → ((j : ℕ) → (j < n) × P j → ⊥) → ⊥
      within_breaks zero e never nowhere = omega arith
      within_breaks (suc m) e never nowhere =
          let lt : m < n = omega arith in
          let at : path within_moves m ≡ m = within_state nowhere m lt in
          let last : path within_moves m + 1 ≡ n = omega arith in
          never (suc m) (within_fails n (a m) (path within_moves m) last (false_at nowhere m lt))

-- ## during

during_counts : (n : ℕ) (a : Bool) (s : ℕ) → s < n → a ≡ true → during_move n a s ≡ s + 1
during_counts n a s h e = grind (arith, nat_tests)

during_fails : (n : ℕ) (a : Bool) (s : ℕ) → s < n → a ≡ false → during_move n a s ≡ n + 1
during_fails n a s h e = grind (arith, nat_tests)

during_stays : (n : ℕ) (a : Bool) (s : ℕ) → s ≡ n → during_move n a s ≡ n
during_stays n a s h = grind (arith, nat_tests)

module _ (n : ℕ) (a : ℕ → Bool) (P : ℕ → Type 0) (da : (v : ℕ) → Decides (a v) (P v)) where
  abbrev during_moves : ℕ → ℕ → ℕ
  during_moves k s = during_move n (a k) s

  during_state : Never during_moves (n + 1) → (k : ℕ) → k ≤ n → (path during_moves k ≡ k) × ((v : ℕ) → v < k → P v)
  during_state never zero h = (refl, none P)
  during_state never (suc k) h =
      let ih : (path during_moves k ≡ k) × ((v : ℕ) → v < k → P v) = during_state never k (omega arith) in
      let lt : path during_moves k < n = omega (arith, ih.0) in
      elim (cases_Bool (a k)) [
        | inl e ↦ (
          let q = during_counts n (a k) (path during_moves k) lt e in omega (arith, ih.0),
          more P k ih.1 ((da k).0 e),
        )
        | inr e ↦ absurd (never (suc k) (during_fails n (a k) (path during_moves k) lt e))
      ]

  during_safe : ((v : ℕ) → v < n → P v) → (k : ℕ) → ((path during_moves k ≡ k) × (k ≤ n)) ⊎ (path during_moves k ≡ n)
  during_safe all zero = inl (refl, omega arith)
  during_safe all (suc k) =
      elim (during_safe all k) [
        | inr e ↦ inr (during_stays n (a k) (path during_moves k) e)
        | inl w ↦
            elim (cases_lt k n) [
              | inl lt ↦
                  inl (
                    let i : path during_moves k < n = omega (arith, w.0) in
                        let q = during_counts n (a k) (path during_moves k) i ((da k).1 (all k lt)) in
                        omega (arith, w.0),
                    lt,
                  )
              | inr ge ↦ inr (during_stays n (a k) (path during_moves k) (omega (arith, w.0, w.1)))
            ]
      ]

  pub during_right : Never during_moves (n + 1) ↔ ((v : ℕ) → v < n → P v)
  during_right = (
    λ never v h. (during_state never n (omega arith)).1 v h,
    λ all k e.
        elim (during_safe all k) [ inl w ↦ omega (arith, w.0, w.1) | inr q ↦ omega arith ],
  )

-- ## at most l, until b

most_over : (l c : ℕ) (b : Bool) (s : ℕ) → s ≤ l → l < s + c → most_move l c b s ≡ l + 2
most_over l c b s h e = grind (arith, nat_tests)

most_done : (l c : ℕ) (b : Bool) (s : ℕ) → s + c ≤ l → b ≡ true → most_move l c b s ≡ l + 1
most_done l c b s h e = let g : s ≤ l = omega arith in grind (arith, nat_tests)

most_adds : (l c : ℕ) (b : Bool) (s : ℕ) → s + c ≤ l → b ≡ false → most_move l c b s ≡ s + c
most_adds l c b s h e = let g : s ≤ l = omega arith in grind (arith, nat_tests)

most_stays : (l c : ℕ) (b : Bool) (s : ℕ) → s ≡ l + 1 → most_move l c b s ≡ l + 1
most_stays l c b s h = grind (arith, nat_tests)

sum_mono : (c : ℕ → ℕ) (k j : ℕ) → k ≤ j → sum c k ≤ sum c j
sum_mono c k zero h = let e : k ≡ 0 = omega arith in subst (λ i. sum c i ≤ 0) (sym e) (omega arith)
sum_mono c k (suc j) h =
    elim (cases_order k (suc j)) [
      | inl e ↦ subst (λ i. sum c k ≤ sum c i) e (omega arith)
      | inr o ↦ elim o [ inl lt ↦ omega (arith, sum_mono c k j (omega arith)) | inr gt ↦ absurd (omega arith) ]
    ]

module _ (l : ℕ) (c : ℕ → ℕ) (b : ℕ → Bool) (Q : ℕ → Type 0) (db : (v : ℕ) → Decides (b v) (Q v)) where
  abbrev most_moves : ℕ → ℕ → ℕ
  most_moves k s = most_move l (c k) (b k) s

  -- not broken, and with no step that ends the count within l, the state is the sum
  most_counts :
      Never most_moves (l + 2) →
      ((u : ℕ) → Q u → ((v : ℕ) → v < u → Q v → ⊥) → sum c (suc u) ≤ l → ⊥) →
      (k : ℕ) → (path most_moves k ≡ sum c k) × (sum c k ≤ l) × ((v : ℕ) → v < k → Q v → ⊥)
  most_counts never endless zero = (refl, omega arith, none (λ v. Q v → ⊥))
  most_counts never endless (suc k) =
      let ih : (path most_moves k ≡ sum c k) × (sum c k ≤ l) × ((v : ℕ) → v < k → Q v → ⊥) = most_counts never endless k in
      let e : path most_moves k ≡ sum c k = ih.0 in
      elim (cases_lt l (sum c k + c k)) [
        | inl over ↦
            absurd (never (suc k) (most_over l (c k) (b k) (path most_moves k) (omega (arith, ih.1)) (omega arith)))
        | inr within ↦
            elim (cases_Bool (b k)) [
              | inl eb ↦ absurd (endless k ((db k).0 eb) ih.2 within)
              | inr eb ↦ (
                let q = most_adds l (c k) (b k) (path most_moves k) (omega arith) eb in omega arith,
                within,
                more (λ v. Q v → ⊥) k ih.2 (λ q. both_ways (b k) eb ((db k).1 q)),
              )
            ]
      ]

  most_safe :
      (G : ℕ → Type 0) → G 0 → ((k : ℕ) → G k → (sum c (suc k) ≤ l) × (b k ≡ false → G (suc k))) →
      (k : ℕ) → ((path most_moves k ≡ sum c k) × G k) ⊎ (path most_moves k ≡ l + 1)
  most_safe G g next zero = inl (refl, g)
  most_safe G g next (suc k) =
      elim (most_safe G g next k) [
        | inr e ↦ inr (most_stays l (c k) (b k) (path most_moves k) e)
        | inl w ↦
            let e : path most_moves k ≡ sum c k = w.0 in
            let fits : path most_moves k + c k ≤ l = omega (arith, (next k w.1).0) in
            elim (cases_Bool (b k)) [
              | inl eb ↦ inr (most_done l (c k) (b k) (path most_moves k) fits eb)
              | inr eb ↦
                  inl (
                    let q = most_adds l (c k) (b k) (path most_moves k) fits eb in omega arith,
                    (next k w.1).1 eb,
                  )
            ]
      ]

  most_unbroken :
      (G : ℕ → Type 0) → G 0 → ((k : ℕ) → G k → (sum c (suc k) ≤ l) × (b k ≡ false → G (suc k))) → Never most_moves (l + 2)
  most_unbroken G g next k e =
      elim (most_safe G g next k)
      [ inl w ↦ omega (arith, w.0, (next k w.1).0) | inr h ↦ omega arith ]

  pub most_right :
      Never most_moves (l + 2) ↔
      Either
      (Exists (λ u. Q u × ((v : ℕ) → v < u → Q v → ⊥) × (sum c (suc u) ≤ l)))
      ((u : ℕ) → sum c (suc u) ≤ l)
  most_right = (
    λ never no_end no-always.
        no-always (λ u. (most_counts never (λ w q before fits. no_end (λ some. some w (q, before, fits))) (suc u)).1),
    λ holds k e.
        holds
        (λ some.
        some (λ u h.
        most_unbroken (λ k. k ≤ u) (omega arith)
        (λ k le. (
          omega (arith, sum_mono c (suc k) (suc u) (omega arith), h.2),
          λ eb.
              elim (cases_order k u) [
                | inl eq ↦ absurd (both_ways (b k) eb ((db k).1 (subst Q (sym eq) h.0)))
                | inr o ↦ elim o [ inl lt ↦ lt | inr gt ↦ absurd (omega arith) ]
              ],
        ))
        k e))
        (λ all. most_unbroken (λ _. Unit {0}) tt (λ k _. (all k, λ _. tt)) k e),
  )

-- ## answer

answer_b : (n : ℕ) (a b : Bool) (s : ℕ) → s < n → b ≡ true → answer_move n a b s ≡ 0
answer_b n a b s h e = grind (arith, nat_tests)

answer_a : (n : ℕ) (a b : Bool) (s : ℕ) → s < n → b ≡ false → a ≡ true → answer_move n a b s ≡ s + 1
answer_a n a b s h e f = grind (arith, nat_tests)

answer_counts : (n : ℕ) (a b : Bool) (s : ℕ) → 0 < s → s < n → b ≡ false → answer_move n a b s ≡ s + 1
answer_counts n a b s p h e = elim (cases_Bool a) [ inl f ↦ grind (arith, nat_tests) | inr f ↦ grind (arith, nat_tests) ]

answer_rests : (n : ℕ) (a b : Bool) (s : ℕ) → s ≡ 0 → 0 < n → b ≡ false → a ≡ false → answer_move n a b s ≡ 0
answer_rests n a b s h p e f = grind (arith, nat_tests)

module _
    (n : ℕ) (a b : ℕ → Bool) (P Q : ℕ → Type 0) (da : (v : ℕ) → Decides (a v) (P v)) (db : (v : ℕ) → Decides (b v) (Q v))
  where
    abbrev answer_moves : ℕ → ℕ → ℕ
    answer_moves k s = answer_move n (a k) (b k) s

    -- an automaton that is not broken is below n
    answer_below : 0 < n → Never answer_moves n → (k : ℕ) → path answer_moves k < n
    answer_below pos never zero = pos
    answer_below pos never (suc k) =
        let ih : path answer_moves k < n = answer_below pos never k in
        let no : path answer_moves (suc k) ≡ n → ⊥ = never (suc k) in
        elim (cases_Bool (b k)) [
          | inl eb ↦ let e = answer_b n (a k) (b k) (path answer_moves k) ih eb in omega arith
          | inr eb ↦
              elim (cases_Bool (a k)) [
                | inl ea ↦ let e = answer_a n (a k) (b k) (path answer_moves k) ih eb ea in omega arith
                | inr ea ↦
                    elim (cases_lt 0 (path answer_moves k)) [
                      | inl p ↦ let e = answer_counts n (a k) (b k) (path answer_moves k) p ih eb in omega arith
                      | inr z ↦ let e = answer_rests n (a k) (b k) (path answer_moves k) (omega arith) pos eb ea in omega arith
                    ]
              ]
        ]

    -- from a step with a on, while b does not hold, the state counts
    answer_waits :
        0 < n → Never answer_moves n → (v : ℕ) → a v ≡ true → ((j : ℕ) → j < n → b (v + j) ≡ false) →
        (j : ℕ) → j ≤ n → j ≤ path answer_moves (v + j)
    answer_waits pos never v ea unanswered zero h = omega arith
    answer_waits pos never v ea unanswered (suc zero) h =
        let at : v + 0 ≡ v = omega arith in
        let past : suc v ≡ v + 1 = omega arith in
        let eb : b v ≡ false = subst (λ i. b i ≡ false) at (unanswered 0 (omega arith)) in
        let e = answer_a n (a v) (b v) (path answer_moves v) (answer_below pos never v) eb ea in
        let r : 1 ≤ path answer_moves (suc v) = omega arith in
        subst (λ i. 1 ≤ path answer_moves i) past r
    answer_waits pos never v ea unanswered (suc (suc j)) h =
        let ih : suc j ≤ path answer_moves (v + suc j) = answer_waits pos never v ea unanswered (suc j) (omega arith) in
        let past : suc (v + suc j) ≡ v + suc (suc j) = omega arith in
        let e =
        answer_counts n (a (v + suc j)) (b (v + suc j)) (path answer_moves (v + suc j)) (omega arith)
        (answer_below pos never (v + suc j)) (unanswered (suc j) (omega arith))
        in
        let r : suc (suc j) ≤ path answer_moves (suc (v + suc j)) = omega arith in
        subst (λ i. suc (suc j) ≤ path answer_moves i) past r

    -- the oldest unanswered a: s steps ago at step k, and b never since
    Open : ℕ → ℕ → Type 0
    Open k s = (v : ℕ) × (v + s ≡ k) × (a v ≡ true) × ((j : ℕ) → j < s → b (v + j) ≡ false)

    -- one more step without b
    open_more : (k s : ℕ) → Open k s → b k ≡ false → Open (suc k) (suc s)
    unfolding Open
    open_more k s o eb =
        let at : v + s ≡ k = o.1 in
        let next : v + suc s ≡ suc k = omega (arith, at) in
        (v, next, o.2, more (λ j. b (v + j) ≡ false) s o.3 (ap b at ∙ eb))
      where
        v : ℕ
        v = o.0

    -- a step with a opens
    opened : (k : ℕ) → a k ≡ true → Open k 0
    unfolding Open
    opened k ea = (k, omega arith, ea, none (λ j. b (k + j) ≡ false))

    -- if every a is answered in time, none is unanswered for n steps
    open_below : ((v : ℕ) → P v → Exists (λ j. (j < n) × Q (v + j))) → (k s : ℕ) → Open k s → s ≡ n → ⊥
    unfolding Open
    open_below answered k s o e =
        answered o.0 ((da o.0).0 o.2) (λ j h.
        both_ways (b (o.0 + j)) (o.3 j (omega (arith, h.0))) ((db (o.0 + j)).1 h.1))

    answer_grown :
        ((v : ℕ) → P v → Exists (λ j. (j < n) × Q (v + j))) →
        (k s : ℕ) → s < n → answer_moves k s ≡ s + 1 → Open (suc k) (suc s) →
        (answer_moves k s < n) × ((answer_moves k s ≡ 0) ⊎ Open (suc k) (answer_moves k s))
    answer_grown answered k s h e o =
        let up : suc s ≡ answer_moves k s = omega arith in (
          omega (arith, open_below answered (suc k) (suc s) o),
          inr (subst (Open (suc k)) up o),
        )

    -- if every a is answered in time, the automaton stays below n, and a counting state has its unanswered a
    answer_safe :
        0 < n → ((v : ℕ) → P v → Exists (λ j. (j < n) × Q (v + j))) →
        (k : ℕ) → (path answer_moves k < n) × ((path answer_moves k ≡ 0) ⊎ Open k (path answer_moves k))
    answer_safe pos answered zero = (pos, inl refl)
    answer_safe pos answered (suc k) =
        let s : ℕ = path answer_moves k in
        let ih : (path answer_moves k < n) × ((path answer_moves k ≡ 0) ⊎ Open k (path answer_moves k)) = answer_safe pos answered k in
        elim (cases_Bool (b k)) [
          | inl eb ↦ let e = answer_b n (a k) (b k) s ih.0 eb in (omega arith, inl e)
          | inr eb ↦
              elim (cases_Bool (a k)) [
                | inl ea ↦
                    answer_grown answered k s ih.0 (answer_a n (a k) (b k) s ih.0 eb ea)
                    (open_more k s (elim ih.1 [ inl z ↦ subst (Open k) (sym z) (opened k ea) | inr o ↦ o ]) eb)
                | inr ea ↦
                    elim (cases_lt 0 s) [
                      | inl p ↦
                          answer_grown answered k s ih.0 (answer_counts n (a k) (b k) s p ih.0 eb)
                          (open_more k s (elim ih.1 [ inl z ↦ absurd (omega arith) | inr o ↦ o ]) eb)
                      | inr z ↦
                          let e = answer_rests n (a k) (b k) s (omega arith) pos eb ea in
                          (omega arith, inl e)
                    ]
              ]
        ]

    pub answer_right : 0 < n → Never answer_moves n ↔ ((v : ℕ) → P v → Exists (λ j. (j < n) × Q (v + j)))
    answer_right pos = (
      λ never v p nowhere.
          let unanswered : (j : ℕ) → j < n → b (v + j) ≡ false =
          λ j h. elim (cases_Bool (b (v + j))) [ inl e ↦ absurd (nowhere j (h, (db (v + j)).0 e)) | inr e ↦ e ]
          in
          let late : n ≤ path answer_moves (v + n) = answer_waits pos never v ((da v).1 p) unanswered n (omega arith) in
          omega (arith, answer_below pos never (v + n)),
      λ answered k e. omega (arith, (answer_safe pos answered k).0),
    )

-- ## always, and at most l for ever: no b

use_false : (v : ℕ) → Decides false ⊥
use_false v = (λ e. absurd (false≢true e), λ h. absurd h)

pub always_right :
    (a : ℕ → Bool) (P : ℕ → Type 0) → ((v : ℕ) → Decides (a v) (P v)) →
    Never (λ k s. until_move (a k) false s) 2 ↔ ((v : ℕ) → P v)
always_right a P da =
    let r = until_right a (λ _. false) P (λ _. ⊥) da use_false in (
      λ never v.
          elim (cases_Bool (a v)) [
            | inl e ↦ (da v).0 e
            | inr e ↦
                absurd
                (r.0 never (λ some. some (λ u h. h.0)) (λ all. both_ways (a v) e ((da v).1 (all v))))
          ],
      λ all. r.1 (λ _ other. other all),
    )

pub repmax_right :
    (l : ℕ) (c : ℕ → ℕ) → Never (λ k s. most_move l (c k) false s) (l + 2) ↔ ((u : ℕ) → sum c (suc u) ≤ l)
repmax_right l c =
    let r = most_right l c (λ _. false) (λ _. ⊥) use_false in (
      λ never u.
          elim (cases_lt l (sum c (suc u))) [
            | inl over ↦ absurd (r.0 never (λ some. some (λ w h. h.0)) (λ all. omega (arith, all u)))
            | inr fits ↦ fits
          ],
      λ all. r.1 (λ _ other. other all),
    )
