-- The states of a group are dismissed, one by one.
use Rattle.std.proofs.Common.{◌≡◌, ℕ, ◌+◌, ◌<◌, List, length, set, refl, sym, ap, ◌∙◌, inl, inr, ⊎_elim, arith, length-set}
use Rattle.std.proofs.Math.Seq.{map-set_same}
use Rattle.std.proofs.lemmas.List.{get_or-set_same, get_or-set_other}
use Rattle.std.proofs.lemmas.Bool.{cases_eq}
use Rattle.outlook.specs.inner.Tables.{state_at}
use Rattle.outlook.specs.inner.Changes.{free, seat_at, Dismissed}
use Rattle.outlook.specs.declared.search.Standing.TheVariants.{Gone}
use Rattle.outlook.specs.declared.search.Seat.{Seat}
use Rattle.outlook.specs.declared.search.Stop.{Stop}

pub seat_same : (seats : List Seat) (s : ℕ) (v : Seat) → s < length seats → seat_at (set seats s v) s ≡ v
seat_same seats s v lt = get_or-set_same seats s v free lt

pub seat_other : (seats : List Seat) (s z : ℕ) (v : Seat) → (z ≡ s → ⊥) → seat_at (set seats s v) z ≡ seat_at seats z
seat_other seats s z v ne = get_or-set_other seats s z v free ne

module _ (group : List Stop) (before : List Seat) where
  module _ (i : ℕ) (seats : List Seat) (fits : state_at group i < length seats) (x : Dismissed group i before seats) where
    abbrev s : ℕ
    s = state_at group i

    abbrev v : Seat
    v = record { standing = Gone; cursor = (seat_at seats s).cursor }

    gone_here : (z : ℕ) → z ≡ s → (seat_at (set seats s v) z).standing ≡ Gone
    gone_here z is = ap (λ (n : ℕ). (seat_at (set seats s v) n).standing) is ∙ ap (λ (y : Seat). y.standing) (seat_same seats s v fits)

    away : (z : ℕ) → (z ≡ s → ⊥) → (seat_at (set seats s v) z).standing ≡ (seat_at seats z).standing
    away z ne = ap (λ (y : Seat). y.standing) (seat_other seats s z v ne)

    pub dismissed_more : Dismissed group (i + 1) before (set seats (state_at group i) (record { standing = Gone; cursor = (seat_at seats (state_at group i)).cursor }))
    dismissed_more = record {
      long = length-set seats s v ∙ x.long;
      cursors = map-set_same (λ (s : Seat). s.cursor) seats s v free refl ∙ x.cursors;
      gone = λ z h. ⊎_elim (λ is. gone_here z is) (λ ne. away z ne ∙ ⊎_elim (λ this. absurd (ne (sym h.2 ∙ ap (state_at group) this))) (λ old. x.gone z (h.0, omega (arith, h.1, old), h.2)) (cases_eq h.0 i)) (cases_eq z s);
      others = λ z. ⊎_elim (λ is. inl (i, omega arith, sym is)) (λ ne. ⊎_elim (λ h. inl (h.0, omega (arith, h.1), h.2)) (λ same. inr (away z ne ∙ same)) (x.others z)) (cases_eq z s);
    }
