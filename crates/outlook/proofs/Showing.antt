-- What a search remembers after each change of its memory.
use Rattle.std.proofs.Common.{◌≡◌, ℕ, zero, suc, replicate, ◌+◌, ◌-◌, ◌<◌, ◌≤◌, Bool, true, false, cond, ◌*◌, sum_by, ◌||◌, ◌⊎◌, List, [], ◌∷◌, ◌++◌, length, set, map, drop, get_or, Option, Some, None, refl, sym, ap, ◌∙◌, subst, inl, inr, ⊎_elim, arith, length-append, length-drop}
use Rattle.std.proofs.Math.Seq.{map-set_same, get_or-append_seam}
use Rattle.std.proofs.Math.ListN.{get_or-map, length-replicate}
use Rattle.std.proofs.lemmas.List.{map-set, length-map, get_or_append_left, get_or-take, get_or-drop, length-take-le, get_or-replicate, get_or_past}
use Rattle.std.proofs.lemmas.Option.{same_Some, none-some}
use Rattle.std.proofs.lemmas.Bool.{cases_eq, cases_lt, both_ways}
use Rattle.watch.specs.Letters.{letter_count}
use Rattle.watch.specs.Watchers.{Watching}
use Rattle.outlook.specs.Outlooks.{at}
use Rattle.outlook.specs.inner.Tables.{item, no_stop, stop_at, state_at, In, Shared}
use Rattle.outlook.specs.inner.Changes.{free, seat_at, stop, standing, cursor, after_letter, after_push, after_learning, after_note, after_absorb, Joined, Left, parent}
use Rattle.outlook.specs.inner.Searching.{Memory, on, Held, Sized, Searching, Handed, Onward, pushed, advanced, learned, noted, absorbed, stood, left}
use Rattle.outlook.specs.inner.Searching.{Gone as IsGone}
use Rattle.outlook.specs.inner.Showing.{upto, cursors, Shows, todo, Stepped}
use Rattle.outlook.specs.declared.state.State.{State}
use Rattle.outlook.specs.declared.search.Standing.{Standing}
use Rattle.outlook.specs.declared.search.Standing.TheVariants.{New, At, Gone}
use Rattle.outlook.specs.declared.search.Seat.{Seat}
use Rattle.outlook.specs.declared.search.Stop.{Stop}
use Rattle.outlook.specs.declared.search.Search.{Search}
use Rattle.outlook.proofs.Basics.{at_same, at_other, item_same, item_other}
use Rattle.outlook.proofs.Sharing.{still}
use Rattle.outlook.proofs.Beginning.{blank}
use Rattle.outlook.proofs.Dismissing.{seat_same, seat_other}

abbrev tag : Standing → ℕ
tag New = 0
tag (At k) = 1
tag Gone = 2

abbrev place_of : Standing → ℕ
place_of New = 0
place_of (At k) = k
place_of Gone = 0

pub new_at : (k : ℕ) → New ≡ At k → ⊥
new_at k e = let no : 0 ≡ 1 = ap tag e in omega (arith, no)

pub new_gone : New ≡ Gone → ⊥
new_gone e = let no : 0 ≡ 2 = ap tag e in omega (arith, no)

pub at_gone : (k : ℕ) → At k ≡ Gone → ⊥
at_gone k e = let no : 1 ≡ 2 = ap tag e in omega (arith, no)

map_replicate : {X Y : Type 0} (f : X → Y) (n : ℕ) (a : X) → map f (replicate n a) ≡ replicate n (f a)
map_replicate f zero a = refl
map_replicate f (suc n) a = ap (λ ys. f a ∷ ys) (map_replicate f n a)

-- Nothing was put into this memory.
abbrev pub unused : Memory
unused = record {
  keepable = replicate 16384 false;
  breakable = replicate 16384 false;
  seen = replicate 16384 false;
  cursor = replicate 16384 0;
  path = replicate 16384 0;
  place = replicate 16384 0;
  resume = replicate 16384 0;
  bounds = replicate 16384 0;
  depth = 0;
  groups = 0;
  here = 0;
}

-- A write that leaves the standing of one state leaves that of all.
pub same_standing : (seats : List Seat) (s z : ℕ) (v : Seat) → v.standing ≡ (seat_at seats s).standing → (seat_at (set seats s v) z).standing ≡ (seat_at seats z).standing
same_standing seats s z v e =
    let f : Seat → Standing = λ y. y.standing in
    sym (get_or-map f (set seats s v) z free) ∙ (ap (λ (ys : List Standing). get_or ys z New) (map-set_same f seats s v free e) ∙ get_or-map f seats z free)

module _ (x : Search) (m : Memory) (sh : Shows x m) where
  pub cursor_is : (s : ℕ) → item m.cursor s ≡ cursor x s
  cursor_is s = ap (λ (c : List ℕ). item c s) sh.cursor ∙ get_or-map (λ (y : Seat). y.cursor) x.seats s free

  -- A state that is not new was seen.
  pub was_seen : (z : ℕ) → (standing x z ≡ New → ⊥) → at m.seen z ≡ true
  was_seen z old = by_case (standing x z) refl
    where
      by_case : (t : Standing) → standing x z ≡ t → at m.seen z ≡ true
      by_case New e = absurd (old e)
      by_case (At k) e = (sh.held z k e).1
      by_case Gone e = (sh.gone z e).0

  pub not_new : (z : ℕ) → at m.seen z ≡ true → standing x z ≡ New → ⊥
  not_new z seen e = both_ways _ (sh.new z e) seen

  pub letter_shows : (s : ℕ) → Shows (after_letter x s) (advanced m s)
  letter_shows s = record {
    keepable = sh.keepable;
    breakable = sh.breakable;
    cursor = ap (λ (k : ℕ). set m.cursor s (k + 1)) (cursor_is s) ∙ (ap (λ (c : List ℕ). set c s (cursor x s + 1)) sh.cursor ∙ sym (map-set (λ (y : Seat). y.cursor) x.seats s (record { standing = standing x s; cursor = cursor x s + 1 })));
    here = sh.here;
    depth = sh.depth;
    state = sh.state;
    from = sh.from;
    groups = sh.groups;
    bounds = sh.bounds;
    new = λ z e. sh.new z (sym (stays z) ∙ e);
    held = λ z k e. sh.held z k (sym (stays z) ∙ e);
    gone = λ z e. sh.gone z (sym (stays z) ∙ e);
  }
    where
      stays : (z : ℕ) → standing (after_letter x s) z ≡ standing x z
      stays z = same_standing x.seats s z (record { standing = standing x s; cursor = cursor x s + 1 }) refl

  learn_shows : (k b k' b' : List Bool) → k' ≡ k → b' ≡ b → Shows (after_learning x k b) (learned m k' b')
  learn_shows k b k' b' ek eb = record {
    keepable = ek;
    breakable = eb;
    cursor = sh.cursor;
    here = sh.here;
    depth = sh.depth;
    state = sh.state;
    from = sh.from;
    groups = sh.groups;
    bounds = sh.bounds;
    new = sh.new;
    held = sh.held;
    gone = sh.gone;
  }

  pub note_shows : (s : ℕ) (good : Bool) → Shows (after_note x s good) (noted m s good)
  note_shows s good =
      learn_shows _ _ _ _ (ap (λ (t : List Bool). cond good (set t s true) t) sh.keepable) (ap (λ (t : List Bool). cond good t (set t s true)) sh.breakable)

  pub absorb_shows : (s u : ℕ) → Shows (after_absorb x s u) (absorbed m s u)
  absorb_shows s u =
      learn_shows _ _ _ _ (ap (λ (t : List Bool). set t s (at t s || at t u)) sh.keepable) (ap (λ (t : List Bool). set t s (at t s || at t u)) sh.breakable)

  pub join_shows : (place : ℕ) (y : Search) → Joined x place y → Shows y (stood m m.depth (length y.bounds.items) m.here)
  join_shows place y j = subst (λ (z : Search). Shows z (stood m m.depth (length y.bounds.items) m.here)) (sym j.same) (record {
    keepable = sh.keepable;
    breakable = sh.breakable;
    cursor = sh.cursor;
    here = sh.here;
    depth = sh.depth;
    state = sh.state;
    from = sh.from;
    groups = refl;
    bounds = λ i lt. sh.bounds i (omega (arith, lt, j.fewer, sh.groups)) ∙ (sym (get_or-take (length y.bounds.items) x.bounds.items i 0 lt) ∙ ap (λ (ys : List ℕ). item ys i) (sym j.kept));
    new = sh.new;
    held = sh.held;
    gone = sh.gone;
  })

  pub back_shows : (t : ℕ) → t < m.depth → Shows (record { keepable = x.keepable; breakable = x.breakable; seats = x.seats; path = x.path; bounds = x.bounds; here = (stop x t).from }) (stood m m.depth m.groups (item m.resume t))
  back_shows t lt = record {
    keepable = sh.keepable;
    breakable = sh.breakable;
    cursor = sh.cursor;
    here = sh.from t lt;
    depth = sh.depth;
    state = sh.state;
    from = sh.from;
    groups = sh.groups;
    bounds = sh.bounds;
    new = sh.new;
    held = sh.held;
    gone = sh.gone;
  }

  module _ (sized : Sized m) (u : State) (new : at m.seen u.number ≡ false) (space : m.depth < 16384) (few : m.groups < 16384) where
    abbrev d : ℕ
    d = length x.path.items

    abbrev v : Seat
    v = record { standing = At (length x.path.items); cursor = cursor x u.number }

    abbrev n : Memory
    n = pushed m u.number

    in_seats : u.number < length x.seats
    in_seats = omega (arith, u.within, sized.cursor, ap (λ (c : List ℕ). length c) sh.cursor, length-map x.seats (λ (y : Seat). y.cursor))

    here_is : (z : ℕ) → z ≡ u.number → standing (after_push x u) z ≡ At (length x.path.items)
    here_is z is = ap (standing (after_push x u)) is ∙ ap (λ (y : Seat). y.standing) (seat_same x.seats u.number v in_seats)

    away : (z : ℕ) → (z ≡ u.number → ⊥) → standing (after_push x u) z ≡ standing x z
    away z ne = ap (λ (y : Seat). y.standing) (seat_other x.seats u.number z v ne)

    stop_old : (j : ℕ) → j < m.depth → stop (after_push x u) j ≡ stop x j
    stop_old j lt = get_or_append_left x.path.items (record { state = u; from = x.here } ∷ []) no_stop j (omega (arith, lt, sh.depth))

    stop_new : (j : ℕ) → j ≡ m.depth → stop (after_push x u) j ≡ record { state = u; from = x.here }
    stop_new j e = ap (stop (after_push x u)) (e ∙ sh.depth) ∙ get_or-append_seam x.path.items (record { state = u; from = x.here }) [] no_stop

    path_old : (j : ℕ) → j < m.depth → on n j ≡ on m j
    path_old j lt = item_other m.path m.depth j u.number (λ e. omega (arith, e, lt))

    path_new : (j : ℕ) → j ≡ m.depth → on n j ≡ u.number
    path_new j e = ap (on n) e ∙ item_same m.path m.depth u.number (omega (arith, space, sized.path))

    held_on : (k z : ℕ) → Held m k z → Held n k z
    held_on k z h = (omega (arith, h.0), path_old k h.0 ∙ h.1)

    seen_on : (z : ℕ) → at m.seen z ≡ true → at n.seen z ≡ true
    seen_on z e = still m.seen u.number z (omega (arith, u.within, sized.seen)) e

    gone_on : (z : ℕ) → (z ≡ u.number → ⊥) → IsGone m z → IsGone n z
    gone_on z ne g = (seen_on z g.0, λ k h. ⊎_elim (λ old. g.1 k (old, sym (path_old k old) ∙ h.1)) (λ le. ne (sym h.1 ∙ path_new k (omega (arith, le, h.0)))) (cases_lt k m.depth))

    pub push_shows : Shows (after_push x u) (pushed m u.number)
    push_shows = record {
      keepable = sh.keepable;
      breakable = sh.breakable;
      cursor = sh.cursor ∙ sym (map-set_same (λ (y : Seat). y.cursor) x.seats u.number v free refl);
      here = ap (λ (k : ℕ). k + 1) sh.depth;
      depth = omega (arith, sh.depth, length-append x.path.items (record { state = u; from = x.here } ∷ []));
      state = λ j lt. ⊎_elim (λ old. path_old j old ∙ (sh.state j old ∙ ap (λ (y : Stop). y.state.number) (sym (stop_old j old)))) (λ le. let e : j ≡ m.depth = omega (arith, lt, le) in path_new j e ∙ ap (λ (y : Stop). y.state.number) (sym (stop_new j e))) (cases_lt j m.depth);
      from = λ j lt. ⊎_elim (λ old. item_other m.resume m.depth j m.here (λ e. omega (arith, e, old)) ∙ (sh.from j old ∙ ap (λ (y : Stop). upto y.from) (sym (stop_old j old)))) (λ le. let e : j ≡ m.depth = omega (arith, lt, le) in ap (item n.resume) e ∙ (item_same m.resume m.depth m.here (omega (arith, space, sized.resume)) ∙ (sh.here ∙ ap (λ (y : Stop). upto y.from) (sym (stop_new j e))))) (cases_lt j m.depth);
      groups = omega (arith, sh.groups, length-append x.bounds.items (length x.path.items ∷ []));
      bounds = λ i lt. ⊎_elim (λ old. item_other m.bounds m.groups i m.depth (λ e. omega (arith, e, old)) ∙ (sh.bounds i old ∙ sym (get_or_append_left x.bounds.items (length x.path.items ∷ []) 0 i (omega (arith, old, sh.groups))))) (λ le. let e : i ≡ m.groups = omega (arith, lt, le) in ap (item n.bounds) e ∙ (item_same m.bounds m.groups m.depth (omega (arith, few, sized.bounds)) ∙ (sh.depth ∙ (sym (get_or-append_seam x.bounds.items (length x.path.items) [] 0) ∙ ap (item (x.bounds.items ++ length x.path.items ∷ [])) (sym (e ∙ sh.groups)))))) (cases_lt i m.groups);
      new = λ z e. ⊎_elim (λ is. absurd (new_at _ (sym e ∙ here_is z is))) (λ ne. at_other m.seen u.number z true ne ∙ sh.new z (sym (away z ne) ∙ e)) (cases_eq z u.number);
      held = λ z k e. ⊎_elim (λ is. let same : k ≡ m.depth = ap place_of (sym e ∙ here_is z is) ∙ sym sh.depth in ((omega (arith, same), path_new k same ∙ sym is), ap (at n.seen) is ∙ at_same m.seen u.number true (omega (arith, u.within, sized.seen)))) (λ ne. let h = sh.held z k (sym (away z ne) ∙ e) in (held_on k z h.0, seen_on z h.1)) (cases_eq z u.number);
      gone = λ z e. ⊎_elim (λ is. absurd (at_gone _ (sym (here_is z is) ∙ e))) (λ ne. gone_on z ne (sh.gone z (sym (away z ne) ∙ e))) (cases_eq z u.number);
    }

-- A search with nothing on its path.
pub begin_shows : (x : Search) → x.keepable ≡ replicate 16384 false → x.breakable ≡ replicate 16384 false → x.seats ≡ replicate 16384 free → x.path.items ≡ [] → x.bounds.items ≡ [] → x.here ≡ None → Shows x unused
begin_shows x k b s p g h = record {
  keepable = sym k;
  breakable = sym b;
  cursor = sym (ap (λ (ys : List Seat). map (λ (y : Seat). y.cursor) ys) s ∙ map_replicate (λ (y : Seat). y.cursor) 16384 free);
  here = ap upto (sym h);
  depth = ap (λ (ys : List Stop). length ys) (sym p);
  state = λ j lt. absurd (omega (arith, lt));
  from = λ j lt. absurd (omega (arith, lt));
  groups = ap (λ (ys : List ℕ). length ys) (sym g);
  bounds = λ i lt. absurd (omega (arith, lt));
  new = λ z e. blank z;
  held = λ z n e. absurd (new_at n (sym (is_new z) ∙ e));
  gone = λ z e. absurd (new_gone (sym (is_new z) ∙ e));
}
  where
    is_new : (z : ℕ) → standing x z ≡ New
    is_new z = ap (λ (ys : List Seat). (seat_at ys z).standing) s ∙ ap (λ (y : Seat). y.standing) (⊎_elim (λ lt. get_or-replicate 16384 z free free lt) (λ le. get_or_past (replicate 16384 free) z free (omega (arith, le, length-replicate 16384 free))) (cases_lt z 16384))

-- The last group leaves the path.
module _ (w : Watching) (good : List Bool) (x : Search) (m : Memory) (sh : Shows x m) (ok : Searching w good m) (t : ℕ) (under : t < m.depth) (y : Search) (l : Left x t y) where
  abbrev group : List Stop
  group = drop t x.path.items

  long : length group ≡ m.depth - t
  long = omega (arith, length-drop t x.path.items, sh.depth)

  at_group : (k : ℕ) → k < length group → state_at group k ≡ on m (t + k)
  at_group k lt = ap (λ (y : Stop). y.state.number) (get_or-drop t x.path.items k no_stop) ∙ sym (sh.state (t + k) (omega (arith, lt, long)))

  -- The place in the group of a place from t on.
  back : (i : ℕ) → t ≤ i → i < m.depth → state_at group (i - t) ≡ on m i
  back i le lt = at_group (i - t) (omega (arith, long, le, lt)) ∙ ap (on m) (omega (arith, le))

  in_group : (z : ℕ) → In group (length group) z → (k : ℕ) × (t ≤ k) × Held m k z
  in_group z h = (t + h.0, omega arith, (omega (arith, h.1, long), sym (at_group h.0 h.1) ∙ h.2))

  group_in : (k z : ℕ) → t ≤ k → Held m k z → In group (length group) z
  group_in k z le h = (k - t, omega (arith, long, le, h.0), back k le h.0 ∙ h.1)

  -- The parent is the state at the place that t was taken from, if there is one.
  parent_case : (f : Option ℕ) → item m.resume t ≡ upto f → (Q : Option State → Type 0) → ((p : ℕ) → item m.resume t ≡ p + 1 → Q (Some (stop x p).state)) → (item m.resume t ≡ 0 → Q None) → Q (parent x f)
  parent_case None e Q some none = none e
  parent_case (Some p) e Q some none = some p e

  from_there : (q : State) → parent x (stop x t).from ≡ Some q → (k : ℕ) × Held m k q.number
  from_there q =
      parent_case (stop x t).from (sh.from t under) (λ f. f ≡ Some q → (k : ℕ) × Held m k q.number) (λ k e is. let low : k < m.depth = omega (arith, e, ok.resume_le t under, under) in (k, (low, sh.state k low ∙ ap (λ (y : State). y.number) (same_Some _ _ is)))) (λ _ no. absurd (none-some q no))

  module _ (v : Bool) (before after : List Bool) (s : Shared group (parent x (stop x t).from) before after) where
    only_of : (z : ℕ) → at after z ≡ true → (at before z ≡ true) ⊎ (((k : ℕ) × (t ≤ k) × (k < m.depth) × (at before (on m k) ≡ true)) × ((k : ℕ) × Held m k z))
    only_of z e =
        ⊎_elim (λ old. inl old) (λ h. inr ((t + h.0.0, omega arith, omega (arith, h.0.1, long), ap (at before) (sym (at_group h.0.0 h.0.1)) ∙ h.0.2), ⊎_elim (λ i. let g = in_group z i in (g.0, g.2)) (λ p. subst (λ (z : ℕ). (k : ℕ) × Held m k z) p.2 (from_there p.0 p.1)) h.1)) (s.only z e)

    even_of : (j k : ℕ) → t ≤ j → j < m.depth → t ≤ k → k < m.depth → at after (on m j) ≡ true → at after (on m k) ≡ true
    even_of j k a b c d e = ap (at after) (sym (back k c d)) ∙ s.even (j - t) (k - t) (omega (arith, long)) (omega (arith, long)) (ap (at after) (back j a b) ∙ e)

    told_of : (q : ℕ) → item m.resume t ≡ q + 1 → at after (on m t) ≡ true → at after (on m q) ≡ true
    told_of q is e =
        let low : q < m.depth = omega (arith, is, ok.resume_le t under, under) in
        ap (at after) (sh.state q low) ∙ s.told 0 (stop x q).state (omega (arith, long, under)) (parent_case (stop x t).from (sh.from t under) (λ f. f ≡ Some (stop x q).state) (λ p e. ap (λ (n : ℕ). Some (stop x n).state) (omega (arith, e, is))) (λ no. absurd (omega (arith, no, is)))) (ap (at after) (at_group 0 (omega (arith, long, under)) ∙ ap (on m) (omega arith)) ∙ e)

  shared : (v : Bool) → Shared group (parent x (stop x t).from) (cond v m.keepable m.breakable) (cond v y.keepable y.breakable)
  shared true = subst (λ (b : List Bool). Shared group (parent x (stop x t).from) b y.keepable) (sym sh.keepable) l.keepable
  shared false = subst (λ (b : List Bool). Shared group (parent x (stop x t).from) b y.breakable) (sym sh.breakable) l.breakable

  pub handed : Handed m t y.keepable y.breakable
  handed = record {
    long_keepable = (shared true).long;
    long_breakable = (shared false).long;
    kept = λ v. (shared v).kept;
    only = λ v. only_of v _ _ (shared v);
    even = λ v. even_of v _ _ (shared v);
    told = λ v. told_of v _ _ (shared v);
  }

  abbrev left_with : Memory
  left_with = stood (learned m y.keepable y.breakable) t (m.groups - 1) (item m.resume t)

  -- A state is in the group, and gone, or as it was.
  cases : (z : ℕ) → (In group (length group) z × (standing y z ≡ Gone)) ⊎ (standing y z ≡ standing x z)
  cases z = ⊎_elim (λ i. inl (i, l.seats.gone z i)) (λ same. inr same) (l.seats.others z)

  still_held : (z k : ℕ) → Held m k z → (standing y z ≡ Gone → ⊥) → Held left_with k z
  still_held z k h not = ⊎_elim (λ lt. (lt, h.1)) (λ le. absurd (not (l.seats.gone z (group_in k z le h)))) (cases_lt k t)

  gone_group : (z : ℕ) → In group (length group) z → IsGone left_with z
  gone_group z i =
      let h = in_group z i in
      (ap (at m.seen) (sym h.2.1) ∙ ok.was_seen h.0 h.2.0, λ k g. omega (arith, g.0, h.1, sym (ok.placed k (omega (arith, g.0, under))) ∙ (ap (item m.place) (g.1 ∙ sym h.2.1) ∙ ok.placed h.0 h.2.0)))

  pub leave_shows : Shows y (stood (learned m y.keepable y.breakable) t (m.groups - 1) (item m.resume t))
  leave_shows = record {
    keepable = refl;
    breakable = refl;
    cursor = sh.cursor ∙ sym l.seats.cursors;
    here = sh.from t under ∙ ap upto (sym l.here);
    depth = omega (arith, length-take-le t x.path.items (omega (arith, under, sh.depth)), ap (λ (ys : List Stop). length ys) l.path);
    state = λ j lt. sh.state j (omega (arith, lt, under)) ∙ ap (λ (s : Stop). s.state.number) (stays j lt);
    from = λ j lt. sh.from j (omega (arith, lt, under)) ∙ ap (λ (s : Stop). upto s.from) (stays j lt);
    groups = omega (arith, sh.groups, length-take-le (length x.bounds.items - 1) x.bounds.items (omega arith), ap (λ (ys : List ℕ). length ys) l.bounds);
    bounds = λ i lt. sh.bounds i (omega (arith, lt)) ∙ (sym (get_or-take (length x.bounds.items - 1) x.bounds.items i 0 (omega (arith, lt, sh.groups))) ∙ ap (λ (ys : List ℕ). item ys i) (sym l.bounds));
    new = λ z e. ⊎_elim (λ h. absurd (new_gone (sym e ∙ h.1))) (λ same. sh.new z (sym same ∙ e)) (cases z);
    held = λ z k e. ⊎_elim (λ h. absurd (at_gone k (sym e ∙ h.1))) (λ same. let h = sh.held z k (sym same ∙ e) in (still_held z k h.0 (λ g. at_gone k (sym e ∙ g)), h.1)) (cases z);
    gone = λ z e. ⊎_elim (λ h. gone_group z h.0) (λ same. let g = sh.gone z (sym same ∙ e) in (g.0, λ k h. g.1 k (omega (arith, h.0, under), h.1))) (cases z);
  }
    where
      stays : (j : ℕ) → j < t → stop x j ≡ stop y j
      stays j lt = sym (get_or-take t x.path.items j no_stop lt) ∙ ap (λ (ys : List Stop). stop_at ys j) (sym l.path)

module _ (w : Watching) where
  todo_is : (x : Search) (m : Memory) → Shows x m → left w m ≡ todo w x
  todo_is x m sh =
      ap (λ (c : List ℕ). sum_by (λ c. letter_count w.events - c) c * 16385 + m.here) sh.cursor ∙ ap (λ (h : ℕ). sum_by (λ c. letter_count w.events - c) (cursors x) * 16385 + h) sh.here

  -- One step of what a search remembers is a step of the search.
  pub stepped : (good : List Bool) (x y : Search) (m n : Memory) → Shows x m → Shows y n → Onward w good m n → Stepped w good x y
  stepped good x y m n sx sy o = record {
    goes = (n, sy, o.goes);
    still_seen = λ z no. not_new y n sy z (o.still_seen z (was_seen x m sx z no));
    less = omega (arith, o.less, todo_is x m sx, todo_is y n sy);
  }
