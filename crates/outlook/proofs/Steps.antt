-- The steps of a search, by what it remembers.
use Rattle.std.proofs.Common.{◌≡◌, ◌≢◌, ℕ, ◌+◌, ◌-◌, ◌<◌, ◌≤◌, Bool, false, cond, List, length, Some, None, sym, ap, ◌∙◌, subst, subst₂, ⊎_elim, arith, length-set}
use Rattle.std.proofs.lemmas.Bool.{cases_lt}
use Rattle.watch.specs.Letters.{letter_count}
use Rattle.watch.specs.Watchers.{Watching, Lawful}
use Rattle.outlook.specs.Outlooks.{at, Foresees}
use Rattle.outlook.specs.inner.Ways.{value}
use Rattle.outlook.specs.inner.Tables.{item}
use Rattle.outlook.specs.inner.Changes.{stop, standing, cursor, after_letter, after_push, after_note, after_absorb, Joined, Left}
use Rattle.outlook.specs.inner.Searching.{Memory, on, bound, Held, Spent, Sized, Searching, Onward, pushed, advanced, noted, absorbed, stood}
use Rattle.outlook.specs.inner.Searching.{Gone as IsGone}
use Rattle.outlook.specs.inner.Showing.{upto, Shows, Goes, Stepped}
use Rattle.outlook.specs.declared.state.State.{State}
use Rattle.outlook.specs.declared.search.Standing.TheVariants.{New, At, Gone}
use Rattle.outlook.specs.declared.search.Search.{Search}
use Rattle.outlook.proofs.Basics.{groups_le, room_left}
use Rattle.outlook.proofs.Beginning.{visit_push, foretold_by_memory}
use Rattle.outlook.proofs.Stepping.{step_back, step_leave, step_new, step_gone, step_held}
use Rattle.outlook.proofs.Showing.{cursor_is, was_seen, letter_shows, note_shows, absorb_shows, join_shows, back_shows, push_shows, leave_shows, handed, stepped}

module _ (w : Watching) (law : Lawful w) (good : List Bool) (x : Search) (m : Memory) (sh : Shows x m) (ok : Searching w good m) where
  -- There is room for a state that is new.
  module _ (u : State) (within : u.number < w.states) (new : standing x u.number ≡ New) where
    space : m.depth < 16384
    space = room_left w law good m ok u.number within (sh.new u.number new)

    few : m.groups < 16384
    few = omega (arith, space, groups_le w law good m ok)

    shows : Shows (after_push x u) (pushed m u.number)
    shows = push_shows x m sh ok.sized u (sh.new u.number new) space few

    -- A search from one state more.
    pub visit_goes : x.here ≡ None → Goes w good (after_push x u)
    visit_goes idle = (pushed m u.number, shows, visit_push w law good m ok (sh.here ∙ ap upto idle) u.number within (sh.new u.number new))

  -- Every state was on the path, and the path is empty.
  pub foretold : x.here ≡ None → ((s : ℕ) → s < w.states → standing x s ≢ New) → (v : Bool) → Foresees w good v (at (cond v x.keepable x.breakable))
  foretold idle all v =
      subst₂ (λ (k b : List Bool). Foresees w good v (at (cond v k b))) sh.keepable sh.breakable (foretold_by_memory w law good m ok (sh.here ∙ ap upto idle) (λ s lt. was_seen x m sh s (all s lt)) v)

  module _ (t : ℕ) (here : x.here ≡ Some t) where
    is : m.here ≡ t + 1
    is = sh.here ∙ ap upto here

    under : t < m.depth
    under = omega (arith, is, ok.top)

    some_group : 0 < m.groups
    some_group = (ok.first (omega (arith, under))).0

    last_is : bound m (m.groups - 1) ≡ item x.bounds.items (length x.bounds.items - 1)
    last_is = sh.bounds (m.groups - 1) (omega (arith, some_group)) ∙ ap (λ (n : ℕ). item x.bounds.items (n - 1)) sh.groups

    pub some_bound : 0 < length x.bounds.items
    some_bound = omega (arith, some_group, sh.groups)

    spent : letter_count w.events ≤ cursor x (stop x t).state.number → Spent w m (on m t)
    spent done = omega (arith, done, cursor_is x m sh (on m t), ap (cursor x) (sh.state t under))

    pub leave_step : (y : Search) → Left x t y → item x.bounds.items (length x.bounds.items - 1) ≡ t → letter_count w.events ≤ cursor x (stop x t).state.number → Stepped w good x y
    leave_step y l last done =
        stepped w good x y m _ sh (leave_shows w good x m sh ok t under y l) (step_leave w law good m ok t is y.keepable y.breakable (handed w good x m sh ok t under y l) (last_is ∙ last) (spent done))

    pub back_step : (item x.bounds.items (length x.bounds.items - 1) ≡ t → ⊥) → letter_count w.events ≤ cursor x (stop x t).state.number → Stepped w good x (record { keepable = x.keepable; breakable = x.breakable; seats = x.seats; path = x.path; bounds = x.bounds; here = (stop x t).from })
    back_step other done =
        stepped w good x _ m _ sh (back_shows x m sh t under) (step_back w law good m ok t is (λ e. other (sym last_is ∙ e)) (spent done))

    module _ (s : ℕ) (there : (stop x t).state.number ≡ s) (more : cursor x s < letter_count w.events) where
      same_state : on m t ≡ s
      same_state = sh.state t under ∙ there

      more_here : item m.cursor (on m t) < letter_count w.events
      more_here = omega (arith, more, cursor_is x m sh s, ap (item m.cursor) same_state)

      shows_letter : Shows (after_letter x s) (advanced m s)
      shows_letter = letter_shows x m sh s

      sized : Sized (advanced m s)
      sized = record { keepable = ok.sized.keepable; breakable = ok.sized.breakable; seen = ok.sized.seen; cursor = length-set m.cursor s _ ∙ ok.sized.cursor; path = ok.sized.path; place = ok.sized.place; resume = ok.sized.resume; bounds = ok.sized.bounds }

      module _ (u : State) (leads : u.number ≡ w.next s (cursor x s)) where
        same_next : w.next (on m t) (item m.cursor (on m t)) ≡ u.number
        same_next = ap (λ (z : ℕ). w.next z (item m.cursor z)) same_state ∙ (ap (w.next s) (cursor_is x m sh s) ∙ sym leads)

        within : u.number < w.states
        within = omega (arith, leads, law.next_within s (cursor x s))

        onward : (f : ℕ → ℕ → Memory) → Onward w good m (f (on m t) (w.next (on m t) (item m.cursor (on m t)))) → Onward w good m (f s u.number)
        onward f o = subst₂ (λ (a b : ℕ). Onward w good m (f a b)) same_state same_next o

        module _ (new : standing (after_letter x s) u.number ≡ New) where
          unseen : at m.seen u.number ≡ false
          unseen = shows_letter.new u.number new

          space_left : m.depth < 16384
          space_left = room_left w law good m ok u.number within unseen

          pub new_room : (length x.path.items < 16384) × (length x.bounds.items < 16384)
          new_room = (omega (arith, space_left, sh.depth), omega (arith, space_left, groups_le w law good m ok, sh.groups))

          pub new_step : Stepped w good x (after_push (after_letter x s) u)
          new_step =
              stepped w good x _ m _ sh (push_shows (after_letter x s) (advanced m s) shows_letter sized u unseen space_left (omega (arith, space_left, groups_le w law good m ok))) (onward (λ s u. advanced (pushed m u) s) (step_new w law good m ok t is more_here (ap (at m.seen) same_next ∙ unseen)))

        pub gone_step : standing (after_letter x s) u.number ≡ Gone → Stepped w good x (after_absorb (after_letter x s) s u.number)
        gone_step gone =
            stepped w good x _ m _ sh (absorb_shows (after_letter x s) (advanced m s) shows_letter s u.number) (onward (λ s u. advanced (absorbed m s u) s) (step_gone w law good m ok t is more_here (subst (IsGone m) (sym same_next) (shows_letter.gone u.number gone))))

        module _ (back : ℕ) (at_back : standing (after_letter x s) u.number ≡ At back) (y : Search) (j : Joined (after_note (after_letter x s) s (value w good s)) back y) (until : 0 < length y.bounds.items → item y.bounds.items (length y.bounds.items - 1) ≤ back) where
          abbrev n : ℕ
          n = length y.bounds.items

          shows_joined : Shows y (stood (noted (advanced m s) s (value w good s)) m.depth (length y.bounds.items) m.here)
          shows_joined =
              join_shows (after_note (after_letter x s) s (value w good s)) (noted (advanced m s) s (value w good s)) (note_shows (after_letter x s) (advanced m s) shows_letter s (value w good s)) back y j

          beyond : (i : ℕ) → n ≤ i → i < m.groups → back < bound m i
          beyond i le lt = omega (arith, sh.bounds i lt, j.after i le (omega (arith, lt, sh.groups)))

          some_left : 0 < n
          some_left = ⊎_elim (λ lt. lt) (λ le. omega (arith, beyond 0 le some_group, (ok.first (omega (arith, under))).1)) (cases_lt 0 n)

          fewer : n ≤ m.groups
          fewer = omega (arith, j.fewer, sh.groups)

          last : bound m (n - 1) ≤ back
          last = omega (arith, shows_joined.bounds (n - 1) (omega (arith, some_left)), until some_left)

          pub held_step : Stepped w good x y
          held_step =
              stepped w good x y m _ sh shows_joined (onward (λ s u. advanced (stood (noted m s (value w good s)) m.depth n m.here) s) (step_held w law good m ok t is more_here back (subst (Held m back) (sym same_next) (shows_letter.held u.number back at_back).0) n some_left fewer beyond last))
