-- The step that follows a letter, by what the calls on the way answer.
use Rattle.std.proofs.Common.{◌≡◌, ℕ, ◌-◌, ◌<◌, ◌≤◌, List, Bool, length, sym, ap, ◌∙◌, subst, arith}
use Rattle.watch.specs.Letters.{letter_count}
use Rattle.watch.specs.Watchers.{Watching, Lawful}
use Rattle.outlook.specs.Outlooks.{at as says}
use Rattle.outlook.specs.inner.Tables.{item}
use Rattle.outlook.specs.inner.Changes.{stop, standing, cursor, after_letter, after_push, after_note, after_absorb, Joined}
use Rattle.outlook.specs.inner.Showing.{Goes, LookedAt, Stepped}
use Rattle.outlook.specs.declared.state.State.{State}
use Rattle.outlook.specs.declared.search.Standing.{Standing}
use Rattle.outlook.specs.declared.search.Standing.TheVariants.{New, At, Gone}
use Rattle.outlook.specs.declared.search.Search.{Search}
use Rattle.outlook.proofs.Steps.{new_room, new_step, gone_step, held_step}

-- The letter was taken, and leads to u, which stands as said.
module _ (w : Watching) (law : Lawful w) (good : List Bool) (x : Search) (h : Goes w good x) (s : State) (looked : LookedAt x s) (more : cursor x s.number < letter_count w.events) (letter : ℕ) (taken : letter ≡ cursor x s.number) (x' : Search) (after : x' ≡ after_letter x s.number) (u : State) (next : u.number ≡ w.next s.number letter) (said : Standing) (stands : said ≡ standing x' u.number) where
  number : (stop x looked.0).state.number ≡ s.number
  number = ap (λ (y : State). y.number) looked.2

  leads : u.number ≡ w.next s.number (cursor x s.number)
  leads = next ∙ ap (w.next s.number) taken

  now : standing (after_letter x s.number) u.number ≡ said
  now = ap (λ (z : Search). standing z u.number) (sym after) ∙ sym stands

  pub look_room : said ≡ New → (length x'.path.items < 16384) × (length x'.bounds.items < 16384)
  look_room new =
      let fits = new_room w law good x h.0 h.1 h.2 looked.0 looked.1 s.number number more u leads (now ∙ new) in
      (omega (arith, ap (λ (z : Search). length z.path.items) after, fits.0), omega (arith, ap (λ (z : Search). length z.bounds.items) after, fits.1))

  pub look_new : said ≡ New → (y : Search) → y ≡ after_push x' u → Stepped w good x y
  look_new new y is =
      subst (Stepped w good x) (sym (is ∙ ap (λ (z : Search). after_push z u) after)) (new_step w law good x h.0 h.1 h.2 looked.0 looked.1 s.number number more u leads (now ∙ new))

  pub look_gone : said ≡ Gone → (y : Search) → y ≡ after_absorb x' s.number u.number → Stepped w good x y
  look_gone gone y is =
      subst (Stepped w good x) (sym (is ∙ ap (λ (z : Search). after_absorb z s.number u.number) after)) (gone_step w law good x h.0 h.1 h.2 looked.0 looked.1 s.number number more u leads (now ∙ gone))

  pub look_back : (back : ℕ) → said ≡ At back → (marks : ℕ) → marks ≡ w.shown s.number → (noted : Search) → noted ≡ after_note x' s.number (says good marks) → (y : Search) → Joined noted back y → (0 < length y.bounds.items → item y.bounds.items (length y.bounds.items - 1) ≤ back) → Stepped w good x y
  look_back back at_back marks shown noted is y joined until =
      let is_noted : noted ≡ after_note (after_letter x s.number) s.number (says good (w.shown s.number)) = is ∙ (λ i. after_note (after i) s.number (says good (shown i))) in
      held_step w law good x h.0 h.1 h.2 looked.0 looked.1 s.number number more u leads back (now ∙ at_back) y (subst (λ (z : Search). Joined z back y) is_noted joined) until
