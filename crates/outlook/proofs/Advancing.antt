-- One letter more is tried.
use Rattle.std.proofs.Common.{◌≡◌, ℕ, ◌+◌, ◌<◌, ◌≤◌, Bool, List, set, sym, ap, ◌∙◌, subst₂, ⊎_elim, arith, length-set}
use Rattle.std.proofs.lemmas.Bool.{cases_eq, both_ways}
use Rattle.watch.specs.Watchers.{Watching, Lawful}
use Rattle.outlook.specs.Outlooks.{at}
use Rattle.outlook.specs.inner.Tables.{item}
use Rattle.outlook.specs.inner.Searching.{Memory, on, Went, Searching, advanced}
use Rattle.outlook.proofs.Basics.{item_same, item_other, unique}

module _ (w : Watching) (law : Lawful w) (good : List Bool) (x : Memory) (ok : Searching w good x) (p : ℕ) (lt : p < x.depth) where
  abbrev c : ℕ
  c = item x.cursor (on x p)

  abbrev cursor : List ℕ
  cursor = set x.cursor (on x p) (item x.cursor (on x p) + 1)

  cursor_here : item cursor (on x p) ≡ c + 1
  cursor_here = item_same x.cursor (on x p) (c + 1) (omega (arith, ok.within p lt, law.few_states, ok.sized.cursor))

  grown : (z : ℕ) → item x.cursor z ≤ item cursor z
  grown z = ⊎_elim (λ e. omega (arith, cursor_here, ap (item x.cursor) e, ap (item cursor) e)) (λ ne. omega (arith, item_other x.cursor (on x p) z (c + 1) ne)) (cases_eq z (on x p))

  pub advance_ok : Went w good x p (on x p) (w.next (on x p) (item x.cursor (on x p))) → Searching w good (advanced x (on x p))
  advance_ok fact = record {
    sized = record { keepable = ok.sized.keepable; breakable = ok.sized.breakable; seen = ok.sized.seen; cursor = length-set x.cursor (on x p) (c + 1) ∙ ok.sized.cursor; path = ok.sized.path; place = ok.sized.place; resume = ok.sized.resume; bounds = ok.sized.bounds };
    room = ok.room;
    top = ok.top;
    empty = ok.empty;
    within = ok.within;
    was_seen = ok.was_seen;
    placed = ok.placed;
    first = ok.first;
    rising = ok.rising;
    apart = ok.apart;
    below = ok.below;
    leads = ok.leads;
    resume_le = ok.resume_le;
    resume_in = ok.resume_in;
    spent = λ j le h. omega (arith, ok.spent j le h, grown (on x j));
    passed = λ q j h le under. omega (arith, ok.passed q j h le under, grown (on x j));
    tried = λ j h a letter. ⊎_elim (λ e. at_place j h a letter e) (λ ne. ok.tried j h a (omega (arith, letter, item_other x.cursor (on x p) (on x j) (c + 1) ne))) (cases_eq (on x j) (on x p));
    closed = ok.closed;
    inside = ok.inside;
    sound = ok.sound;
    cyclic = ok.cyclic;
    fades = ok.fades;
    fresh = λ z e. item_other x.cursor (on x p) z (c + 1) (λ is. both_ways _ e (ap (at x.seen) is ∙ ok.was_seen p lt)) ∙ ok.fresh z e;
  }
    where
      at_place : (j : ℕ) → j < x.depth → (a : ℕ) → a < item cursor (on x j) → on x j ≡ on x p → Went w good x j (on x j) (w.next (on x j) a)
      at_place j h a letter e =
          ⊎_elim (λ this. subst₂ (λ (i b : ℕ). Went w good x i (on x i) (w.next (on x i) b)) (sym (unique w law good x ok j p h lt e)) (sym this) fact) (λ ne. ok.tried j h a (omega (arith, ne, letter, cursor_here, ap (item cursor) e, ap (item x.cursor) e))) (cases_eq a c)
