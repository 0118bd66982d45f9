-- The start and the end of a search.
use Rattle.std.proofs.Common.{◌≡◌, ℕ, ◌<◌, ◌≤◌, Bool, true, false, cond, List, replicate, ⊎_elim, sym, subst, arith}
use native.Mathlib.Nat.{pow-le-pow_right}
use Rattle.std.proofs.lemmas.List.{get_or-replicate, get_or_past}
use Rattle.std.proofs.lemmas.Bool.{both_ways, cases_lt}
use Rattle.watch.specs.Letters.{letter_count, digits}
use Rattle.watch.specs.Watchers.{Watching, Lawful}
use Rattle.outlook.specs.Outlooks.{at, Foresees}
use Rattle.outlook.specs.inner.Ways.{Known}
use Rattle.outlook.specs.inner.Tables.{item}
use Rattle.outlook.specs.inner.Searching.{Memory, known, Gone, Sized, Searching, pushed}
use Rattle.outlook.proofs.Basics.{for_both}
use Rattle.outlook.proofs.Resting.{foresees}
use Rattle.outlook.proofs.Pushing.{push_ok}

pub few_letters : (w : Watching) → Lawful w → letter_count w.events ≤ 243
few_letters w law = pow-le-pow_right {n = digits} (omega arith) law.few_events

-- A new table has no state in it, and a new list of numbers is 0 everywhere.
pub blank : (s : ℕ) → at (replicate 16384 false) s ≡ false
blank s = ⊎_elim (λ lt. get_or-replicate 16384 s false false lt) (λ le. get_or_past (replicate 16384 false) s false le) (cases_lt s 16384)

pub zeros : (s : ℕ) → item (replicate 16384 0) s ≡ 0
zeros s = ⊎_elim (λ lt. get_or-replicate 16384 s 0 0 lt) (λ le. get_or_past (replicate 16384 0) s 0 le) (cases_lt s 16384)

-- A search with nothing on its path.
pub begin_ok : (w : Watching) (good : List Bool) (x : Memory) → Sized x → ((s : ℕ) → at x.keepable s ≡ false) → ((s : ℕ) → at x.breakable s ≡ false) → ((s : ℕ) → at x.seen s ≡ false) → ((s : ℕ) → item x.cursor s ≡ 0) → x.depth ≡ 0 → x.groups ≡ 0 → x.here ≡ 0 → Searching w good x
begin_ok w good x sized none-k none-b unseen zero flat ungrouped idle = record {
  sized = sized;
  room = omega (arith, flat);
  top = omega (arith, flat, idle);
  empty = λ _. flat;
  within = λ j lt. absurd (omega (arith, lt, flat));
  was_seen = λ j lt. absurd (omega (arith, lt, flat));
  placed = λ j lt. absurd (omega (arith, lt, flat));
  first = λ deep. absurd (omega (arith, deep, flat));
  rising = λ i j less some. absurd (omega (arith, some, ungrouped));
  apart = λ i some. absurd (omega (arith, some, ungrouped));
  below = λ i some. absurd (omega (arith, some, ungrouped));
  leads = λ j k lt. absurd (omega (arith, lt, flat));
  resume_le = λ p lt. absurd (omega (arith, lt, flat));
  resume_in = λ i p some. absurd (omega (arith, some, ungrouped));
  spent = λ j le lt. absurd (omega (arith, lt, flat));
  passed = λ p j lt. absurd (omega (arith, lt, flat));
  tried = λ j lt. absurd (omega (arith, lt, flat));
  closed = λ s a g. absurd (both_ways _ (unseen s) g.0);
  inside = for_both _ (λ s e. absurd (both_ways _ (none-k s) e)) (λ s e. absurd (both_ways _ (none-b s) e));
  sound = for_both _ (λ s e. absurd (both_ways _ (none-k s) e)) (λ s e. absurd (both_ways _ (none-b s) e));
  cyclic = λ j lt. absurd (omega (arith, lt, flat));
  fades = λ s g. absurd (both_ways _ (unseen s) g.0);
  fresh = λ s _. zero s;
}

module _ (w : Watching) (law : Lawful w) (good : List Bool) (x : Memory) (ok : Searching w good x) (idle : x.here ≡ 0) where
  -- A search from one state more.
  pub visit_push : (u : ℕ) → u < w.states → at x.seen u ≡ false → Searching w good (pushed x u)
  visit_push u within new = push_ok w law good x ok u within new (λ j lt. absurd (omega (arith, lt, ok.empty idle)))

  -- Every state was seen, so every state is gone.
  module _ (all : (s : ℕ) → s < w.states → at x.seen s ≡ true) where
    gone : (s : ℕ) → s < w.states → Gone x s
    gone s within = (all s within, λ k h. omega (arith, h.0, ok.empty idle))

    all_known : (v : Bool) → Known w good v (cond v x.keepable x.breakable)
    all_known v = record {
      inside = ok.inside v;
      sound = ok.sound v;
      closed = λ s a within letter e. (ok.closed s a (gone s within) letter).1 v e;
      fades = λ s within e no-v. ok.fades s (gone s within) (subst (λ (b : Bool). known x b s ≡ false) (sym e) no-v);
    }

    pub foretold_by_memory : (v : Bool) → Foresees w good v (at (cond v x.keepable x.breakable))
    foretold_by_memory v = foresees w law good v _ (all_known v)
