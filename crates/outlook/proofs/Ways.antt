-- Ways along the letters, put together, and the marks along them.
use Rattle.std.proofs.Common.{◌≡◌, ℕ, ◌<◌, ◌≤◌, sym, refl, subst, arith}
use Rattle.watch.specs.Letters.{letter_count}
use Rattle.watch.specs.Marks.{Has}
use Rattle.watch.specs.Watchers.{Watching, Lawful}
use Rattle.outlook.specs.inner.Ways.{Reaches, here, step, Leads}
use Rattle.watch.proofs.Subsets.{subset_le}

pub leads-refl : (w : Watching) (s : ℕ) → Leads w s s
leads-refl w s = here refl

-- What reaches a state that reaches P reaches P.
pub leads_to : (w : Watching) (P : ℕ → Type 0) (t : ℕ) {s : ℕ} → Leads w s t → Reaches w P t → Reaches w P s
leads_to w P t (here e) more = subst (Reaches w P) (sym e) more
leads_to w P t (step a lt rest) more = step a lt (leads_to w P t rest more)

pub leads_on : (w : Watching) (s t u : ℕ) → Leads w s t → Leads w t u → Leads w s u
leads_on w s t u first more = leads_to w (λ z. z ≡ u) t first more

-- One letter.
pub leads_step : (w : Watching) (s a : ℕ) → a < letter_count w.events → Leads w s (w.next s a)
leads_step w s a lt = step a lt (here refl)

module _ (w : Watching) (law : Lawful w) where
  marks_grow : (t : ℕ) {s : ℕ} → Leads w s t → s < w.states → (i : ℕ) → Has i (w.shown s) → Has i (w.shown t)
  marks_grow t (here e) below i h = subst (λ (z : ℕ). Has i (w.shown z)) e h
  marks_grow t (step {s = s} a lt rest) below i h =
      marks_grow t rest (law.next_within s a) i (law.marks_stay s a i below lt h)

  shown_le : (s t : ℕ) → s < w.states → Leads w s t → w.shown s ≤ w.shown t
  shown_le s t below way = subset_le w.marks _ _ (law.shown_within s) (marks_grow t way below)

  pub leads_within : (t : ℕ) {s : ℕ} → Leads w s t → s < w.states → t < w.states
  leads_within t (here e) below = subst (λ (z : ℕ). z < w.states) e below
  leads_within t (step {s = s} a lt rest) below = leads_within t rest (law.next_within s a)

  -- States that lead to each other show the same marks.
  pub same_shown : (s t : ℕ) → s < w.states → Leads w s t → Leads w t s → w.shown s ≡ w.shown t
  same_shown s t below to back = omega (arith, shown_le s t below to, shown_le t s (leads_within t to below) back)
