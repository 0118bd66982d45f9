-- Counting the events of a set, one after another. Assumes nothing.
use Rattle.std.proofs.Common.{◌≡◌, ℕ, ◌+◌, ◌<◌, ◌≤◌, Bool, false, cond, ◌&&◌, List, ◌∷◌, length, get_or, drop, ◌∙◌}
use Rattle.std.proofs.lemmas.List.{at_drop_more, at_drop_all}
use Rattle.rows.specs.declared.counting.Doing.{Doing}
use Rattle.rows.specs.Stepping.{means, tally}

pub tally_more :
    (w : Doing) (fs : List Bool) (ds : List ℕ) (i : ℕ) → i < length fs → i < length ds →
    tally w (drop i fs) (drop i ds) ≡ cond (get_or fs i false && means w (get_or ds i 0)) 1 0 + tally w (drop (i + 1) fs) (drop (i + 1) ds)
tally_more w fs ds i hf hd =
    at_drop_more (λ (xs : List Bool). tally w xs (drop i ds)) fs i false hf ∙
    at_drop_more (λ (ys : List ℕ). tally w (get_or fs i false ∷ drop (i + 1) fs) ys) ds i 0 hd

pub tally_all : (w : Doing) (fs : List Bool) (ds : List ℕ) (i : ℕ) → length fs ≤ i → tally w (drop i fs) (drop i ds) ≡ 0
tally_all w fs ds i past = at_drop_all (λ (xs : List Bool). tally w xs (drop i ds)) fs i past
