-- The steps of a loop that asks each byte, v being the answer for all of them. Assumes nothing.
use Rattle.std.proofs.Common.{◌≡◌, ℕ, ◌+◌, ◌<◌, ◌≤◌, Bool, true, false, ◌&&◌, List, length, get_or, drop, sym, ◌∙◌}
use Rattle.std.proofs.lemmas.List.{at_drop_more, at_drop_all}
use Rattle.std.specs.List.{list_all}

-- what one element says of a test that is joined by and
fail : (h r v : Bool) → h ≡ false → (h && r) ≡ v → false ≡ v
fail true r v e s = cc
fail false r v e s = s

pass : (h r v : Bool) → h ≡ true → (h && r) ≡ v → r ≡ v
pass true r v e s = s
pass false r v e s = cc

module _ (p : ℕ → Bool) (v : Bool) (xs : List ℕ) (i : ℕ) (inv : list_all p (drop i xs) ≡ v) where
  pub byte_passes : i < length xs → p (get_or xs i 0) ≡ true → list_all p (drop (i + 1) xs) ≡ v
  byte_passes h e = pass _ _ v e (sym (at_drop_more (list_all p) xs i 0 h) ∙ inv)

  pub byte_fails : i < length xs → p (get_or xs i 0) ≡ false → false ≡ v
  byte_fails h e = fail _ _ v e (sym (at_drop_more (list_all p) xs i 0 h) ∙ inv)

  pub bytes_end : length xs ≤ i → true ≡ v
  bytes_end h = sym (at_drop_all (list_all p) xs i h) ∙ inv
