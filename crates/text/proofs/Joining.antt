-- Words and the line that they make. Assumes nothing.
use Rattle.std.proofs.Common.{◌≡◌, ℕ, ◌<◌, true, false, not, eqb, leb, List, [], ◌∷◌, length, refl, ap, ◌∙◌, arith}
use Rattle.std.specs.List.{list_all, All}
use Rattle.std.proofs.lemmas.Bool.{and_parts, ne_eqb, leb-true}
use Rattle.std.proofs.lemmas.List.Sums.{AllPass-from_list_all}
use Rattle.std.proofs.lemmas.List.Splits.{slice_split_none, slice_split_at}
use Rattle.text.specs.Words.{words, joined}
use Rattle.text.specs.Clean.{visible, clean_word, clean}

no_space : (b : ℕ) → visible b ≡ true → eqb b 32 ≡ false
no_space b h =
    let p = and_parts (leb 33 b) (leb b 126) h in
    let low = leb-true 33 b p.0 in
    ne_eqb b 32 (λ e. omega arith)

seen : (w : List ℕ) → clean_word w ≡ true → list_all visible w ≡ true
seen w h = (and_parts (not (eqb (length w) 0)) (list_all visible w) h).1

no_spaces : (w : List ℕ) → clean_word w ≡ true → All (λ b. eqb b 32 ≡ false) w
no_spaces w h k d l = no_space _ (AllPass-from_list_all visible w (seen w h) k d l)

-- Clean words, joined, are cut into the same words again.
pub words_joined : (ws : List (List ℕ)) → 0 < length ws → list_all clean_word ws ≡ true → words (joined ws) ≡ ws
words_joined [] h e = absurd (omega arith)
words_joined (w ∷ []) h e = slice_split_none _ w (no_spaces w (and_parts (clean_word w) true e).0)
words_joined (w ∷ (v ∷ vs)) h e =
    let p = and_parts (clean_word w) (list_all clean_word (v ∷ vs)) e in
    slice_split_at _ w 32 (joined (v ∷ vs)) (no_spaces w p.0) refl ∙ ap (λ (xs : List (List ℕ)). w ∷ xs) (words_joined (v ∷ vs) (omega arith) p.1)

-- Clean words, joined, make a clean line.
pub clean_joined : (ws : List (List ℕ)) → 0 < length ws → list_all clean_word ws ≡ true → clean (joined ws) ≡ true
clean_joined ws h e = ap (list_all clean_word) (words_joined ws h e) ∙ e
