-- The lines of a list of entries are those of a run that the list follows. Assumes nothing.
use Rattle.std.proofs.Common.{◌≡◌, ℕ, zero, suc, ◌<◌, min, List, ◌++◌, length, get_or, Ok, Err, Result, refl, ap, ◌∙◌, subst, arith}
use Rattle.std.specs.Prelude.{MatchResult}
use Rattle.watch.specs.Exactly.{Exactly}
use Rattle.watch.specs.Following.{stand, AppearsBy, Followed}
use Rattle.watch.specs.Marks.{Has}
use Rattle.watch.specs.Runs.{Run, Continues, passed}
use Rattle.watch.specs.Watchers.{Watching}
use Rattle.watch.specs.declared.following.Passed.{Passed}
use Rattle.watch.specs.declared.marks.MarkSet.{MarkSet}
use Rattle.marks.specs.Records.{step_line, last_line, run_lines, run_record, list_lines}

pub same_lines : (w : Watching) (r : Run) (stands : List Passed) (n : ℕ)
    → ((d : Passed) (k : ℕ) → k < n → get_or stands k d ≡ stand w r (suc k)) → list_lines stands n ≡ run_lines w r n
same_lines w r stands zero h = refl
same_lines w r stands (suc n) h =
    λ i. same_lines w r stands n (λ d k lt. h d k (omega arith)) i ++ step_line n (h (record { state = 0; shown = record { bits = 0 } }) n (omega arith) i)

pub recorded : (w : Watching) (letters : List ℕ) (before after : List Passed) (appeared : MarkSet) (text : List ℕ)
    → length before ≡ length letters → length after ≡ length letters → Followed w letters before after appeared
    → text ≡ list_lines after (length after) ++ last_line appeared.bits
    → (r : Run) → Continues letters r → text ≡ run_record w r (length letters)
recorded w letters before after appeared text room long follows is r h =
    let n = length letters in
    let all : min n (length before) ≡ n = omega (arith, room) in
    let lines : list_lines after (length after) ≡ run_lines w r n =
    ap (list_lines after) long ∙ same_lines w r after n (λ d k lt. follows.stands r h d k (omega (arith, all))) in
    let last : appeared.bits ≡ w.shown (passed w r n) = follows.last r h ∙ ap (λ (k : ℕ). w.shown (passed w r k)) all in
    is ∙ (λ i. lines i ++ last_line (last i))

pub all_appeared : (w : Watching) (letters : List ℕ) (before after : List Passed) (appeared : MarkSet)
    → length before ≡ length letters → Followed w letters before after appeared
    → (r : Run) → Continues letters r → (i : ℕ) → Exactly (Has i (w.shown (passed w r (length letters)))) (AppearsBy w r (length letters) i)
all_appeared w letters before after appeared room follows r h i =
    let all : min (length letters) (length before) ≡ length letters = omega (arith, room) in
    let shown_is : appeared.bits ≡ w.shown (passed w r (length letters)) = follows.last r h ∙ ap (λ (k : ℕ). w.shown (passed w r k)) all in
    subst (λ (set : ℕ). Exactly (Has i set) (AppearsBy w r (length letters) i)) shown_is
    (subst (λ (n : ℕ). Exactly (Has i appeared.bits) (AppearsBy w r n i)) all (follows.marks r h i))

-- What stands under a mapped error is the value of the result before.
pub ok_kept : {A E : Type 0} (D : Type 0) (r : Result A E) (x : A) → MatchResult r (λ (y : A). ◌≡◌ {A = Result A D} (Ok x) (Ok y)) (λ _. ⊥) → r ≡ Ok x
ok_kept D (Ok y) x is = cc
ok_kept D (Err e) x never = absurd never
