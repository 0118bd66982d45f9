-- What is counted over a set of events is what OSL counts in the step. Assumes nothing.
use Rattle.std.proofs.Common.{◌≡◌, ℕ, zero, suc, ◌+◌, ◌≤◌, Bool, true, false, cond, not, ◌&&◌, ◌||◌, eqb, ltb, List, [], ◌∷◌, ◌++◌, map, length, sym, refl, ap, ◌∙◌, ap₂, add_assoc, zero-add, arith}
use Rattle.std.proofs.lemmas.Bool.{lt-ltb}
use Rattle.std.specs.List.{AllByRecursion}
use Rattle.osl.specs.declared.event.Event as declared
use Rattle.osl.specs.declared.event.Pattern.{Pattern}
use Rattle.osl.specs.Osl as osl
use Rattle.osl.specs.Osl.{IndEvent, Formula, count, refines?, satisfies?}
use Rattle.osl.specs.Terms.{as_event, as_pattern}
use Rattle.osl.specs.Traces.{entries, entries_from}
use Rattle.osl.specs.Matching.{chosen, matches}
use Rattle.osl.proofs.Deciding.{happens, none}
use Rattle.rows.specs.declared.counting.Doing.{Doing}
use Rattle.rows.specs.declared.counting.Doing.TheVariants.{Starting, StartingOrOngoing}
use Rattle.watch.specs.Steps.{digit, digits_from}
use Rattle.rows.specs.Stepping.{means, tally}

-- the event expression for what is meant
abbrev pub expression : Doing → osl.Event → Formula
expression Starting e = osl.First e
expression StartingOrOngoing e = osl.Any e

count-append : (φ : Formula) (xs ys : List IndEvent) → count φ (xs ++ ys) ≡ count φ xs + count φ ys
count-append φ [] ys = sym (zero-add (count φ ys))
count-append φ (x ∷ xs) ys =
    ap (λ n. cond (satisfies? x φ) 1 0 + n) (count-append φ xs ys) ∙ sym (add_assoc (cond (satisfies? x φ) 1 0) (count φ xs) (count φ ys))

count-cond : (φ : Formula) (x : Bool) (xs ys : List IndEvent) → count φ (cond x xs ys) ≡ cond x (count φ xs) (count φ ys)
count-cond φ true xs ys = refl
count-cond φ false xs ys = refl

-- the entries of one event: x and y are whether its digit is 1 and whether it is 2, r is whether it matches
one_start : (r x y : Bool) → cond (r && x) 1 0 ≡ cond x (cond (r && true) 1 0 + 0) (cond y (cond (r && false) 1 0 + 0) 0)
one_start true true y = refl
one_start true false true = refl
one_start true false false = refl
one_start false true y = refl
one_start false false true = refl
one_start false false false = refl

one_any : (r x y : Bool) → cond (r && (x || y)) 1 0 ≡ cond x (cond r 1 0 + 0) (cond y (cond r 1 0 + 0) 0)
one_any true true y = refl
one_any true false true = refl
one_any true false false = refl
one_any false true y = refl
one_any false false true = refl
one_any false false false = refl

count_entries : (w : Doing) (p e : osl.Event) (d : ℕ) → cond (refines? e p && means w d) 1 0 ≡ count (expression w p) (entries e d)
count_entries Starting p e d =
    one_start (refines? e p) (eqb d 1) (eqb d 2) ∙
    sym (count-cond (osl.First p) (eqb d 1) _ _ ∙ ap (λ n. cond (eqb d 1) (cond (refines? e p && true) 1 0 + 0) n) (count-cond (osl.First p) (eqb d 2) _ _))
count_entries StartingOrOngoing p e d =
    one_any (refines? e p) (eqb d 1) (eqb d 2) ∙
    sym (count-cond (osl.Any p) (eqb d 1) _ _ ∙ ap (λ n. cond (eqb d 1) (cond (refines? e p) 1 0 + 0) n) (count-cond (osl.Any p) (eqb d 2) _ _))

pub tally_count :
    (w : Doing) (p : Pattern) (n : ℕ) (es : List declared.Event) (i letter : ℕ) → length es ≤ n →
    tally w (chosen (matches p) n es) (digits_from letter i n) ≡ count (expression w (as_pattern p)) (entries_from i (map as_event es) letter)
tally_count w p zero [] i letter few = refl
tally_count w p zero (e ∷ es) i letter few = absurd (omega arith)
tally_count w p (suc n) [] i letter few =
    zero-add (tally w (chosen (matches p) n []) (digits_from letter (suc i) n)) ∙ tally_count w p n [] (suc i) letter (omega arith)
tally_count w p (suc n) (e ∷ es) i letter few =
    ap₂ (λ (x y : ℕ). x + y)
    (count_entries w (as_pattern p) (as_event e) (digit letter i))
    (tally_count w p n es (suc i) letter (omega arith)) ∙
    sym (count-append (expression w (as_pattern p)) (entries (as_event e) (digit letter i)) (entries_from (suc i) (map as_event es) letter))

-- something happens where its count is not 0
pub happens_count : (φ : Formula) (ies : List IndEvent) → ltb 0 (count φ ies) ≡ happens φ ies
happens_count φ [] = refl
happens_count φ (ie ∷ ies) = go (satisfies? ie φ) (happens_count φ ies)
  where
    go : (b : Bool) → ltb 0 (count φ ies) ≡ happens φ ies → ltb 0 (cond b 1 0 + count φ ies) ≡ (b || happens φ ies)
    go true e = lt-ltb 0 (1 + count φ ies) (omega arith)
    go false e = ap (λ n. ltb 0 n) (zero-add (count φ ies)) ∙ e

-- ## No event of a set is starting or ongoing

none_append : (astray : osl.Event → Bool) (xs ys : List IndEvent) → none astray (xs ++ ys) ≡ (none astray xs && none astray ys)
none_append astray [] ys = refl
none_append astray (x ∷ xs) ys = go (not (astray x.event)) (none_append astray xs ys)
  where
    go : (b : Bool) → none astray (xs ++ ys) ≡ (none astray xs && none astray ys) →
        (b && none astray (xs ++ ys)) ≡ ((b && none astray xs) && none astray ys)
    go true e = e
    go false e = refl

-- one event: r is whether it is astray, x and y are whether its digit is 1 and whether it is 2
one_none : (astray : osl.Event → Bool) (e : osl.Event) (r x y : Bool) → r ≡ astray e →
    not (r && (x || y)) ≡
    none astray (cond x (record { event = e; index = osl.start } ∷ []) (cond y (record { event = e; index = osl.ongoing } ∷ []) []))
one_none astray e true true y is = ap (λ b. not b && true) is
one_none astray e true false true is = ap (λ b. not b && true) is
one_none astray e true false false is = refl
one_none astray e false true y is = ap (λ b. not b && true) is
one_none astray e false false true is = ap (λ b. not b && true) is
one_none astray e false false false is = refl

not_more : (b : Bool) (n : ℕ) → not (ltb 0 (cond b 1 0 + n)) ≡ (not b && not (ltb 0 n))
not_more true n = ap not (lt-ltb 0 (1 + n) (omega arith))
not_more false n = ap (λ (m : ℕ). not (ltb 0 m)) (zero-add n)

pub tally_none :
    (q : declared.Event → Bool) (astray : osl.Event → Bool) (n : ℕ) (es : List declared.Event) (i letter : ℕ) → length es ≤ n →
    AllByRecursion (λ e. q e ≡ astray (as_event e)) es →
    not (ltb 0 (tally StartingOrOngoing (chosen q n es) (digits_from letter i n))) ≡ none astray (entries_from i (map as_event es) letter)
tally_none q astray zero [] i letter few all = refl
tally_none q astray zero (e ∷ es) i letter few all = absurd (omega arith)
tally_none q astray (suc n) [] i letter few all =
    not_more false (tally StartingOrOngoing (chosen q n []) (digits_from letter (suc i) n)) ∙ tally_none q astray n [] (suc i) letter (omega arith) tt
tally_none q astray (suc n) (e ∷ es) i letter few all =
    not_more (q e && means StartingOrOngoing (digit letter i)) (tally StartingOrOngoing (chosen q n es) (digits_from letter (suc i) n)) ∙
    (ap₂ (λ (x y : Bool). x && y)
    (one_none astray (as_event e) (q e) (eqb (digit letter i) 1) (eqb (digit letter i) 2) all.0)
    (tally_none q astray n es (suc i) letter (omega arith) all.1) ∙
    sym (none_append astray (entries (as_event e) (digit letter i)) (entries_from (suc i) (map as_event es) letter)))
