-- The monitor along the letters, and the lines of its words. Assumes nothing.
use Rattle.std.proofs.Common.{◌≡◌, ℕ, zero, suc, ◌+◌, ◌^◌, ◌<◌, ◌≤◌, min, cond, ltb, leb, List, [], ◌∷◌, ◌++◌, length, get_or, take, is_ok, Ok, Err, Result, sym, refl, ap, ◌∙◌, subst, ap₂, subst₂, ⊎_elim, add-one, arith}
use Rattle.std.proofs.Math.Nat.{pow-le-pow_right}
use Rattle.std.proofs.lemmas.List.{take_more, length-take-le}
use Rattle.std.proofs.lemmas.Bool.{cases_lt, cond-true, cond-false, le-leb, lt-leb, lt-ltb, le-ltb}
use Rattle.watch.specs.Letters.{digits, letter_count, most_events}
use Rattle.watch.specs.Steps.{digits_of, spelt, step_digits}
use Rattle.watch.specs.declared.step.Step.{Step}
use Rattle.watch.proofs.Spelling.{within_letter}
use Rattle.watch.specs.Watchers.{Watching}
use Rattle.expression.specs.Formulas.{Formula}
use Rattle.expression.specs.Expressions.{formula}
use Rattle.monitor.specs.Plain.{Plain, opened, close_answer, most_closed}
use Rattle.monitor.specs.Closing.{kept_notes, after_step, ClosesWith}
use Rattle.monitor.specs.Refusals.{refusal_number}
use Rattle.monitor.specs.Words.{RightWord}
use Rattle.monitor.specs.inner.Standing.{Represents, Same}
use Rattle.monitor.specs.declared.monitor.Monitor.{Monitor}
use Rattle.monitor.specs.declared.refusal.Refusal.{Refusal}
use Rattle.monitor.specs.declared.refusal.Refusal.TheVariants.{Steps}
use Rattle.monitor.specs.declared.word.Word.{Word}
use Rattle.marks.specs.WordTexts.{new_line, change_line, closed_line, refused_line, word_lines, last_line, RightText}

-- The text so far is that of the right words of the first n steps, and the last of them is `last`.
pub record Told (w : Watching) (f : Formula) (letters : List ℕ) (n : ℕ) (text : List ℕ) (last : Word) : Type 0 where
  pub word : ℕ → Word
  pub right : (k : ℕ) → k ≤ n → RightWord w f (take k letters) (word k)
  pub is : text ≡ word_lines word n
  pub last_is : last ≡ word n

pub told_none : (w : Watching) (f : Formula) (letters text : List ℕ) (new : Word) → RightWord w f [] new → text ≡ new_line new → Told w f letters 0 text new
told_none w f letters text new right is = record {
  word = λ _. new;
  right = λ k le. subst (λ (n : ℕ). RightWord w f (take n letters) new) (let z : 0 ≡ k = omega arith in z) right;
  is = is;
  last_is = refl;
}

same_words : (u v : ℕ → Word) (n : ℕ) → ((k : ℕ) → k ≤ n → u k ≡ v k) → word_lines u n ≡ word_lines v n
same_words u v zero h = ap new_line (h 0 (omega arith))
same_words u v (suc n) h =
    λ i. same_words u v n (λ k le. h k (omega arith)) i ++ change_line n (h n (omega arith) i) (h (suc n) (omega arith) i)

module _ (w : Watching) (f : Formula) (letters : List ℕ) (n : ℕ) (text : List ℕ) (before : Word) (x : Told w f letters n text before) (new : Word) where
  -- The words so far, and the new one behind them.
  abbrev further : ℕ → Word
  further k = cond (leb k n) (x.word k) new

  as_before : (k : ℕ) → k ≤ n → further k ≡ x.word k
  as_before k le = cond-true (leb k n) _ _ (le-leb k n le)

  new_one : further (suc n) ≡ new
  new_one = cond-false (leb (suc n) n) _ _ (lt-leb (suc n) n (omega arith))

  told-suc : RightWord w f (take (suc n) letters) new → Told w f letters (suc n) (text ++ change_line n before new) new
  told-suc right = record {
    word = further;
    right = λ k le.
        ⊎_elim
        (λ (lt : k < suc n). subst (RightWord w f (take k letters)) (sym (as_before k (omega arith))) (x.right k (omega arith)))
        (λ (past : suc n ≤ k). subst (λ (m : ℕ). RightWord w f (take m letters) (further m)) (let z : suc n ≡ k = omega arith in z) (subst (RightWord w f (take (suc n) letters)) (sym new_one) right))
        (cases_lt k (suc n));
    is = (λ i. (x.is ∙ same_words x.word further n (λ k le. sym (as_before k le))) i ++ ap₂ (change_line n) (x.last_is ∙ sym (as_before n (omega arith))) (sym new_one) i);
    last_is = sym new_one;
  }

-- How the monitor, its words and the text stand after n letters; m is the monitor as it was opened.
pub record Walks {W : Type 0} (w : Watching) (f : Formula) (letters : List ℕ) (m : Monitor W) (n : ℕ) (here : Monitor W) (text : List ℕ) (last : Word) : Type 0 where
  pub same : Same m here
  pub within : n ≤ most_closed
  pub stands : Represents w f here (record { closed = take n letters; notes = [] })
  pub told : Told w f letters n text last

-- What a verdict says.
abbrev pub Says : {W : Type 0} → Watching → Formula → Monitor W → Word → ℕ → Type 0
Says w f m word count =
    (plain : Plain) → Represents w f m plain → (count ≡ length plain.closed) × RightWord w f plain.closed word

module _ {W : Type 0} (watch : W → Watching) (m : Monitor W) (letters : List ℕ) where
  abbrev w : Watching
  w = watch m.watcher

  abbrev f : Formula
  f = formula m.expression

  moved : (n : Monitor W) (word : Word) (c : ℕ) → Same m n → Says (watch n.watcher) (formula n.expression) n word c → Says w f n word c
  moved n word c same says = subst₂ (λ v e. Says (watch v) (formula e) n word c) same.watcher same.expression says

  pub walks_none : (text : List ℕ) (new : Word) (count : ℕ) → Represents w f m opened → Says w f m new count → text ≡ new_line new
      → Walks w f letters m 0 m text new
  walks_none text new count stands says is = record {
    same = record { watcher = refl; expression = refl };
    within = omega arith;
    stands = stands;
    told = told_none w f letters text new (says opened stands).1 is;
  }

  module _ (i : ℕ) (n : Monitor W) (text : List ℕ) (before : Word) (x : Walks w f letters m i n text before) (lt : i < length letters) (small : get_or letters i 0 < letter_count w.events) (k : Monitor W) (r : Result (Unit {0}) Refusal)
      (few : w.events ≤ most_events) (step : Step) (of : step_digits step ≡ digits_of (get_or letters i 0)) (spells : get_or letters i 0 < letter_count most_events → spelt (step_digits step) ≡ get_or letters i 0)
      (closes : ClosesWith (watch n.watcher) (formula n.expression) n step r k) where
    abbrev a : ℕ
    a = get_or letters i 0

    abbrev here : Plain
    here = record { closed = take i letters; notes = [] }

    letter : spelt (step_digits step) ≡ a
    letter = let more : digits ^ w.events ≤ digits ^ most_events = pow-le-pow_right {n = digits} (omega arith) few in spells (omega arith)

    answers : (r ≡ close_answer here) × Represents w f k (after_step (take i letters) step)
    answers =
        let does : ClosesWith w f n step r k = subst₂ (λ v e. ClosesWith (watch v) (formula e) n step r k) x.same.watcher x.same.expression closes in
        does (take i letters) (within_letter a w.events step of small) x.stands

    count : length (take i letters) ≡ i
    count = length-take-le i letters (omega arith)

    -- A letter that was taken.
    module _ (taken : r ≡ Ok tt) where
      taken_room : i < most_closed
      taken_room =
          ⊎_elim (λ lt. lt) (λ le. absurd (let h = full le in let b = answers.0 in let z : ◌≡◌ {A = ℕ} 0 1 = cc in omega arith)) (cases_lt i most_closed)
        where
          full : most_closed ≤ i → close_answer here ≡ Err Steps
          full le = cond-false _ _ _ (ap (λ (c : ℕ). ltb c most_closed) count ∙ le-ltb i most_closed le)

      stands_more : Represents w f k (record { closed = take (suc i) letters; notes = [] })
      stands_more =
          let ok : close_answer here ≡ Ok tt = sym answers.0 ∙ taken in
          let longer : take (suc i) letters ≡ take i letters ++ (a ∷ []) = ap (λ (j : ℕ). take j letters) (sym (add-one i)) ∙ take_more letters i 0 lt in
          subst (λ (l : List ℕ). Represents w f k (record { closed = l; notes = [] })) (sym longer)
          (subst (λ (n : ℕ). Represents w f k (record { closed = take i letters ++ n ∷ []; notes = [] })) letter
          (subst (Represents w f k) (ap (λ (z : Result (Unit {0}) Refusal). cond (is_ok z) (record { closed = take i letters ++ spelt (step_digits step) ∷ []; notes = [] }) (record { closed = take i letters; notes = kept_notes 0 step.kinds })) ok) answers.1))

      pub walks_more : Same n k → (new : Word) (c : ℕ) → Says (watch k.watcher) (formula k.expression) k new c
          → (later : List ℕ) → later ≡ text ++ change_line i before new → Walks w f letters m (i + 1) k later new
      walks_more same new c says later pushed =
          let kept : Same m k = record { watcher = same.watcher ∙ x.same.watcher; expression = same.expression ∙ x.same.expression } in
          let right : RightWord w f (take (suc i) letters) new =
          (moved k new c kept says _ stands_more).1 in
          subst₂ (λ (j : ℕ) (t : List ℕ). Walks w f letters m j k t new) (sym (add-one i)) (sym pushed)
          (record {
            same = kept;
            within = taken_room;
            stands = stands_more;
            told = told-suc w f letters i text before x.told new right;
          })

    -- A letter that was refused: there is no room for it, and the text ends with the refusal.
    pub walks_refused : (why : Refusal) → r ≡ Err why → (later : List ℕ) → later ≡ text ++ refused_line (refusal_number why) (i + 1)
        → RightText w f letters later
    walks_refused why fails later pushed =
        let full : i ≡ most_closed = omega (arith, room, x.within) in
        let upto : min (length letters) most_closed ≡ i = omega (arith, full, lt) in
        let last : refused_line (refusal_number why) (i + 1) ≡ last_line (length letters) =
        ap₂ refused_line (ap refusal_number steps) (ap (λ (j : ℕ). j + 1) full) ∙ sym (cond-false (leb (length letters) most_closed) _ _ (lt-leb _ _ (omega (arith, full, lt)))) in
        record {
          word = x.told.word;
          right = λ j le. x.told.right j (omega (arith, upto, le));
          is = pushed ∙ (λ z. (x.told.is ∙ ap (word_lines x.told.word) (sym upto)) z ++ last z);
        }
      where
        refuses : close_answer here ≡ Err why
        refuses = sym answers.0 ∙ fails

        room : most_closed ≤ i
        room =
            ⊎_elim
            (λ (free : i < most_closed). absurd (let h : close_answer here ≡ Ok tt = cond-true _ _ _ (ap (λ (c : ℕ). ltb c most_closed) count ∙ lt-ltb i most_closed free) in let q = refuses in let z : ◌≡◌ {A = ℕ} 0 1 = cc in omega arith))
            (λ le. le)
            (cases_lt i most_closed)

        steps : why ≡ Steps
        steps = let h : close_answer here ≡ Err Steps = cond-false _ _ _ (ap (λ (c : ℕ). ltb c most_closed) count ∙ le-ltb i most_closed room) in let q = refuses in cc

  -- Every letter was taken.
  pub walks_all : (n : Monitor W) (text : List ℕ) (last : Word) → Walks w f letters m (length letters) n text last
      → (word : Word) (c : ℕ) → Says (watch n.watcher) (formula n.expression) n word c
      → (later : List ℕ) → later ≡ text ++ closed_line c → RightText w f letters later
  walks_all n text last x word c says later pushed =
      let all : min (length letters) most_closed ≡ length letters = omega (arith, x.within) in
      let count : c ≡ length letters =
      (moved n word c x.same says _ x.stands).0 ∙ length-take-le (length letters) letters (omega arith) in
      let ends : closed_line c ≡ last_line (length letters) =
      ap closed_line count ∙ sym (cond-true (leb (length letters) most_closed) _ _ (le-leb _ _ x.within)) in
      record {
        word = x.told.word;
        right = λ j le. x.told.right j (omega (arith, all, le));
        is = pushed ∙ (λ z. (x.told.is ∙ ap (word_lines x.told.word) (sym all)) z ++ ends z);
      }
