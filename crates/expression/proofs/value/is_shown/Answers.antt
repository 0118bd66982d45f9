use Rattle.std.proofs.Common.{◌≡◌, ℕ, ◌<◌, ◌≤◌, Bool, false, Result, Ok, Err, MatchResult, sym, ap, ◌∙◌, arith, rules}
use borrow.Author.Tests.{tests}
use Rattle.std.specs.Result.{OkIff}
use Rattle.watch.specs.Marks.{has}
use Rattle.watch.proofs.Bits.{has_past}
use Rattle.expression.proofs.value.is_shown.Goals as goal

-- Whether a byte passes a test, where no number beyond a byte does.
in_byte : {E : Type 0} (r : Result ℕ E) (Said : ℕ → Type 0) (n : ℕ) (b v : Bool) → OkIff r (n < 256) n → MatchResult r Said (λ _. b ≡ false) → ((x : ℕ) → Said x → x ≡ n → b ≡ v) → (256 ≤ n → v ≡ false) → b ≡ v
in_byte (Ok x) Said n b v is said below past = below x said is.1
in_byte (Err e) Said n b v is said below past = said ∙ sym (past (omega (arith, is)))

pub returns : goal.returns
returns c =
    let set : ℕ = c.args.shown.bits in
    in_byte c.try_from.result _ c.args.term c.is_ok_and.result (has c.args.term set) c.try_from.ensures c.is_ok_and.ensures
    (λ x said e. let of_x : c.is_ok_and.result ≡ has x set = search (rules, tests, said) in of_x ∙ ap (λ (k : ℕ). has k set) e)
    (λ past. has_past 8 c.args.term set (omega arith) (omega (arith, past)))
