use Rattle.std.proofs.Common.{rules, ◌≡◌, ℕ, true, false, sym, set, subst, arith}
use Rattle.std.proofs.Math.Nat.{sub-zero}
use Rattle.std.proofs.Math.Seq.{take-length}
use Rattle.std.specs.List.{list_any}
use Rattle.outlook.specs.Outlooks.{at}
use Rattle.outlook.specs.inner.Tables.{Shared}
use Rattle.outlook.specs.declared.search.Stop.{Stop}
use Rattle.outlook.proofs.Sharing.{some_in, none_in, shared_none, shared_alone, shared_told}
use Rattle.outlook.proofs.tables.share.Goals as goal

-- What the group shares is found of a slice of all its places too: a body that leaves one out is then refused for
-- that place, and not for slicing.
pub returns-then-not-any : goal.returns-then-not-any
returns-then-not-any c =
    let none : list_any (λ (s : Stop). at c.args.table.now s.state.number) c.args.group.now ≡ false = search (rules, take-length, sub-zero) in
    shared_none c.args.group.now c.args.parent c.args.table.now (none_in c.args.table.now c.args.group.now none)

pub returns-in-Some : goal.returns-in-Some
returns-in-Some c =
    let some : list_any (λ (s : Stop). at c.args.table.now s.state.number) c.args.group.now ≡ true = search (rules, take-length, sub-zero) in
    subst (λ (s : ℕ). Shared c.args.group.now c.args.parent c.args.table.now (set c.fill.new.table s true)) (sym c.from.ensures) (shared_told c.args.group.now c.args.parent c.args.table.now (some_in c.args.table.now c.args.group.now some) c.fill.new.table c.fill.ensures c.in-Some.state c.in-Some.is (omega (arith, c.in-Some.state.within, c.fill.array_long)))

pub returns-in_default : goal.returns-in_default
returns-in_default c =
    let some : list_any (λ (s : Stop). at c.args.table.now s.state.number) c.args.group.now ≡ true = search (rules, take-length, sub-zero) in
    shared_alone c.args.group.now c.args.parent c.args.table.now (some_in c.args.table.now c.args.group.now some) c.fill.new.table c.fill.ensures (λ q is. c.in_default.not-Some q is)
