use Rattle.std.proofs.Common.{◌≡◌, ℕ, Option, Some, None, Ok, Err, List, sym, refl, ap, ◌∙◌, subst, rules}
use Rattle.std.specs.Option.{ok_or}
use Rattle.std.proofs.lemmas.Bool.{both_ways}
use Rattle.text.specs.Clean.{clean}
use Rattle.text.specs.Lines.{Ends}
use Rattle.text.proofs.Ending.{ends_unended}
use Rattle.expression.specs.Expressions.{formula}
use Rattle.expression.specs.declared.expression.Expression.{Expression}
use Rattle.expression.specs.declared.fault.Fault.{Fault}
use Rattle.expression.specs.declared.fault.Fault.TheVariants.{Form}
use Rattle.expression.proofs.Spelling.{line_writing}
use Rattle.expression.proofs.Wholes.{one_expression, clean_text, line_text, fits}
use Rattle.expression.proofs.expression.Expression.read.Goals as goal

-- What `parse` gave, from what `ok_or` made of it.
none : (o : Option Expression) (x : Fault) → ok_or o Form ≡ Err x → (o ≡ None) × (x ≡ Form)
none None x e = (refl, cc)
none (Some d) x e = absurd (cc)

some : (o : Option Expression) (d : Expression) → ok_or o Form ≡ Ok d → o ≡ Some d
some None d e = absurd (cc)
some (Some b) d e = cc

pub returns-then-not-is_clean-clause-back : goal.returns-then-not-is_clean-clause-back
returns-then-not-is_clean-clause-back c e h =
    let unclean = ap clean (sym c.unended-line.ensures) ∙ (sym c.is_clean.ensures ∙ c.if-not-is_clean.true) in
    absurd (both_ways _ unclean (clean_text e c.args.text.now h))

pub returns-in_err-self-clause-cases : goal.returns-in_err-self-clause-cases
returns-in_err-self-clause-cases c =
    let no = none c.parse.result _ (sym c.ok_or.ensures.value ∙ c.in_err-self.was) in
    let told = rw no.0 at c.parse.ensures in
    let fault : c.from_residual.result ≡ Err Form = search (rules, no) in
    let cleaned = ap clean (sym c.unended-line.ensures) ∙ (sym c.is_clean.ensures ∙ c.if-not-is_clean.false) in
    rw fault ((cleaned, λ f h e. told f h (c.unended-line.ensures ∙ line_writing f h.1 c.args.text.now e)), refl)

pub returns-in_err-self-clause-back : goal.returns-in_err-self-clause-back
returns-in_err-self-clause-back c e h =
    let no = none c.parse.result _ (sym c.ok_or.ensures.value ∙ c.in_err-self.was) in
    let told = rw no.0 at c.parse.ensures in
    absurd (told (formula e) (fits e) (c.unended-line.ensures ∙ line_text e c.args.text.now h))

pub returns-clause-cases : goal.returns-clause-cases
returns-clause-cases c =
    let told = rw (some c.parse.result _ (sym c.ok_or.ensures.value ∙ c.in_ok-self.was)) at c.parse.ensures in
    let cleaned = ap clean (sym c.unended-line.ensures) ∙ (sym c.is_clean.ensures ∙ c.if-not-is_clean.false) in
    (cleaned, subst (λ (l : List ℕ). Ends l c.args.text.now) (sym c.unended-line.ensures ∙ told) (ends_unended c.args.text.now))

pub returns-clause-back : goal.returns-clause-back
returns-clause-back c e h =
    let told = rw (some c.parse.result _ (sym c.ok_or.ensures.value ∙ c.in_ok-self.was)) at c.parse.ensures in
    (refl, one_expression c.in_ok-self.field-0 e (sym told ∙ (c.unended-line.ensures ∙ line_text e c.args.text.now h)))
