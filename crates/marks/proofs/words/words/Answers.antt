use Rattle.std.proofs.Common.{◌≡◌, ℕ, ◌+◌, ◌<◌, List, ◌++◌, length, Ok, Err, string_bytes, sym, refl, subst, subst₂, arith}
use Rattle.watch.specs.Following.{Within}
use Rattle.watch.specs.Letters.{letter_count}
use Rattle.expression.specs.Expressions.{formula}
use Rattle.monitor.specs.Plain.{opened}
use Rattle.monitor.specs.inner.Standing.{Represents}
use Rattle.marks.specs.WordTexts.{refused_line, RightText}
use Rattle.marks.proofs.Telling.{Walks, walks_none, walks_more, walks_refused, walks_all}
use Rattle.marks.proofs.words.words.Goals as goal

pub loop-step-init : goal.loop-step-init
loop-step-init g c h =
    let watch = g.W.Watcher.watching in
    let m = c.open-monitor.result in
    let o = c.open-monitor.ensures in
    let v = c.verdict-new.result in
    let stands : Represents (watch m.watcher) (formula m.expression) m opened =
    subst₂ (λ x e. Represents (watch x) (formula e) m opened) (sym o.watcher) (sym o.expression) o.stands in
    walks_none watch m c.args.letters.now (string_bytes c.in_ok-text.text) v.0 v.1 stands c.verdict-new.ensures c.in_ok-text.ensures.ok

pub loop-step-preserved : goal.loop-step-preserved
loop-step-preserved g c h =
    let i : ℕ = c.loop-step.step in
    let letters : List ℕ = c.args.letters.now in
    let text = string_bytes c.loop-step.text in
    let v = c.verdict-word.result in
    let lt : i < length letters = omega arith in
    walks_more g.W.Watcher.watching c.open-monitor.result letters i c.loop-step.monitor text c.loop-step.before (c.loop-step.invariant h) lt (h i lt) c.close_with.new.self (Ok c.in_default.field-0)
    (g.met.W.Watcher.lawful c.open-monitor.result.watcher).few_events c.of.result c.of.ensures.digits c.of.ensures.spells c.in_default.ensures.closes refl c.close_with.ensures.same v.0 v.1 c.verdict-word.ensures _ c.in_ok-write_change.ensures

pub returns-in-Err : goal.returns-in-Err
returns-in-Err g c h =
    let watch = g.W.Watcher.watching in
    let m = c.open-monitor.result in
    let o = c.open-monitor.ensures in
    let i : ℕ = c.loop-step.step in
    let letters : List ℕ = c.args.letters.now in
    let text = string_bytes c.loop-step.text in
    let lt : i < length letters = omega arith in
    let small : Within (letter_count (watch m.watcher).events) letters (length letters) =
    subst (λ x. Within (letter_count (watch x).events) letters (length letters)) (sym o.watcher) h in
    let pushed = subst (λ (n : ℕ). string_bytes c.writeln.new.self ≡ text ++ refused_line n (i + 1)) c.number.ensures c.in_ok-writeln.ensures.bytes in
    subst₂ (λ x e. RightText (watch x) (formula e) letters (string_bytes c.writeln.new.self)) o.watcher o.expression
    (walks_refused watch m letters i c.loop-step.monitor text c.loop-step.before (c.loop-step.invariant small) lt (small i lt) c.close_with.new.self (Err c.in-Err.refusal)
    (g.met.W.Watcher.lawful m.watcher).few_events c.of.result c.of.ensures.digits c.of.ensures.spells c.in-Err.ensures.closes c.in-Err.refusal refl _ pushed)

pub returns : goal.returns
returns g c h =
    let watch = g.W.Watcher.watching in
    let m = c.open-monitor.result in
    let o = c.open-monitor.ensures in
    let n = c.loop-step.monitor in
    let letters : List ℕ = c.args.letters.now in
    let text = string_bytes c.loop-step.text in
    let v = c.verdict-closed.result in
    let end : c.loop-step.step ≡ length letters = omega arith in
    let small : Within (letter_count (watch m.watcher).events) letters (length letters) =
    subst (λ x. Within (letter_count (watch x).events) letters (length letters)) (sym o.watcher) h in
    let walks : Walks (watch m.watcher) (formula m.expression) letters m (length letters) n text c.loop-step.before =
    subst (λ (k : ℕ). Walks (watch m.watcher) (formula m.expression) letters m k n text c.loop-step.before) end (c.loop-step.invariant small) in
    subst₂ (λ x e. RightText (watch x) (formula e) letters (string_bytes c.writeln-2.new.self)) o.watcher o.expression
    (walks_all watch m letters n text c.loop-step.before walks v.0 v.1 c.verdict-closed.ensures _ c.in_ok-writeln-2.ensures.bytes)
