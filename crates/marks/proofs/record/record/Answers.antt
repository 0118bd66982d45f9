use Rattle.std.proofs.Common.{◌≡◌, length, string_bytes, ◌∙◌, subst, rules}
use Rattle.watch.specs.Following.{Follows}
use Rattle.marks.proofs.Lines.{recorded, all_appeared, ok_kept}
use Rattle.marks.proofs.record.record.Goals as goal

pub returns : goal.returns
returns g c =
    let w = g.W.Watcher.watching c.args.watcher.now in
    let letters = c.args.letters.now in
    let before = c.as_mut_slice-stands.result.now in
    let after = c.follow-followed.new.stands in
    let appeared = c.in_ok-appeared.appeared in
    let room : length before ≡ length letters = search rules in
    let follows = subst (Follows w letters before after) (ok_kept _ c.follow-followed.result appeared c.in_ok-appeared.ensures.cases) c.follow-followed.ensures.followed in (
      follows.0,
      recorded w letters before after appeared (string_bytes c.in_ok-text_of.field-0) room (c.follow-followed.auto.stands ∙ room) follows.1 c.in_ok-text_of.ensures,
      all_appeared w letters before after appeared room follows.1,
    )
