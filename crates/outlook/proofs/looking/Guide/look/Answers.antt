use Rattle.std.proofs.Common.{◌<◌, ◌∙◌, arith}
use Rattle.watch.specs.Letters.{letter_count}
use Rattle.outlook.specs.inner.Changes.{cursor}
use Rattle.outlook.proofs.Beginning.{few_letters}
use Rattle.outlook.proofs.Following.{look_room, look_new, look_gone, look_back}
use Rattle.outlook.proofs.looking.Guide.look.Goals as goal

pub take_letter-letter-requires : goal.take_letter-letter-requires
take_letter-letter-requires g c =
    let w = g.W.Watcher.watching c.args.self.now.watcher.now in
    let law = g.met.W.Watcher.lawful c.args.self.now.watcher.now in
    omega (arith, c.requires.more, c.args.self.now.all, few_letters w law)

pub push-requires : goal.push-requires
push-requires g c =
    let w = g.W.Watcher.watching c.args.self.now.watcher.now in
    let law = g.met.W.Watcher.lawful c.args.self.now.watcher.now in
    let more : cursor c.args.search.now c.args.state.number < letter_count w.events = omega (arith, c.requires.more, c.args.self.now.all) in
    let took = c.take_letter-letter in
    let fits = look_room w law c.args.self.now.good.now c.args.search.now c.requires.goes c.args.state c.requires.looked more took.result took.ensures.letter took.new.self took.ensures.after c.next-next.result c.next-next.ensures c.standing.result c.standing.ensures c.in-New.is in
    record { room = fits.0; few = fits.1 }

pub returns-in-New : goal.returns-in-New
returns-in-New g c =
    let w = g.W.Watcher.watching c.args.self.now.watcher.now in
    let law = g.met.W.Watcher.lawful c.args.self.now.watcher.now in
    let more : cursor c.args.search.now c.args.state.number < letter_count w.events = omega (arith, c.requires.more, c.args.self.now.all) in
    let took = c.take_letter-letter in
    look_new w law c.args.self.now.good.now c.args.search.now c.requires.goes c.args.state c.requires.looked more took.result took.ensures.letter took.new.self took.ensures.after c.next-next.result c.next-next.ensures c.standing.result c.standing.ensures c.in-New.is c.push.new.self c.push.ensures

pub returns-in-At : goal.returns-in-At
returns-in-At g c =
    let w = g.W.Watcher.watching c.args.self.now.watcher.now in
    let law = g.met.W.Watcher.lawful c.args.self.now.watcher.now in
    let more : cursor c.args.search.now c.args.state.number < letter_count w.events = omega (arith, c.requires.more, c.args.self.now.all) in
    let took = c.take_letter-letter in
    look_back w law c.args.self.now.good.now c.args.search.now c.requires.goes c.args.state c.requires.looked more took.result took.ensures.letter took.new.self took.ensures.after c.next-next.result c.next-next.ensures c.standing.result c.standing.ensures c.in-At.back c.in-At.is c.from.result (c.from.ensures ∙ c.shown-marks.ensures) c.note.new.self c.note.ensures c.join.new.self c.join.ensures.joined c.join.ensures.until

pub returns-in-Gone : goal.returns-in-Gone
returns-in-Gone g c =
    let w = g.W.Watcher.watching c.args.self.now.watcher.now in
    let law = g.met.W.Watcher.lawful c.args.self.now.watcher.now in
    let more : cursor c.args.search.now c.args.state.number < letter_count w.events = omega (arith, c.requires.more, c.args.self.now.all) in
    let took = c.take_letter-letter in
    look_gone w law c.args.self.now.good.now c.args.search.now c.requires.goes c.args.state c.requires.looked more took.result took.ensures.letter took.new.self took.ensures.after c.next-next.result c.next-next.ensures c.standing.result c.standing.ensures c.in-Gone.is c.absorb.new.self c.absorb.ensures
