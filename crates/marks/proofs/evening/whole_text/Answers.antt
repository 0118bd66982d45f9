use Rattle.std.proofs.Common.{◌≡◌, ℕ, List, ◌++◌, Ok, string_bytes, sym, subst}
use Rattle.marks.specs.Evenings.{Evening}
use Rattle.marks.proofs.evening.whole_text.Goals as goal

pub returns : goal.returns
returns g c =
    let w = g.W.Watcher.watching c.args.watcher in
    let recorded = c.in_ok-text.ensures in
    subst (Evening w c.args.letters.now (Ok c.push_str.new.self)) (sym c.in-Some.is)
    (record {
      recorded = c.in_ok-text.text;
      records = recorded;
      words = string_bytes c.in_ok-words.words;
      right = c.in_ok-words.ensures recorded.0;
      is = subst (λ (l : List ℕ). string_bytes c.push_str.new.self ≡ string_bytes c.in_ok-text.text ++ l) c.as_str.ensures.value c.in_ok-push_str.ensures.bytes;
    })
