use Rattle.std.proofs.Common.{◌-◌, arith, ap, ◌∙◌, sym, take, drop}
use Rattle.std.proofs.lemmas.List.{length-take}
use Rattle.mp_feed.specs.Feeding.{used_of}
use Rattle.mp_feed.specs.Reading.{Reading}
use Rattle.mp_feed.proofs.ReadLemmas.{unread_after}
use Rattle.mp_feed.proofs.readers.LineReader.feed_on.Goals as goal

pub returns-clause-unread : goal.returns-clause-unread
returns-clause-unread c =
    let is = ap (λ (r : Reading). r.unread) c.self.view_is in
    unread_after c.self.inside.from c.self.inside.to c.feed-fed.result.used c.self.inside.buffer.items
    c.args.self.now.unread (sym is)
    (c.feed-fed.ensures.used
    ∙ (ap (λ items. used_of (take (c.self.inside.to - c.self.inside.from) (drop c.self.inside.from items)))
    c.deref.ensures.value
    ∙ ap used_of is))
    (omega (
      arith,
      c.feed-fed.ensures.within,
      length-take (c.self.inside.to - c.self.inside.from) (drop c.self.inside.from c.deref.result.now),
    ))
