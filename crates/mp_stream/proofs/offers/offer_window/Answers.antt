use Rattle.std.proofs.Common.{◌∙◌, ap, get_or}
use Rattle.std.specs.Prelude.{None}
use Rattle.mp_stream.specs.Limits.{coarse_limit}
use Rattle.mp_stream.proofs.Taken.{ready_one, when_less}
use Rattle.mp_stream.proofs.offers.offer_window.Goals as goal

pub returns-then-is_free-clause-ready : goal.returns-then-is_free-clause-ready
returns-then-is_free-clause-ready c =
    ready_one coarse_limit c.args.j c.args.i c.args.sum c.coarse_limit-limit.result c.args.entries.now _
    c.requires.order c.requires.ready c.offer.ensures.first
    (c.offer.ensures.right ∙ when_less c.args.i c.args.j _ _ c.requires.order)
    (c.coarse_limit-limit.ensures.limit ∙ ap (λ list. coarse_limit (get_or list c.args.i None)) c.right.ensures)
    c.set_limit.ensures.items
