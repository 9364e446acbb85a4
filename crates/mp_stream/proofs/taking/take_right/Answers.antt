use Rattle.std.proofs.Common.{◌≡◌, ◌∙◌, ap, arith, get_or}
use Rattle.mp_defs.specs.Least.{near_at}
use Rattle.mp_partial.specs.Values.{offered}
use Rattle.mp_stream.specs.Blocks.{numbered}
use Rattle.mp_stream.specs.Limits.{limit_of}
use Rattle.mp_stream.proofs.Taken.{limit_less, ready_one, same_right, when_less}
use Rattle.mp_stream.proofs.taking.take_right.Goals as goal

pub returns-else-sum-as_slice-clause-right : goal.returns-else-sum-as_slice-clause-right
returns-else-sum-as_slice-clause-right c =
    same_right c.args.j c.args.i c.args.sum c.args.entries.now c.requires.order c.requires.small c.requires.ready
    (omega (arith, ap (λ list. get_or list c.args.i 0) c.as_slice.ensures))

pub returns-then-sum-as_slice-clause-ready : goal.returns-then-sum-as_slice-clause-ready
returns-then-sum-as_slice-clause-ready c =
    let old = c.args.entries.now in
    let number = numbered old.profile.first c.args.j in
    let right : c.offer.new.self.right ≡ offered old.profile.right c.args.i (near_at number c.args.sum) =
    c.offer.ensures.right ∙ when_less c.args.i c.args.j _ _ c.requires.order
    ∙ ap (λ d. offered old.profile.right c.args.i (near_at number d)) c.from.ensures in
    ready_one limit_of c.args.j c.args.i c.args.sum c.args.sum old _ c.requires.order c.requires.ready
    c.offer.ensures.first right
    (limit_less c.args.j c.args.i c.args.sum old c.as_slice.result.now _ c.requires.order c.requires.small
    c.requires.ready c.as_slice.ensures (omega arith) right) c.set_limit.ensures.items
