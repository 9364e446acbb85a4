use Rattle.std.proofs.Common.{sym}
use Rattle.mp_chains.proofs.Columns.{GoesOn-successor, chain_from-step, chain_from-more}
use Rattle.mp_chains.proofs.chains.anchored.Goals as goal

pub loop-next-init : goal.loop-next-init
loop-next-init c = record {
  within = c.requires.start;
  is = rw (c.in_ok-push.ensures.ok, c.new-chain.ensures.items)
      (chain_from-step _ _ _ c.requires.columns c.requires.start);
}

pub loop-next-preserved : goal.loop-next-preserved
loop-next-preserved c =
    let is = sym c.in-Some.ensures in
    let before = c.loop-next.invariant in
    let last = c.loop-next.last in
    let next = c.in-Some.next in
    let more = chain_from-more _ _ c.args.j last next _ c.requires.columns before.within is before.is in
    record {
      within = (GoesOn-successor _ _ c.requires.columns last next is).1;
      is = rw c.in_ok-push-2.ensures.ok more;
    }
