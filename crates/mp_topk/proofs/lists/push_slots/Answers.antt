use Rattle.std.proofs.Common.{arith}
use Rattle.mp_topk.proofs.Listing.{ends, goes_on}
use Rattle.mp_topk.proofs.lists.push_slots.Goals as goal

pub loop-slot-preserved : goal.loop-slot-preserved
loop-slot-preserved g c = goes_on c.loop-slot.slot-index c.loop-slot.list.items c.push_slot.new.list.items _
    c.args.slots.now (omega (arith, c.loop-slot-test.true, c.told-slots)) c.in_ok-push_slot.ensures
    c.loop-slot.invariant

pub returns : goal.returns
returns g c = ends c.loop-slot.slot-index c.loop-slot.list.items _ c.args.slots.now
    (omega (arith, c.loop-slot-test.false, c.told-slots)) c.loop-slot.invariant
