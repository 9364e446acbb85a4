use Rattle.std.proofs.Common.{◌<◌, ◌++◌, ◌∷◌, [], ◌∙◌, ap, arith, length}
use Rattle.std.specs.Prelude.{None}
use Rattle.std.proofs.lemmas.List.{get_or_default}
use Rattle.mp_topk.specs.Ranking.{those_in}
use Rattle.mp_topk.proofs.Listing.{ends, goes_on}
use Rattle.mp_topk.proofs.compact_lists.compact_list_of.Goals as goal

pub loop-slot-preserved : goal.loop-slot-preserved
loop-slot-preserved g c =
    let lt : c.loop-slot.slot-index < length c.args.slots.now = omega (arith, c.loop-slot-test.true, c.told-slots) in
    goes_on c.loop-slot.slot-index c.loop-slot.list.items c.push_slot.new.list.items _ c.args.slots.now lt
    (c.in_ok-push_slot.ensures
    ∙ ap (λ slot. c.loop-slot.list.items ++ those_in (slot ∷ []))
    (c.slot.ensures ∙ get_or_default c.args.slots.now c.loop-slot.slot-index _ None lt))
    c.loop-slot.invariant

pub returns : goal.returns
returns g c = ends c.loop-slot.slot-index c.loop-slot.list.items _ c.args.slots.now
    (omega (arith, c.loop-slot-test.false, c.told-slots)) c.loop-slot.invariant
