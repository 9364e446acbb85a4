use Rattle.std.proofs.Common.{◌++◌, [], ◌∷◌, take, arith, ap, sym, ◌∙◌}
use Rattle.std.specs.Prelude.{None}
use Rattle.std.proofs.lemmas.List.{take_more, take_all}
use Rattle.mp_workers.specs.Entries.{right_of}
use Rattle.mp_workers.proofs.Entering.{right_count}
use Rattle.mp_workers.proofs.SlotTelling.{right_slot, right_there}
use Rattle.mp_workers.proofs.entries.Entries.put_right.Goals as goal

pub slot-requires-clause-place : goal.slot-requires-clause-place
slot-requires-clause-place c =
    right_there c.args.self.now.series c.loop-place.place c.len-count.result c.loop-place-test.true
    c.len-count.ensures.count

pub loop-place-preserved : goal.loop-place-preserved
loop-place-preserved c =
    let s = c.args.self.now.series in
    let xs = right_of s in
    let place = c.loop-place.place in
    let before = c.loop-place.invariant in
    let count = c.len-count.ensures.count in
    let slot = c.slot.ensures.slot ∙ right_slot s place c.len-count.result count in
    record {
      items = (rw c.unwrap.ensures at c.push.ensures.ok) ∙ ap (λ items. items ++ c.slot.result ∷ []) before.items
          ∙ ap (λ x. take place xs ++ x ∷ []) slot
          ∙ sym (take_more xs place None (omega (arith, c.loop-place-test.true, count, right_count s)));
      room = omega (arith, c.push.ensures.spare, before.room);
      hold = c.slot.ensures.hold;
      whole = c.slot.ensures.whole;
    }

pub returns-clause-column : goal.returns-clause-column
returns-clause-column c =
    let s = c.args.self.now.series in
    c.loop-place.invariant.items
    ∙ take_all c.loop-place.place (right_of s)
    (omega (arith, c.loop-place-test.false, c.len-count.ensures.count, right_count s))
