use Rattle.std.proofs.Common.{◌≡◌, ◌++◌, [], ◌∷◌, length, take, get_or, arith, ap, sym, ◌∙◌}
use Rattle.std.specs.Prelude.{None}
use Rattle.std.proofs.lemmas.List.{take_more, take_all}
use Rattle.std.proofs.lemmas.Simd.{get_or-zip2, length-zip2}
use Rattle.mp_nums.specs.Near.{nearer_of}
use Rattle.mp_partial.specs.Values.{merged_column}
use Rattle.mp_workers.specs.Entries.{left_of, right_of}
use Rattle.mp_workers.proofs.Entering.{left_count, right_count}
use Rattle.mp_workers.proofs.SlotTelling.{left_slot, left_there, right_slot, right_there}
use Rattle.mp_workers.proofs.entries.Entries.put_nearer.Goals as goal

pub slot-left-requires-clause-place : goal.slot-left-requires-clause-place
slot-left-requires-clause-place c =
    left_there c.args.self.now.series c.loop-place.place c.len-count.result c.loop-place-test.true
    c.len-count.ensures.count

pub slot-right-requires-clause-place : goal.slot-right-requires-clause-place
slot-right-requires-clause-place c =
    right_there c.args.self.now.series c.loop-place.place c.len-count.result c.loop-place-test.true
    c.len-count.ensures.count

pub loop-place-preserved : goal.loop-place-preserved
loop-place-preserved c =
    let s = c.args.self.now.series in
    let left = left_of s in
    let right = right_of s in
    let both = merged_column left right in
    let place = c.loop-place.place in
    let before = c.loop-place.invariant in
    let end = c.len-count.result in
    let count = c.len-count.ensures.count in
    let same : length right ≡ length left = right_count s ∙ sym (left_count s) in
    let places : length both ≡ length left = length-zip2 nearer_of left right (sym same) in
    let lt = c.loop-place-test.true in
    let nearer : c.nearer.result ≡ get_or both place None =
    c.nearer.ensures
    ∙ ap (λ slot. nearer_of slot c.slot-right.result) (c.slot-left.ensures.slot ∙ left_slot s place end lt count)
    ∙ ap (nearer_of (get_or left place None)) (c.slot-right.ensures.slot ∙ right_slot s place end count)
    ∙ sym (get_or-zip2 nearer_of left right place None None None (omega (arith, lt, count, left_count s))
    (omega (arith, lt, count, right_count s))) in
    record {
      items = (rw c.unwrap.ensures at c.push.ensures.ok) ∙ ap (λ items. items ++ c.nearer.result ∷ []) before.items
          ∙ ap (λ x. take place both ++ x ∷ []) nearer
          ∙ sym (take_more both place None (omega (arith, lt, count, places, left_count s)));
      room = omega (arith, c.push.ensures.spare, before.room);
      hold = c.slot-right.ensures.hold;
      whole = c.slot-right.ensures.whole;
    }

pub returns-clause-column : goal.returns-clause-column
returns-clause-column c =
    let s = c.args.self.now.series in
    let left = left_of s in
    let right = right_of s in
    let same : length right ≡ length left = right_count s ∙ sym (left_count s) in
    let places : length (merged_column left right) ≡ length left = length-zip2 nearer_of left right (sym same) in
    c.loop-place.invariant.items
    ∙ take_all c.loop-place.place (merged_column left right)
    (omega (arith, c.loop-place-test.false, c.len-count.ensures.count, places, left_count s))
