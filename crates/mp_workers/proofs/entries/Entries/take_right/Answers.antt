use Rattle.std.proofs.Common.{refl, ◌∙◌, arith}
use Rattle.mp_workers.specs.Entries.{right_of}
use Rattle.mp_workers.specs.EntryLaws.{none_taken}
use Rattle.mp_workers.proofs.Entering.{right_below, right_taken}
use Rattle.mp_workers.proofs.entries.Entries.take_right.Goals as goal

pub loop-place-init : goal.loop-place-init
loop-place-init c = record {
  left = refl;
  right = none_taken (right_of c.args.self.now.series) c.args.into.now.right c.requires.within;
  room = refl;
}

pub find-requires : goal.find-requires
find-requires c =
    right_below c.args.self.now.series c.loop-place.place c.len-count.result c.min-place-end.result
    c.loop-place-test.true
    (omega (arith, c.min-place-end.ensures)) c.len-count.ensures.count

pub loop-place-preserved : goal.loop-place-preserved
loop-place-preserved c =
    let before = c.loop-place.invariant in
    record {
      left = c.take_right.ensures.left ∙ before.left;
      right = right_taken c.args.self.now.series c.args.into.now.right c.loop-place.into.right _ c.len-count.result
          c.loop-place.place c.find.result before.right c.len-count.ensures.count c.find.ensures
          c.take_right.ensures.right;
      room = c.take_right.ensures.room ∙ before.room;
    }
