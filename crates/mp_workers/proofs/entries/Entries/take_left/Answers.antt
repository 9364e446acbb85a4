use Rattle.std.proofs.Common.{refl, ◌∙◌, arith}
use Rattle.mp_workers.specs.Entries.{left_of}
use Rattle.mp_workers.specs.EntryLaws.{none_taken}
use Rattle.mp_workers.proofs.Entering.{left_below, left_taken}
use Rattle.mp_workers.proofs.entries.Entries.take_left.Goals as goal

pub loop-place-init : goal.loop-place-init
loop-place-init c = record {
  left = none_taken (left_of c.args.self.now.series) c.args.into.now.left c.requires.within;
  right = refl;
  room = refl;
}

pub find-requires : goal.find-requires
find-requires c =
    left_below c.args.self.now.series c.loop-place.place c.len.result c.min-place-end.result c.loop-place-test.true
    (omega (arith, c.min-place-end.ensures)) c.len.ensures.count

pub loop-place-preserved : goal.loop-place-preserved
loop-place-preserved c =
    let before = c.loop-place.invariant in
    record {
      left = left_taken c.args.self.now.series c.args.into.now.left c.loop-place.into.left _ c.loop-place.place
          c.find.result
          before.left
          (omega (arith, c.loop-place-test.true, c.min-place-end.ensures, c.len.ensures.count)) c.find.ensures
          c.take_left.ensures.left;
      right = c.take_left.ensures.right ∙ before.right;
      room = c.take_left.ensures.room ∙ before.room;
    }
