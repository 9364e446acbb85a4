use Rattle.std.proofs.Common.{arith}
use Rattle.mp_workers.proofs.Entering.{left_below, left_told}
use Rattle.mp_workers.proofs.entries.Entries.tell_left.Goals as goal

pub lower-requires-clause-place : goal.lower-requires-clause-place
lower-requires-clause-place c =
    left_below c.args.self.now.series c.loop-place.place c.len.result c.min-place-end.result c.loop-place-test.true
    (omega (arith, c.min-place-end.ensures)) c.len.ensures.count

pub lower-requires-clause-within : goal.lower-requires-clause-within
lower-requires-clause-within c =
    left_told c.args.self.now.series c.args.found.now.left c.loop-place.place c.left_word.result c.requires.within
    (omega (arith, c.loop-place-test.true, c.min-place-end.ensures, c.len.ensures.count)) c.left_word.ensures
