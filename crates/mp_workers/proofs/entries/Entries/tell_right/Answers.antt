use Rattle.std.proofs.Common.{arith}
use Rattle.mp_workers.proofs.Entering.{right_below, right_told}
use Rattle.mp_workers.proofs.entries.Entries.tell_right.Goals as goal

pub lower-requires-clause-place : goal.lower-requires-clause-place
lower-requires-clause-place c =
    right_below c.args.self.now.series c.loop-place.place c.len-count.result c.min-place-end.result
    c.loop-place-test.true
    (omega (arith, c.min-place-end.ensures)) c.len-count.ensures.count

pub lower-requires-clause-within : goal.lower-requires-clause-within
lower-requires-clause-within c =
    right_told c.args.self.now.series c.args.found.now.right c.len-count.result c.loop-place.place c.right_word.result
    c.requires.within c.len-count.ensures.count
    (omega (arith, c.loop-place-test.true, c.min-place-end.ensures, c.len-count.ensures.count)) c.right_word.ensures
