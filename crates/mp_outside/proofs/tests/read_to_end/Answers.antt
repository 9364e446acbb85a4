use Rattle.std.proofs.Common.{drop, append_assoc}
use Rattle.std.proofs.lemmas.List.{take-append-drop}
use Rattle.mp_outside.proofs.tests.read_to_end.Goals as goal

pub loop-preserved : goal.loop-preserved
loop-preserved g c = λ bytes told.
    let before = c.loop.invariant bytes told in
    let first = c.in-Ok.ensures.first before.0 before.1 in
    let items = c.in_ok-extend_from_slice-in-Ok.ensures.items in (
      drop c.in-Ok.count before.0,
      c.in-Ok.ensures.rest before.0 before.1,
      rw (items, first, append_assoc, take-append-drop) before.2,
    )
