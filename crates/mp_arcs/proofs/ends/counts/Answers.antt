use Rattle.std.proofs.Common.{arith}
use Rattle.mp_arcs.proofs.CountLoop.{AreCounted-none, now_bound, ended_bound, AreCounted-next}
use Rattle.mp_arcs.proofs.ends.counts.Goals as goal

pub loop-place-init : goal.loop-place-init
loop-place-init c indices kept = rw c.in_ok-counts.ensures.items (AreCounted-none indices)

pub overflow_add-passing : goal.overflow_add-passing
overflow_add-passing c =
    let indices = c.requires.0 in
    let kept = c.requires.1 in
    omega (
      arith,
      now_bound indices _ _ _ _ _ kept c.loop-place-test.true (c.loop-place.invariant indices kept),
      c.from.ensures,
      c.type_inv.begun c.loop-place.place,
    )

pub overflow_sub-passing : goal.overflow_sub-passing
overflow_sub-passing c =
    let indices = c.requires.0 in
    let kept = c.requires.1 in
    rw (c.from.ensures, c.from-in-loop-place.ensures)
    (ended_bound indices _ _ _ _ _ kept c.loop-place-test.true (c.loop-place.invariant indices kept))

pub loop-place-preserved : goal.loop-place-preserved
loop-place-preserved c indices kept =
    rw (c.in_ok-push.ensures.items, c.from.ensures, c.from-in-loop-place.ensures)
    (AreCounted-next indices _ _ _ _ _ kept c.loop-place-test.true (c.loop-place.invariant indices kept))
