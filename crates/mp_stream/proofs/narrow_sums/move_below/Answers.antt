use Rattle.std.proofs.Common.{◌≡◌, ◌∙◌, ◌-◌, ◌≤◌, get_or, length, refl, arith, below_more, sym}
use Rattle.mp_stream.specs.Moves.{moved_by}
use Rattle.mp_stream.proofs.Moving.{are_read, below_tells, can_step_read, enter_close, leave_close, moved_behind}
use Rattle.mp_stream.proofs.Moving.{next_read}
use Rattle.mp_stream.proofs.Steps.{set_more}
use Rattle.mp_stream.proofs.narrow_sums.move_below.Goals as goal

pub next_sum-sum-requires : goal.next_sum-sum-requires
next_sum-sum-requires c =
    let moves = c.args.moves.now in
    let i = c.loop-i.i - 1 in
    let read = are_read moves.enters.now moves.leaves.now (length moves.before.now) i
    (length moves.before.now - 1) _ _ _ _
    c.index-moves-i.result c.index-moves-i-in-loop-i.result c.index-moves-last.result c.index-moves-last-2.result
    moves.can.enter moves.can.leave refl (omega arith) refl refl refl refl in
    record {
      can = can_step_read _ _ _ _ i _ _ _ _ read (moves.can.steps i (omega arith));
      enters = enter_close _ _ _ i _ _ _ _ read (moves.close.entering i (omega (arith, moves.can.enter)));
      leaves = leave_close _ _ _ i _ _ _ _ read (moves.close.leaving i (omega (arith, moves.can.leave)));
    }

pub loop-i-preserved : goal.loop-i-preserved
loop-i-preserved c =
    let i = c.loop-i.i in
    let moves = c.args.moves.now in
    let read = are_read moves.enters.now moves.leaves.now (length moves.before.now) (i - 1)
    (length moves.before.now - 1) _ _ _ _ c.index-moves-i.result c.index-moves-i-in-loop-i.result
    c.index-moves-last.result c.index-moves-last-2.result moves.can.enter moves.can.leave refl (omega arith) refl refl
    refl refl in
    let here : c.next_sum-sum.result ≡ moved_by moves i =
    next_read moves.before.now moves.enters.now moves.leaves.now (i - 1) _ _ _ _ c.next_sum-sum.result read
    c.next_sum-sum.ensures
    ∙ sym (moved_behind moves.first moves.before.now moves.enters.now moves.leaves.now i (omega arith)) in
    record {
      done = set_more 0 (λ q s. s ≡ moved_by moves q) c.loop-i.sums i c.next_sum-sum.result (omega arith)
          c.loop-i.invariant.done here;
      above = λ small. below_more
          (λ q. c.args.first ≤ q → (get_or c.args.limits.now q 0 ≤ moved_by moves q) × (c.args.best ≤ moved_by moves q))
          i
          (c.loop-i.invariant.above (omega (arith, small, c.either-below.ensures.a)))
          (λ from.
          let limit = below_tells c.next_sum-sum.result (get_or c.args.limits.now i 0) c.next_sum-sum.type_inv
          (c.requires.small_limits i (omega arith))
          (omega (arith, small, c.either-below.ensures.b, c.either-nearer.ensures.a)) in
          let best = below_tells c.next_sum-sum.result c.args.best c.next_sum-sum.type_inv c.requires.small_best
          (omega (arith, small, c.either-below.ensures.b, c.either-nearer.ensures.b)) in
          (omega (arith, limit, here), omega (arith, best, here)));
    }
