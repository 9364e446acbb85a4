use Rattle.std.proofs.Common.{◌≡◌, ◌∙◌, ◌-◌, length, refl, arith, sym}
use Rattle.mp_stream.specs.Moves.{moved_by}
use Rattle.mp_stream.proofs.Moving.{are_read, can_step_read, enter_close, leave_close, moved_behind, next_read}
use Rattle.mp_stream.proofs.Steps.{set_more}
use Rattle.mp_stream.proofs.narrow_sums.move_rest.Goals as goal

pub next_sum-requires : goal.next_sum-requires
next_sum-requires c =
    let moves = c.args.moves.now in
    let i = c.loop-i.i - 1 in
    let read = are_read moves.enters.now moves.leaves.now (length moves.before.now) i
    (length moves.before.now - 1) _ _ _ _
    c.index-moves-i.result c.index-moves-i-in-loop-i.result c.index-moves-last.result c.index-moves-last-2.result
    moves.can.enter moves.can.leave refl (omega arith) refl refl refl refl in
    record {
      can = can_step_read _ _ _ _ i _ _ _ _ read (moves.can.steps i (omega arith));
      enters = enter_close _ _ _ i _ _ _ _ read (moves.close.entering i (omega (arith, moves.can.enter)));
      leaves = leave_close _ _ _ i _ _ _ _ read (moves.close.leaving i (omega (arith, moves.can.leave)));
    }

pub loop-i-preserved : goal.loop-i-preserved
loop-i-preserved c =
    let i = c.loop-i.i in
    let moves = c.args.moves.now in
    let read = are_read moves.enters.now moves.leaves.now (length moves.before.now) (i - 1)
    (length moves.before.now - 1) _ _ _ _ c.index-moves-i.result c.index-moves-i-in-loop-i.result
    c.index-moves-last.result c.index-moves-last-2.result moves.can.enter moves.can.leave refl (omega arith) refl refl
    refl refl in
    let here : c.next_sum.result ≡ moved_by moves i =
    next_read moves.before.now moves.enters.now moves.leaves.now (i - 1) _ _ _ _ c.next_sum.result read
    c.next_sum.ensures
    ∙ sym (moved_behind moves.first moves.before.now moves.enters.now moves.leaves.now i (omega arith)) in
    set_more 0 (λ q s. s ≡ moved_by moves q) c.loop-i.sums i c.next_sum.result (omega arith) c.loop-i.invariant here
