use Rattle.std.proofs.Common.{◌≡◌, ◌+◌, ◌-◌, ◌∙◌, get_or, length, refl, arith, ap, sym}
use Rattle.mp_stream.specs.Rows.{moved, moved_row}
use Rattle.mp_stream.proofs.Moving.{are_read, can_step_read, moved_behind, next_read}
use Rattle.mp_stream.proofs.Steps.{set_more}
use Rattle.mp_stream.proofs.sums.move_far.Goals as goal

pub next_sum-requires : goal.next_sum-requires
next_sum-requires c =
    let before = c.args.before.now in
    let i = c.loop-i.i in
    let read = are_read c.args.enters.now c.args.leaves.now (length before) i (length before - 1) _ _ _ _ _ _ _ _
    c.requires.can.enter c.requires.can.leave refl (omega arith) c.index-enters-i.is c.index-leaves-i.is
    c.index-enters-before.is c.index-leaves-before.is in
    can_step_read _ _ _ _ i _ _ _ _ read (c.requires.can.steps i (omega arith))

pub loop-i-preserved : goal.loop-i-preserved
loop-i-preserved c =
    let i = c.loop-i.i in
    let before = c.args.before.now in
    let enters = c.args.enters.now in
    let leaves = c.args.leaves.now in
    let one : i ≡ i + 1 - 1 = omega arith in
    let read = are_read enters leaves (length before) i (length before - 1) _ _ _ _ _ _ _ _ c.requires.can.enter
    c.requires.can.leave refl (omega arith) c.index-enters-i.is c.index-leaves-i.is c.index-enters-before.is
    c.index-leaves-before.is in
    let here : c.next_sum.result ≡ moved_row (get_or c.args.sums.now 0 0) before enters leaves (i + 1) =
    next_read before enters leaves i _ _ _ _ c.next_sum.result read c.next_sum.ensures
    ∙ ap (moved before enters leaves) one
    ∙ sym (moved_behind (get_or c.args.sums.now 0 0) before enters leaves (i + 1) (omega arith)) in
    set_more 0 (λ q s. s ≡ moved_row (get_or c.args.sums.now 0 0) before enters leaves q) c.loop-i.sums
    (i + 1) c.next_sum.result
    (omega arith) c.loop-i.invariant here
