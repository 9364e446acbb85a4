use Rattle.std.proofs.Common.{◌∙◌, sym, arith}
use Rattle.mp_bytes.proofs.NumberLemmas.{none_above}
use Rattle.mp_bytes.proofs.digits.read_number.Goals as goal

pub returns-in_err-shifted : goal.returns-in_err-shifted
returns-in_err-shifted c =
    let over = rw c.in_err-shifted.was at c.checked_mul.ensures in
    let i = c.loop-digit.invariant in
    c.from_residual.ensures
    ∙ sym (none_above c.args.digits c.args.most c.args.text.now c.loop-digit.digit-index c.loop-digit.value
    c.loop-digit-test.true i.value (omega (arith, c.ranges.most)) (omega (arith, over)))

pub returns-in_err-value : goal.returns-in_err-value
returns-in_err-value c =
    let over = rw c.in_err-value.was at c.checked_add.ensures in
    let product = rw c.in_ok-shifted.was at c.checked_mul.ensures in
    let i = c.loop-digit.invariant in
    c.from_residual-in_err-value.ensures
    ∙ sym (none_above c.args.digits c.args.most c.args.text.now c.loop-digit.digit-index c.loop-digit.value
    c.loop-digit-test.true i.value (omega (arith, c.ranges.most)) (omega (arith, over, product, c.from.ensures)))
