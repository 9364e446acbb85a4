use Rattle.std.proofs.Common.{◌≡◌, suc, ◌+◌, ◌-◌, ◌*◌, ◌%◌, ◌^◌, ◌<◌, subst, arith}
use Rattle.mp_results.specs.Reversal.{reversed}
use Rattle.mp_anytime.proofs.Digits.{one_digit, power_more, reversed_none}
use Rattle.mp_anytime.proofs.reversals.reversal.Goals as goal

pub loop-digit-preserved : goal.loop-digit-preserved
loop-digit-preserved c =
    let k = 18 - (c.loop-digit.digit + 1) in
    let before : 18 - c.loop-digit.digit ≡ suc k = omega arith in
    let one : suc c.loop-digit.digit ≡ c.loop-digit.digit + 1 = omega arith in
    let more = power_more c.loop-digit.digit in
    record {
      digits = one_digit k c.loop-digit.reversed c.loop-digit.rest (reversed 18 c.args.diagonal)
          (subst (λ n. c.loop-digit.reversed * 2 ^ n + reversed n c.loop-digit.rest ≡ reversed 18 c.args.diagonal)
          before c.loop-digit.invariant.digits);
      small = subst (λ n. 2 * c.loop-digit.reversed + c.loop-digit.rest % 2 < 2 ^ n) one
          (omega (arith, more, c.loop-digit.invariant.small));
    }

pub returns-clause-reversal : goal.returns-clause-reversal
returns-clause-reversal c =
    let done : 18 - c.loop-digit.digit ≡ 0 = omega arith in
    let all = subst (λ n. c.loop-digit.reversed * 2 ^ n + reversed n c.loop-digit.rest ≡ reversed 18 c.args.diagonal)
    done c.loop-digit.invariant.digits in
    omega (arith, all, reversed_none c.loop-digit.rest)
