use Rattle.std.proofs.Common.{◌≡◌, ◌+◌, ◌-◌, ◌*◌, ◌^◌, ◌<◌}
use Rattle.mp_results.specs.Reversal.{reversed}
use Rattle.mp_anytime.proofs.reversals.reversal.Given as goal

abbrev pub invariant-loop-digit : goal.invariant-loop-digit
invariant-loop-digit l = record {
  digits : l.reversed * 2 ^ (18 - l.digit) + reversed (18 - l.digit) l.rest ≡ reversed 18 l.fn.diagonal;
  small : l.reversed < 2 ^ l.digit;
}
