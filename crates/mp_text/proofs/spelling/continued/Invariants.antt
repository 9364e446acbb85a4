use Rattle.std.proofs.Common.{◌≡◌, min, take, fold}
use Rattle.mp_bytes.specs.Digits.{next_digit}
use Rattle.mp_text.proofs.spelling.continued.Given as goal

abbrev pub invariant-loop-digit : goal.invariant-loop-digit
invariant-loop-digit l = l.value ≡ min (fold next_digit l.start (take l.digit-index l.digits)) 1000000000000000000
