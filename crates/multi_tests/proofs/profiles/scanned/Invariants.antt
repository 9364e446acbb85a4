use Rattle.std.proofs.Common.{◌≡◌, length}
use Rattle.multi_tests.proofs.profiles.scanned.Given as goal

abbrev pub invariant-loop-place : goal.invariant-loop-place
invariant-loop-place g l = length l.into.items ≡ l.count
