use Rattle.std.proofs.Common.{◌≡◌, length}
use Rattle.tiles_tests.proofs.tiles.scan_each.Given as goal

abbrev pub invariant-loop-k : goal.invariant-loop-k
invariant-loop-k l = length l.profile.all ≡ length l.initial.profile.all
