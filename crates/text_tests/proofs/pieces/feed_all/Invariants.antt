use Rattle.std.proofs.Common.{◌≡◌, false, length}
use Rattle.text_tests.proofs.pieces.feed_all.Given as goal

-- no line is held between two calls of `feed`
abbrev pub invariant-loop-rest : goal.invariant-loop-rest
invariant-loop-rest g l = l.feed.whole ≡ false

abbrev pub decreases-loop-rest : goal.decreases-loop-rest
decreases-loop-rest g l = length l.rest
