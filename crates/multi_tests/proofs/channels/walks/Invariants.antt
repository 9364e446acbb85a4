use Rattle.std.proofs.Common.{◌≡◌, length}
use Rattle.std.specs.Prelude.{All}
use Rattle.multi_tests.proofs.channels.walks.Given as goal

abbrev pub invariant-loop-c : goal.invariant-loop-c
invariant-loop-c l = (length l.list ≡ l.c) × All (λ channel. length channel ≡ l.samples) l.list
