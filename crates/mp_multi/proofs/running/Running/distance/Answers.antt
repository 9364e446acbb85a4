use Rattle.std.proofs.Common.{arith}
use Rattle.mp_multi.proofs.RunningLemmas.{distance_found, distance_missing}
use Rattle.mp_multi.proofs.running.Running.distance.Goals as goal

pub returns-then-self-eq0-clause-value : goal.returns-then-self-eq0-clause-value
returns-then-self-eq0-clause-value c = λ m a i j h. distance_found m a i j c.args.self h (omega arith)

pub returns-else-self-eq0-clause-value : goal.returns-else-self-eq0-clause-value
returns-else-self-eq0-clause-value c = λ m a i j h. distance_missing m a i j c.args.self h (omega arith)
