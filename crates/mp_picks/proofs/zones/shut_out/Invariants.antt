use Rattle.mp_picks.proofs.ShutPlaces.{IsShutBetween}
use Rattle.mp_picks.proofs.zones.shut_out.Given as goal

abbrev pub invariant-loop-other : goal.invariant-loop-other
invariant-loop-other l = IsShutBetween l.start l.other l.fn.is_free l.is_free
