use Rattle.std.proofs.Common.{◌≡◌, ℕ, ◌<◌, ◌≤◌, get_or, length}
use Rattle.std.specs.Prelude.{None}
use Rattle.mp_consensus.specs.Searches.{reach_with}
use Rattle.mp_consensus.proofs.rows.reach_on.Given as goal

abbrev pub invariant-loop-i : goal.invariant-loop-i
invariant-loop-i l = record {
  places : length l.reaches ≡ length l.fn.reaches;
  before : (k : ℕ) → k < l.i → get_or l.reaches k None
      ≡ reach_with l.end (get_or l.fn.reaches k None) (get_or l.slots k None);
  from : (k : ℕ) → l.i ≤ k → get_or l.reaches k None ≡ get_or l.fn.reaches k None;
}
