use Rattle.std.proofs.Common.{◌≡◌, ℕ, ◌<◌, ◌≤◌, get_or, length}
use Rattle.std.specs.Prelude.{None}
use Rattle.mp_consensus.specs.Searches.{renewed}
use Rattle.mp_consensus.proofs.rows.renew_each.Given as goal

abbrev pub invariant-loop-i : goal.invariant-loop-i
invariant-loop-i l = record {
  places : length l.reaches ≡ length l.fn.reaches;
  before : (k : ℕ) → k < l.i → get_or l.reaches k None ≡ renewed (get_or l.fn.reaches k None);
  from : (k : ℕ) → l.i ≤ k → get_or l.reaches k None ≡ get_or l.fn.reaches k None;
}
