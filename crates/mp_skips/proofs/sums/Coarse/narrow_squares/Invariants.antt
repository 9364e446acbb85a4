use Rattle.std.proofs.Common.{◌≡◌, ◌*◌, ◌^◌, ◌≤◌}
use Rattle.mp_skips.specs.Levels.{squares_in}
use Rattle.mp_skips.proofs.sums.Coarse.narrow_squares.Given as goal

abbrev pub invariant-loop-t : goal.invariant-loop-t
invariant-loop-t l = record {
  sum : l.sum ≡ squares_in l.self l.t l.row l.column;
  small : l.sum ≤ l.t * 2 ^ 26;
}
