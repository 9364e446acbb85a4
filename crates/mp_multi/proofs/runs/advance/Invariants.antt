use Rattle.std.proofs.Common.{◌≡◌, ℕ, ◌+◌, ◌<◌, ◌≤◌, length, get_or, []}
use Rattle.mp_multi.specs.Blocks.{IsChannelAt}
use Rattle.mp_multi.proofs.runs.advance.Given as goal

abbrev pub invariant-loop-n : goal.invariant-loop-n
invariant-loop-n l = record {
  places : length l.residues ≡ length l.fn.residues;
  done : (q : ℕ) → q < l.n → IsChannelAt l.block q (l.p + 1) (l.c + 1) (get_or l.residues q []);
  left : (q : ℕ) → l.n ≤ q → q < length l.fn.residues → IsChannelAt l.block q l.p l.c (get_or l.residues q []);
}
