use Rattle.std.proofs.Common.{ℕ, ◌/◌, ◌<◌, ◌≤◌}
use Rattle.mp_consensus.specs.Blocks.{windows_at}
use Rattle.mp_consensus.proofs.blocks.count_pieces.Given as goal

abbrev pub invariant-loop-place : goal.invariant-loop-place
invariant-loop-place l = record {
  few : l.most ≤ 4096;
  all : (p i : ℕ) → p < l.place → i < windows_at l.m l.list p → i / 64 < l.most;
}
