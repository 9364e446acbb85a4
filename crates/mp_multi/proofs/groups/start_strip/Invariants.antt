use Rattle.std.proofs.Common.{◌≡◌, ℕ, ◌<◌, length, get_or, []}
use Rattle.mp_results.specs.Multi.{channel_at}
use Rattle.mp_multi.specs.Blocks.{channels_of}
use Rattle.mp_multi.specs.Lanes.{AreLanesIn}
use Rattle.mp_multi.specs.Tiling.{window_count}
use Rattle.mp_multi.proofs.groups.start_strip.Given as goal

abbrev pub invariant-loop-n : goal.invariant-loop-n
invariant-loop-n l = record {
  places : length l.residues ≡ length l.fn.residues;
  done : (q : ℕ) → q < l.n → l.column < window_count l.plan.channels.m l.plan.channels.list.now
      → AreLanesIn l.plan.channels.m l.plan.shift (channel_at (channels_of l.plan) q) l.row l.column
      (get_or l.residues q []);
}
