use Rattle.std.proofs.Common.{◌≡◌, length, map}
use Rattle.mp_defs.specs.Series.{series_of}
use Rattle.mp_consensus.specs.Bounds.{least_radius}
use Rattle.mp_consensus.specs.Searches.{HaveReached}
use Rattle.mp_consensus.proofs.blocks.search_block.Given as goal

abbrev pub invariant-loop-place : goal.invariant-loop-place
invariant-loop-place l = record {
  bound : l.looker.bound ≡ l.bound;
  least : l.looker.least ≡ l.fn.looker.least;
  count : length l.reaches.items ≡ l.fn.block.count;
  reached : HaveReached (least_radius l.m l.list) l.m (map series_of l.list) l.fn.block.place l.fn.block.start l.place
      l.reaches.items;
}
