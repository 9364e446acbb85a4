use Rattle.std.proofs.Common.{map, ap, ◌∙◌}
use Rattle.mp_defs.specs.Series.{series_of}
use Rattle.mp_partial.specs.Values.{merged_column}
use Rattle.mp_cuts.specs.Pairs.{has_pair}
use Rattle.mp_multi.specs.Among.{multi_among}
use Rattle.mp_multi.specs.Tiling.{MultiTiling}
use Rattle.mp_multi.proofs.kernels.MultiTiles.scan_tile.Goals as goal

pub returns-clause-items : goal.returns-clause-items
returns-clause-items g c =
    c.scan_fast.ensures.items
    ∙ ap (λ (s : MultiTiling). merged_column c.args.into.now.items
    (multi_among (has_pair 0 c.args.tile.now) s.m s.k (map series_of s.channels))) c.self.view_is
