use Rattle.std.proofs.Common.{map, ap, ◌∙◌, arith}
use Rattle.mp_defs.specs.Series.{series_of}
use Rattle.mp_partial.specs.Values.{merged_column}
use Rattle.mp_cuts.specs.Pairs.{has_pair}
use Rattle.mp_multi.specs.Among.{multi_among}
use Rattle.mp_multi.specs.Tiling.{MultiTiling}
use Rattle.mp_multi.proofs.SharedLemmas.{no_row_taken}
use Rattle.mp_multi.proofs.shared.SharedMulti.scan.Goals as goal

pub returns-then-tile-clause-items : goal.returns-then-tile-clause-items
returns-then-tile-clause-items g c =
    c.scan_tile.ensures.items
    ∙ ap (λ (s : MultiTiling). merged_column c.args.into.now.items
    (multi_among (has_pair 0 c.args.tile.now) s.m s.k (map series_of s.channels))) c.self.view_is

pub returns-else-tile-clause-items : goal.returns-else-tile-clause-items
returns-else-tile-clause-items g c =
    no_row_taken c.args.self.now.m c.args.self.now.k c.args.self.now.channels c.args.tile.now c.args.into.now.items
    (omega (arith, c.if-tile.false)) c.requires.size
