use Rattle.std.proofs.Common.{◌-◌, ap, ◌∙◌}
use Rattle.mp_defs.specs.Series.{series_of}
use Rattle.mp_defs.specs.Profile.{nearest_column}
use Rattle.mp_partial.specs.Values.{merged_column}
use Rattle.mp_cuts.specs.Pairs.{has_pair}
use Rattle.mp_tiles.proofs.scans.scan_both.Goals as goal

pub returns-clause-items : goal.returns-clause-items
returns-clause-items c =
    rw c.between-plan.ensures.grid at c.scan_join.ensures.taken
    ∙ ap (λ w. merged_column c.args.into.now.items (nearest_column (has_pair (w - 1) c.args.tile.now) c.args.m
    (series_of c.args.a.now) (series_of c.args.b.now))) c.requires.places
