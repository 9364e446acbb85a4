use Rattle.std.proofs.Common.{◌+◌, sym, ap, ◌∙◌}
use Rattle.mp_defs.specs.Series.{series_of}
use Rattle.mp_defs.specs.SeriesLaws.{series_are_of_samples}
use Rattle.mp_cuts.specs.Pairs.{has_pair}
use Rattle.mp_scans.specs.Offering.{in_block}
use Rattle.mp_tiles.specs.Among.{either_way}
use Rattle.mp_topk.specs.OfferLaws.{FitsRanks, ranks_offer}
use Rattle.mp_topk.proofs.Taken.{are_few, block_is, taken_value}
use Rattle.mp_topk.proofs.scans.take_by_sums.Goals as goal

pub scan_by_sums-requires-clause-fits : goal.scan_by_sums-requires-clause-fits
scan_by_sums-requires-clause-fits g c =
    let grid = c.args.coarse.now.plan.grid in
    record {
      places = c.requires.places ∙ sym (series_are_of_samples.windows_are grid.m grid.rows.now);
      few = are_few g.row.K c.args.into.now.lists c.size-windows.ensures.is_value.ranks;
      same = ap series_of (sym c.requires.same);
    }

pub returns-clause-value : goal.returns-clause-value
returns-clause-value g c =
    let grid = c.args.coarse.now.plan.grid in
    let tile = c.args.tile.now in
    let old = c.args.into.now in
    let ranks = c.size-windows.ensures.is_value.ranks in
    let places = c.requires.places ∙ sym (series_are_of_samples.windows_are grid.m grid.rows.now) in
    let fits : FitsRanks g.row.K grid.m (series_of grid.rows.now) (series_of grid.columns.now) old = record {
      places = places;
      few = are_few g.row.K old.lists ranks;
      same = ap series_of (sym c.requires.same);
    } in
    let taken = (ranks_offer g.row.K).same grid.m (series_of grid.rows.now) (series_of grid.columns.now)
    (in_block tile.first (tile.last + 1) tile.first_row (tile.last_row + 1))
    (has_pair 0 tile) old c.scan_by_sums.new.into fits
    c.scan_by_sums.ensures.scanned (λ i j _ _. block_is tile i j) in
    taken_value g.row.K (either_way (has_pair 0 tile)) grid.m (series_of grid.rows.now) old.lists
    c.scan_by_sums.new.into.lists places ranks taken.lists
