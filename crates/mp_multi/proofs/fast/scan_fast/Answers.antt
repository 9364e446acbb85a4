use Rattle.std.proofs.Common.{◌+◌, ◌∙◌, sym}
use Rattle.mp_cuts.specs.Pairs.{has_pair}
use Rattle.mp_scans.specs.Offering.{in_block}
use Rattle.mp_multi.specs.Blocks.{IsScan}
use Rattle.mp_multi.proofs.BlockPairs.{tile_pairs}
use Rattle.mp_multi.proofs.PairScans.{scan_same}
use Rattle.mp_multi.proofs.fast.scan_fast.Goals as goal

pub returns : goal.returns
returns g c =
    let tile = c.args.tile.now in
    let scanned : IsScan c.args.m c.args.k c.args.channels.now (has_pair 0 tile) c.args.into.now
    c.scan_diagonals.new.into =
    scan_same c.args.m c.args.k c.args.channels.now
    (in_block tile.first (tile.last + 1) tile.first_row (tile.last_row + 1)) (has_pair 0 tile) _ _
    c.scan_diagonals.ensures.scanned (λ i j _ _. tile_pairs tile i j) in
    record {
      items = scanned.items;
      places = c.scan_diagonals.ensures.windows ∙ sym c.requires.places;
      spare = scanned.spare;
    }
