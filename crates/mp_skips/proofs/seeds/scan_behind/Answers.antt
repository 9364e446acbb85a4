use Rattle.std.proofs.Common.{◌+◌, ◌-◌, arith}
use Rattle.mp_scans.specs.Offering.{in_block}
use Rattle.mp_scans.specs.Windows.{row_windows, column_windows}
use Rattle.mp_skips.proofs.SeedLemmas.{ahead_none, ahead_of, among_all, none_scanned}
use Rattle.mp_skips.proofs.seeds.scan_behind.Goals as goal

pub returns : goal.returns
returns g c =
    let laws = g.met.O.Offers.laws in
    let grid = c.args.coarse.now.plan.grid in
    let row = c.args.stretch.now.row + c.follow-compared.result in
    let column = c.args.stretch.now.column + c.follow-compared.result in
    let k = column - row in
    let n = c.args.stretch.now.count - c.follow-compared.result in
    record {
      ahead = ahead_of laws grid (in_block k (k + 1) row (row + n)) _ _ _ c.requires.fits c.scan_stretch.ensures.scanned
          (λ i j iw jw. among_all c.args.first (row_windows grid) (column_windows grid) k row n i j
          (omega (arith, c.requires.behind)) iw jw);
      fits = laws.still_fits _ _ _ (in_block k (k + 1) row (row + n)) _ _ c.requires.fits
          c.scan_stretch.ensures.scanned;
      some = (in_block k (k + 1) row (row + n), c.scan_stretch.ensures.scanned);
    }

pub returns-then-compared-stretch : goal.returns-then-compared-stretch
returns-then-compared-stretch g c = record {
  ahead = ahead_none _ _ _ _;
  fits = c.requires.fits;
  some = none_scanned g.met.O.Offers.laws c.args.coarse.now.plan.grid _ c.requires.fits;
}
