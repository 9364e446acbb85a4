use Rattle.mp_scans.specs.Offering.{in_block}
use Rattle.mp_scans.specs.Windows.{row_windows, column_windows, FitIn}
use Rattle.mp_skips.specs.Seeds.{AreSomeScanned, IsAhead}
use Rattle.mp_skips.proofs.seeds.scan_seeds.Given as goal

abbrev pub invariant-loop-k : goal.invariant-loop-k
invariant-loop-k g l =
    let offers = g.O.Offers in
    let grid = l.coarse.plan.grid in
    record {
      ahead : IsAhead offers.is_scanned grid (in_block l.first (column_windows grid) 0 (row_windows grid))
          l.initial.into l.into;
      fits : FitIn offers.fits grid l.into;
      some : AreSomeScanned offers.is_scanned grid l.initial.into l.into;
    }
