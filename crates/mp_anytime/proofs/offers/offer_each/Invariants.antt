use Rattle.mp_defs.specs.Series.{series_of}
use Rattle.mp_tiles.specs.Scanning.{IsScanned}
use Rattle.mp_anytime.specs.Offers.{IsReady, is_last_from}
use Rattle.mp_anytime.proofs.offers.offer_each.Given as goal

abbrev pub invariant-loop-diagonal : goal.invariant-loop-diagonal
invariant-loop-diagonal l = record {
  ready : IsReady l.row.last l.profile l.limits;
  scanned : IsScanned (is_last_from l.row.covered.now l.row.last l.first l.diagonal) l.row.m
      (series_of l.row.samples.now.items) l.fn.profile l.profile;
}
