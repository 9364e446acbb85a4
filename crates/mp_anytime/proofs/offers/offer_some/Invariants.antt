use Rattle.std.proofs.Common.{take}
use Rattle.mp_defs.specs.Series.{series_of}
use Rattle.mp_tiles.specs.Scanning.{IsScanned}
use Rattle.mp_anytime.specs.Kept.{is_last_pair}
use Rattle.mp_anytime.specs.Offers.{IsReady}
use Rattle.mp_anytime.proofs.offers.offer_some.Given as goal

abbrev pub invariant-loop-k : goal.invariant-loop-k
invariant-loop-k l = record {
  ready : IsReady l.row.last l.profile l.limits;
  scanned : IsScanned (is_last_pair (take l.k l.listed) l.row.last) l.row.m
      (series_of l.row.samples.now.items) l.fn.profile l.profile;
}
