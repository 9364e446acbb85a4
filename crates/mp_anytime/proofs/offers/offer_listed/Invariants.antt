use Rattle.std.proofs.Common.{◌≤◌, ◌-◌, length, take}
use Rattle.mp_defs.specs.Series.{series_of}
use Rattle.mp_tiles.specs.Scanning.{IsScanned}
use Rattle.mp_anytime.specs.Kept.{is_last_pair}
use Rattle.mp_anytime.specs.Offers.{IsReady}
use Rattle.mp_anytime.proofs.offers.offer_listed.Given as goal

abbrev pub invariant-loop-first : goal.invariant-loop-first
invariant-loop-first l = record {
  within : l.first ≤ length l.row.covered.now;
  ready : IsReady l.row.last l.profile l.limits;
  scanned : IsScanned (is_last_pair (take l.first l.row.covered.now) l.row.last) l.row.m
      (series_of l.row.samples.now.items) l.fn.profile l.profile;
}

abbrev pub decreases-loop-first : goal.decreases-loop-first
decreases-loop-first l = length l.row.covered.now - l.first
