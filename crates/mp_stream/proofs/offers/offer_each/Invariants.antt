use Rattle.std.proofs.Common.{◌≡◌, ◌-◌, length, get_or}
use Rattle.mp_defs.specs.Least.{near}
use Rattle.mp_stream.specs.Limits.{coarse_limit}
use Rattle.mp_stream.specs.Offers.{AreOffered}
use Rattle.mp_stream.specs.Rows.{row_candidate}
use Rattle.mp_stream.proofs.offers.offer_each.Given as goal

abbrev pub invariant-loop-i : goal.invariant-loop-i
invariant-loop-i l = record {
  offered : AreOffered coarse_limit l.free (λ i. get_or l.sums i 0) (length l.sums - 1) l.first l.i l.fn.entries
      l.entries;
  best : l.best ≡ near (row_candidate l.free (λ i. get_or l.sums i 0)) l.i;
}
