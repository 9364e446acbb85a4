use Rattle.std.proofs.Common.{◌≡◌, ◌-◌, ◌*◌, length, get_or}
use Rattle.mp_defs.specs.Least.{near}
use Rattle.mp_stream.specs.Limits.{coarse_limit}
use Rattle.mp_stream.specs.Offers.{AreOffered}
use Rattle.mp_stream.specs.Rows.{row_candidate}
use Rattle.mp_stream.proofs.offers.offer_groups.Given as goal

abbrev pub invariant-loop-g : goal.invariant-loop-g
invariant-loop-g l =
    let at = l.g * 32 in
    record {
      offered : AreOffered coarse_limit l.free (λ i. get_or l.sums i 0) (length l.sums - 1) 0 at l.fn.entries l.entries;
      best : l.best ≡ near (row_candidate l.free (λ i. get_or l.sums i 0)) at;
    }
