use Rattle.std.proofs.Common.{get_or, sym}
use Rattle.mp_defs.specs.LeastLaws.{grows_by_one_candidate}
use Rattle.mp_stream.specs.Rows.{row_candidate}
use Rattle.mp_stream.proofs.offers.offer_row.Goals as goal

pub offer_each-requires-clause-best : goal.offer_each-requires-clause-best
offer_each-requires-clause-best c =
    sym (grows_by_one_candidate.no_candidates (row_candidate c.args.free.now (λ i. get_or c.args.sums.now i 0)))
