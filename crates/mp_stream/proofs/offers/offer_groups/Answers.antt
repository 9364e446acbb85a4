use Rattle.std.proofs.Common.{get_or, sym}
use Rattle.mp_defs.specs.LeastLaws.{grows_by_one_candidate}
use Rattle.mp_stream.specs.Rows.{row_candidate}
use Rattle.mp_stream.proofs.Taken.{offered_none}
use Rattle.mp_stream.proofs.offers.offer_groups.Goals as goal

pub loop-g-init : goal.loop-g-init
loop-g-init c = record {
  offered = offered_none _ _ _ _ 0 _ c.requires.ready;
  best = sym (grows_by_one_candidate.no_candidates (row_candidate c.args.free.now (λ i. get_or c.args.sums.now i 0)));
}
