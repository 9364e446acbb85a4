use Rattle.std.proofs.Common.{ap, arith}
use Rattle.mp_workers.specs.Entries.{count_of}
use Rattle.mp_workers.proofs.Entering.{whole_count}
use Rattle.mp_workers.proofs.tellers.TellEachOtherOffers.row_limit.Goals as goal

pub limit-requires : goal.limit-requires
limit-requires c =
    omega (
      arith,
      c.if-row-into.true,
      c.into.invariant.count_is,
      ap (λ t. count_of t.series) c.into.view_is,
      whole_count c.args.into.now.series,
    )
