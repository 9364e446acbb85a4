use Rattle.std.proofs.Common.{◌+◌, ◌*◌, ◌∙◌}
use Rattle.mp_skips.proofs.NeedLemmas.{column_marked, column_there}
use Rattle.mp_skips.proofs.trials.group_need.Goals as goal

pub column_need-requires : goal.column_need-requires
column_need-requires g c = record {
  free = λ lt. c.is_marked-free.ensures (column_there c.args.coarse.now (8 * c.args.group + c.loop-k.k) lt)
      ∙ column_marked c.args.coarse.now (8 * c.args.group + c.loop-k.k) lt;
}
