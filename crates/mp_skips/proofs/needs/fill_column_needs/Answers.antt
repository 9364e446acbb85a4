use Rattle.std.proofs.Common.{◌+◌, ◌∙◌, arith, refl}
use Rattle.std.proofs.lemmas.List.{length-set}
use Rattle.mp_skips.proofs.NeedLemmas.{column_needs_next, column_marked, column_there}
use Rattle.mp_skips.proofs.needs.fill_column_needs.Goals as goal

pub loop-k-init : goal.loop-k-init
loop-k-init g c = record {
  needs = record { each = λ q lt. absurd (omega arith) };
  places = refl;
}

pub column_need-requires : goal.column_need-requires
column_need-requires g c = record {
  free = λ lt. c.is_marked-free.ensures (column_there c.args.coarse.now (c.args.column + c.loop-k.k) lt)
      ∙ column_marked c.args.coarse.now (c.args.column + c.loop-k.k) lt;
}

pub loop-k-preserved : goal.loop-k-preserved
loop-k-preserved g c =
    let before = c.loop-k.invariant in
    record {
      needs = column_needs_next c.args.coarse.now (g.O.Offers.keeps_column c.args.into.now) c.args.first c.args.column
          c.loop-k.k c.loop-k.needs c.column_need.result before.needs c.column_need.ensures
          (omega (arith, before.places));
      places = length-set c.loop-k.needs c.loop-k.k c.column_need.result ∙ before.places;
    }
