use Rattle.std.proofs.Common.{◌∙◌, ap, arith, length, subst, sym}
use Rattle.std.specs.Prelude.{All}
use Rattle.mp_topk.specs.Ranking.{AreRanked}
use Rattle.mp_topk.proofs.Whole.{whole_long, whole_ranked}
use Rattle.mp_topk.proofs.compact_ranks.take_in_places.Goals as goal

pub take_there-requires : goal.take_there-requires
take_there-requires g c =
    let old = c.args.places.now.items in
    let filled = c.as_mut_slice.ensures.value ∙ c.reach.ensures.items in (
      omega (arith, c.requires.few),
      (
        omega (arith, c.requires.place, ap length filled ∙ whole_long g.row.K c.args.size old c.requires.within),
        (
          c.requires.rank,
          subst (All (AreRanked g.row.K)) (sym filled) (whole_ranked g.row.K c.args.size old c.requires.ranked),
        ),
      ),
    )
