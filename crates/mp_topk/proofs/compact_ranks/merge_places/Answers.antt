use Rattle.std.proofs.Common.{◌∙◌, ap, arith, length, subst, sym}
use Rattle.std.specs.Prelude.{All}
use Rattle.mp_topk.specs.Ranking.{AreRanked}
use Rattle.mp_topk.proofs.Whole.{whole_long, whole_ranked}
use Rattle.mp_topk.proofs.compact_ranks.merge_places.Goals as goal

pub merge_each-requires : goal.merge_each-requires
merge_each-requires g c =
    let old = c.args.places.now.items in
    let filled = c.as_mut_slice.ensures.value ∙ c.fill_places.ensures.items in (
      omega (arith, c.requires.few),
      (
        c.requires.count ∙ sym (ap length filled ∙ whole_long g.row.K c.args.size old c.requires.within),
        (
          subst (All (AreRanked g.row.K)) (sym filled) (whole_ranked g.row.K c.args.size old c.requires.ranked),
          c.requires.others,
        ),
      ),
    )
