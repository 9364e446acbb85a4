use Rattle.std.proofs.Common.{arith, ap, subst, sym, ◌∙◌}
use Rattle.std.specs.Prelude.{Some}
use Rattle.mp_defs.specs.Least.{near_at}
use Rattle.mp_scans.specs.Offering.{only}
use Rattle.mp_tiles.specs.Among.{either_way}
use Rattle.mp_topk.specs.Ranking.{put_at}
use Rattle.mp_topk.specs.ScanLaws.{AreTaken}
use Rattle.mp_topk.specs.OfferLaws.{pair_taken, same_series, same_windows}
use Rattle.mp_topk.proofs.offers.EachToOtherOffers.offer.Goals as goal

pub returns : goal.returns
returns g c m a b fits lt lt' is =
    let old = c.args.into.now.lists in
    let row = c.args.row in
    let column = c.args.column in
    let wide = same_windows m a b fits.same in
    let new = c.offer-2.ensures.lists
    ∙ ap (λ lists. put_at g.row.K lists column (near_at row c.args.dist.0)) c.offer.ensures.lists in
    record {
      lists = subst (AreTaken g.row.K (either_way (only row column)) m a old) (sym new)
          (pair_taken g.row.K row column c.args.dist.0 m a old fits.few fits.places c.requires.may.0
          (omega (arith, lt', wide)) (same_series m a b row column (Some c.args.dist.0) fits.same is));
      spare = c.offer-2.ensures.spare ∙ c.offer.ensures.spare;
    }
