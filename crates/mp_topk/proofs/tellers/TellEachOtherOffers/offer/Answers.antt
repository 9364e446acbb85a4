use Rattle.std.proofs.Common.{◌+◌, ◌<◌, ◌≤◌, [], get_or, ap, subst, sym, ◌∙◌, arith}
use Rattle.std.specs.Prelude.{Some}
use Rattle.mp_defs.specs.DistanceLaws.{symmetric}
use Rattle.mp_defs.specs.Least.{near_at}
use Rattle.mp_defs.specs.Series.{series_of}
use Rattle.mp_defs.specs.Window.{excl}
use Rattle.mp_topk.specs.Sharing.{GivesNone, RankSeries, count_of, whole_of}
use Rattle.mp_topk.specs.Words.{RankTellerState, WordsAt}
use Rattle.mp_topk.proofs.RankTelling.{allowed_before, allowed_behind, pair_gives}
use Rattle.mp_topk.proofs.tellers.TellEachOtherOffers.offer.Goals as goal

pub tell-requires : goal.tell-requires
tell-requires g c =
    let may = c.requires.may in
    let s = c.args.into.now.words.series in
    let apart : c.args.row + (excl s.m + 1) ≤ c.args.column = omega (
      arith,
      c.if-row-apart.true,
      c.apart.ensures.is,
      ap (λ (t : RankTellerState). excl t.words.series.m) c.into.view_is,
    ) in
    let row : c.args.row < count_of s = omega (arith, may.order, may.place) in (
      omega arith,
      (
        c.into.invariant.one,
        (
          row,
          (
            c.requires.column,
            (
              may.short,
              (
                pair_gives g.row.K s c.args.row c.args.column c.args.dist.0
                    (allowed_behind s.m c.args.row c.args.column apart) row may.place may.is,
                (may.weight, may.idle),
              ),
            ),
          ),
        ),
      ),
    )

pub tell-requires-then-row-apart : goal.tell-requires-then-row-apart
tell-requires-then-row-apart g c =
    let may = c.requires.may in
    let s = c.args.into.now.words.series in
    let apart : c.args.row + (excl s.m + 1) ≤ c.args.column = omega (
      arith,
      c.if-row-apart.true,
      c.apart.ensures.is,
      ap (λ (t : RankTellerState). excl t.words.series.m) c.into.view_is,
    ) in
    let row : c.args.row < count_of s = omega (arith, may.order, may.place) in
    let same = ap (λ (w : WordsAt). w.series) c.tell.ensures.words in
    let column : c.args.column < count_of c.tell.new.self.words.series =
    subst (λ (e : RankSeries). c.args.column < count_of e) (sym same) may.place in (
      omega arith,
      (
        c.into.invariant.one,
        (
          column,
          (
            c.requires.row,
            (
              may.short,
              (
                subst (λ (e : RankSeries). GivesNone g.row.K (get_or (whole_of g.row.K e) c.args.column [])
                    (Some (near_at c.args.row c.args.dist.0))) (sym same)
                    (pair_gives g.row.K s c.args.column c.args.row c.args.dist.0
                    (allowed_before s.m c.args.row c.args.column apart) may.place row
                    (symmetric s.m (series_of s.samples) c.args.column (series_of s.samples) c.args.row ∙ may.is)),
                (omega (arith, may.weight, c.tell.ensures.more.weight), c.tell.ensures.carried),
              ),
            ),
          ),
        ),
      ),
    )
