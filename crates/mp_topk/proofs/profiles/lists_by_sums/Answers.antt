use Rattle.std.proofs.Common.{◌≡◌, ap, sym, subst, ◌∙◌, arith, map}
use Rattle.std.specs.Prelude.{IfSome}
use Rattle.std.proofs.lemmas.Result.{IfOk-weaker}
use Rattle.mp_topk.specs.Ranking.{slots_of}
use Rattle.mp_topk.specs.Sharing.{RankSeries, whole_of}
use Rattle.mp_topk.specs.Tiling.{ranks_whole}
use Rattle.mp_topk.specs.Words.{AreTellingOf}
use Rattle.mp_topk.proofs.Parting.{parts_are_whole, same_series, same_whole}
use Rattle.mp_topk.proofs.profiles.lists_by_sums.Goals as goal

pub of-shared-requires : goal.of-shared-requires
of-shared-requires g c =
    let parts = c.in_parts-parts.result in
    let tiles = c.args.tiles.now in
    let samples = c.in_parts-parts.ensures.samples ∙ c.by_sums-wide.ensures.samples ∙ c.own.ensures.samples in
    let m = c.in_parts-parts.ensures.m ∙ c.by_sums-wide.ensures.m ∙ c.own.ensures.m in (
      omega arith,
      (
        omega arith,
        (
          parts_are_whole g.row.K c.max.result tiles parts c.by_sums-wide.result.tiles
              (omega (arith, c.max.ensures, c.summed_tile.ensures.some)) samples m
              (c.by_sums-wide.ensures.tiles ∙ c.own.ensures.tiles) c.in_parts-parts.ensures.pairs,
          subst (λ (s : RankSeries). IfSome c.in_ok-entries.entries (λ (e : RankSeries). e ≡ s))
              (sym (same_series tiles parts.samples parts.m samples m)) c.in_ok-entries.ensures,
        ),
      ),
    )

pub lists_told-requires : goal.lists_told-requires
lists_told-requires g c =
    let parts = c.in_parts-parts.result in
    let tiles = c.args.tiles.now in
    let samples = c.in_parts-parts.ensures.samples ∙ c.by_sums-wide.ensures.samples ∙ c.own.ensures.samples in
    let m = c.in_parts-parts.ensures.m ∙ c.by_sums-wide.ensures.m ∙ c.own.ensures.m in
    let series = same_series parts c.samples.result.now c.window.result (c.samples.ensures.is ∙ sym samples)
    (c.window.ensures.is ∙ sym m) in (
      c.type_bounds.sync-R,
      (
        c.type_bounds.sync-G,
        (
          c.window.ensures.least,
          (
            c.samples.ensures.few,
            (
              c.in_parts-parts.ensures.few,
              (
                parts_are_whole g.row.K c.max.result tiles parts c.by_sums-wide.result.tiles
                    (omega (arith, c.max.ensures, c.summed_tile.ensures.some)) samples m
                    (c.by_sums-wide.ensures.tiles ∙ c.own.ensures.tiles) c.in_parts-parts.ensures.pairs,
                (
                  subst (AreTellingOf parts) (sym series) (c.fit_words.ensures c.if-fit_words.true),
                  (c.requires.some, c.requires.workers),
                ),
              ),
            ),
          ),
        ),
      ),
    )

pub returns-then-fit_words : goal.returns-then-fit_words
returns-then-fit_words g c =
    let k = g.row.K in
    let series = same_series c.args.tiles.now c.samples.result.now c.window.result c.samples.ensures.is
    c.window.ensures.is in
    IfOk-weaker c.lists_told.result _ _
    (λ lists e. ap (map slots_of) e ∙ ap (λ (s : RankSeries). map slots_of (whole_of k s)) series)
    c.lists_told.ensures

pub returns : goal.returns
returns g c =
    let k = g.row.K in
    let samples = c.in_parts-parts.ensures.samples ∙ c.by_sums-wide.ensures.samples ∙ c.own.ensures.samples in
    let m = c.in_parts-parts.ensures.m ∙ c.by_sums-wide.ensures.m ∙ c.own.ensures.m in
    IfOk-weaker c.lists-2.result _ _
    (λ lists e. ap (map slots_of) e ∙ c.in_ok-run_sharing.ensures.value ∙ ap (ranks_whole k) c.of-shared.ensures
    ∙ same_whole k c.args.tiles.now c.in_parts-parts.result samples m)
    c.lists-2.ensures
