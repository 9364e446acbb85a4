use Rattle.std.proofs.Common.{◌∙◌, length, ap, arith, refl}
use Rattle.std.proofs.lemmas.List.{length-map}
use Rattle.mp_nums.specs.contracts.samples.SamplePartialEq.TheImpl.{ghosts}
use Rattle.mp_slide.proofs.PlainDistances.{plain_distances, all_there}
use Rattle.mp_slide.proofs.slides.distances.Goals as goal

pub distances_by_start-requires-after_bounds : goal.distances_by_start-requires-after_bounds
distances_by_start-requires-after_bounds g c κs within =
    let made = c.in_ok-slide.ensures in
    let series = ap length made.numbers ∙ length-map c.args.series.now _ in
    let pattern = ap length made.pattern ∙ length-map c.args.pattern.now _ in
    omega (arith, series, pattern, c.windows-count.ensures)

pub returns-clause-distances : goal.returns-clause-distances
returns-clause-distances g c =
    let made = c.in_ok-slide.ensures in
    c.from-2.ensures
    ∙ c.in_ok-list.ensures
    ∙ plain_distances c.args.pattern.now c.args.series.now _ _ _ _
    (all_there c.args.pattern.now ghosts.eq refl c.if-contains.ensures.cases) made.pattern made.numbers made.gaps
    c.windows-count.ensures
