use Rattle.std.proofs.Common.{◌≡◌, ◌<◌, ◌∙◌, arith, length, refl, subst, sym}
use Rattle.std.specs.Prelude.{List, Some, IsSome}
use Rattle.mp_nums.specs.declared.samples.Sample.{Sample}
use Rattle.mp_defs.specs.Series.{series_of}
use Rattle.mp_defs.specs.Distance.{distance}
use Rattle.mp_defs.specs.SeriesLaws.{series_are_of_samples}
use Rattle.mp_defs.specs.Window.{windows}
use Rattle.mp_defs.specs.Profile.{windows_of}
use Rattle.mp_tiles.specs.OfferingLaws.{each_to_other}
use Rattle.mp_anytime.specs.Rounded.{series_in}
use Rattle.mp_anytime.proofs.Free.{in_one, is_distance, no_distance, some_distance}
use Rattle.mp_anytime.proofs.found.Found.offer_free.Goals as goal

pub distance-dist-requires-clause-free : goal.distance-dist-requires-clause-free
distance-dist-requires-clause-free c =
    let rounded = c.args.rounded.now in
    let plan = rounded.plan in
    let a = series_in plan in
    let lt : c.args.column < windows_of plan.grid.m a = omega (arith, c.requires.within, rounded.lists.marks.places) in
    subst (λ (xs : List Sample). IsSome (distance plan.grid.m a c.args.row (series_of xs) c.args.column))
    (sym rounded.own)
    (some_distance plan.grid.m a rounded.free.now c.args.row c.args.column rounded.lists.marks
    (omega (arith, lt, c.requires.order)) lt c.if-rounded-row.true)

pub offer-requires : goal.offer-requires
offer-requires c =
    let places = c.requires.for_these.places in
    let plan = c.args.rounded.now.plan in
    let count : length c.args.rounded.now.free.now ≡ windows (length plan.grid.rows.now) plan.grid.m =
    c.args.rounded.now.lists.marks.places ∙ series_are_of_samples.windows_are plan.grid.m plan.grid.rows.now in
    record {
      order = c.requires.order;
      within = omega (arith, c.requires.within, c.args.rounded.now.lists.marks.places, places.all);
      left = places.sides.left ∙ sym places.all;
      right = places.sides.right ∙ sym places.all;
      starts = omega (arith, c.requires.within, count, plan.few_rows, plan.some_samples);
      small = c.distance-dist.ensures.small;
    }

pub returns-then-rounded-row-clause-taken : goal.returns-then-rounded-row-clause-taken
returns-then-rounded-row-clause-taken c =
    let rounded = c.args.rounded.now in
    let plan = rounded.plan in
    let a = series_in plan in
    let lt : c.args.column < windows_of plan.grid.m a = omega (arith, c.requires.within, rounded.lists.marks.places) in
    let there : IsSome (distance plan.grid.m a c.args.row a c.args.column) =
    some_distance plan.grid.m a rounded.free.now c.args.row c.args.column rounded.lists.marks
    (omega (arith, lt, c.requires.order)) lt c.if-rounded-row.true in
    record {
      scanned = c.offer.ensures.profile plan.grid.m a c.requires.for_these.places lt
          (is_distance (distance plan.grid.m a c.args.row a c.args.column) c.distance-dist.result there
          (λ d is. c.distance-dist.ensures.distance d
          (in_one plan.grid.m c.args.row c.args.column plan.grid.rows.now plan.grid.columns.now
          (Some d) rounded.own is)));
      same_m = c.offer.ensures.m;
      same_shift = c.offer.ensures.shift;
    }

pub returns-else-rounded-row-clause-taken : goal.returns-else-rounded-row-clause-taken
returns-else-rounded-row-clause-taken c =
    let rounded = c.args.rounded.now in
    let plan = rounded.plan in
    let a = series_in plan in
    let lt : c.args.column < windows_of plan.grid.m a = omega (arith, c.requires.within, rounded.lists.marks.places) in
    record {
      scanned = each_to_other.skipped plan.grid.m a a c.args.row c.args.column c.args.self.now.profile
          (c.requires.for_these.places, refl) (omega (arith, lt, c.requires.order)) lt (omega (arith, c.requires.order))
          (no_distance plan.grid.m a rounded.free.now c.args.row c.args.column rounded.lists.marks
          (omega (arith, lt, c.requires.order)) lt c.if-rounded-row.false);
      same_m = refl;
      same_shift = refl;
    }
