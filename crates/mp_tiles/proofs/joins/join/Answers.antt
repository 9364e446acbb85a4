use Rattle.std.proofs.Common.{List, ap, ◌∙◌}
use Rattle.mp_nums.specs.declared.samples.Sample.{Sample}
use Rattle.mp_defs.specs.Series.{series_of}
use Rattle.mp_defs.specs.Profile.{ab_join}
use Rattle.mp_partial.specs.Values.{empty_columns}
use Rattle.mp_tiles.specs.JoinedLaws.{begun_join, whole_alike}
use Rattle.mp_tiles.proofs.joins.join.Goals as goal

pub returns-in_ok-slots-in-Some : goal.returns-in_ok-slots-in-Some
returns-in_ok-slots-in-Some c =
    let tiles = c.new-tiles.ensures in
    let wide = c.wide-wide.ensures in
    let pieces = c.by_sums-pieces.ensures in
    let join = c.by_sums-pieces.result in
    begun_join join c.in_ok-slots-in-Some.slots.items c.begin.new.into.items c.run_all.new.into.items
    (whole_alike join c.wide-wide.result c.new-tiles.result
    (record { a = pieces.a; b = pieces.b; m = pieces.m; tiles = pieces.tiles }) wide.a wide.b wide.m wide.together)
    (c.in_ok-slots-in-Some.ensures.value ∙ ap (empty_columns 1) c.size-in-Some.ensures)
    c.begin.ensures.whole c.run_all.ensures.value
    ∙ ap (λ m. ab_join m (series_of join.a) (series_of join.b)) (pieces.m ∙ wide.m ∙ tiles.m)
    ∙ ap (λ (a : List Sample). ab_join c.args.m (series_of a) (series_of join.b)) (pieces.a ∙ wide.a ∙ tiles.a)
    ∙ ap (λ (b : List Sample). ab_join c.args.m (series_of c.args.a.now) (series_of b)) (pieces.b ∙ wide.b ∙ tiles.b)
