use Rattle.std.proofs.Common.{List, sym, ap, ◌∙◌}
use Rattle.std.proofs.lemmas.Result.{IfOk-weaker}
use Rattle.mp_nums.specs.declared.samples.Sample.{Sample}
use Rattle.mp_defs.specs.Series.{series_of}
use Rattle.mp_defs.specs.Profile.{ab_join}
use Rattle.mp_tiles.specs.JoinedLaws.{whole_alike, whole_items}
use Rattle.mp_workers.proofs.joins.nearest_of_other.Goals as goal

pub run_begun-requires-clause-whole : goal.run_begun-requires-clause-whole
run_begun-requires-clause-whole g c _ _ =
    let wide = c.wide.ensures in
    let pieces = c.by_sums-wide.ensures in
    sym (whole_alike c.by_sums-wide.result c.wide.result c.args.tiles.now
    (record { a = pieces.a; b = pieces.b; m = pieces.m; tiles = pieces.tiles }) wide.a wide.b wide.m wide.together)

pub returns-in-Some : goal.returns-in-Some
returns-in-Some g c =
    let tiles = c.args.tiles.now in
    let wide = c.wide.ensures in
    let pieces = c.by_sums-wide.ensures in
    let join = c.by_sums-wide.result in
    IfOk-weaker c.run_begun.result _ _
    (λ slots e.
    whole_items join slots.items e
    ∙ ap (λ m. ab_join m (series_of join.a) (series_of join.b)) (pieces.m ∙ wide.m)
    ∙ ap (λ (a : List Sample). ab_join tiles.m (series_of a) (series_of join.b)) (pieces.a ∙ wide.a)
    ∙ ap (λ (b : List Sample). ab_join tiles.m (series_of tiles.a) (series_of b)) (pieces.b ∙ wide.b))
    c.run_begun.ensures.value
