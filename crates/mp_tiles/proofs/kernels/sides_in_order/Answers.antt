use Rattle.std.proofs.Common.{◌≡◌, List, [], ◌∷◌, sym, ap, ◌∙◌}
use Rattle.mp_nums.specs.declared.samples.Sample.{Sample}
use Rattle.mp_defs.specs.Series.{series_of}
use Rattle.mp_defs.specs.Profile.{matrix_profile}
use Rattle.mp_partial.specs.Values.{empty_columns, merged_columns}
use Rattle.mp_partial.specs.MergeLaws.{columns_merge}
use Rattle.mp_tiles.specs.Pieces.{own_size, own_together, own_whole, sides_value}
use Rattle.mp_tiles.proofs.SeedLemmas.{profile_has_places, same_together}
use Rattle.mp_tiles.proofs.kernels.sides_in_order.Goals as goal

pub returns-in_ok-sides-in-Some-clause-value : goal.returns-in_ok-sides-in-Some-clause-value
returns-in_ok-sides-in-Some-clause-value c =
    let tiles = c.new-tiles in
    let wide = c.wide-wide in
    let pieces = c.by_sums-pieces in
    let own = pieces.result in
    let m = c.args.m in
    let own_is : own_whole own ≡ sides_value (matrix_profile m (series_of tiles.result.samples)) =
    ap (λ k. sides_value (matrix_profile k (series_of own.samples)))
    (pieces.ensures.m ∙ wide.ensures.m ∙ tiles.ensures.m)
    ∙ ap (λ (samples : List Sample). sides_value (matrix_profile m (series_of samples)))
    (pieces.ensures.samples ∙ wide.ensures.samples) in
    let together : own_together own ≡ own_whole own =
    same_together own wide.result pieces.ensures.samples pieces.ensures.m pieces.ensures.tiles ∙ wide.ensures.together
    ∙ ap (λ k. sides_value (matrix_profile k (series_of tiles.result.samples))) tiles.ensures.m ∙ sym own_is in
    let begun = c.begin.new.into in
    c.run_all.ensures.value
    ∙ ap (merged_columns (begun.left ∷ begun.right ∷ [])) together
    ∙ c.begin.ensures.whole
    ∙ ap (λ v. merged_columns v (own_whole own))
    (c.in_ok-sides-in-Some.ensures.value ∙ ap (empty_columns 2) c.size-in-Some.ensures)
    ∙ (columns_merge 2).unit_first (own_size own) (own_whole own) (profile_has_places own.m own.samples)
    ∙ own_is
    ∙ ap (λ (samples : List Sample). sides_value (matrix_profile m (series_of samples))) tiles.ensures.samples
