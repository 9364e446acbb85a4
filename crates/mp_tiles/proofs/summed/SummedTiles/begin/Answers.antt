use Rattle.std.proofs.Common.{◌≡◌, [], ◌∷◌, ap, subst, ◌∙◌}
use Rattle.mp_defs.specs.Series.{series_of}
use Rattle.mp_defs.specs.Profile.{matrix_profile}
use Rattle.mp_partial.specs.Values.{merged_column, merged_columns}
use Rattle.mp_tiles.specs.Pieces.{OwnTiling, own_whole}
use Rattle.mp_tiles.proofs.summed.SummedTiles.begin.Goals as goal

pub returns-clause-whole : goal.returns-clause-whole
returns-clause-whole c =
    let plan = c.self.inside.coarse.plan in
    let whole = matrix_profile plan.grid.m (series_of plan.grid.rows.now) in
    let old = c.args.into.now in
    let new = c.take_seeds.new.self in
    subst (λ (own : OwnTiling). merged_columns (new.left ∷ new.right ∷ []) (own_whole own)
    ≡ merged_columns (old.left ∷ old.right ∷ []) (own_whole own)) c.self.view_is
    (ap (λ left. left ∷ merged_column new.right whole.right ∷ []) c.take_seeds.ensures.left
    ∙ ap (λ right. merged_column old.left whole.left ∷ right ∷ []) c.take_seeds.ensures.right)
