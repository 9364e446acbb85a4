use Rattle.std.proofs.Common.{◌≡◌, [], ◌∷◌, sym, ap, subst, ◌∙◌, arith}
use Rattle.mp_defs.specs.Series.{series_of}
use Rattle.mp_partial.specs.Values.{HasColumns, Value, merged_columns}
use Rattle.mp_partial.specs.MergeLaws.{columns_merge}
use Rattle.mp_cuts.specs.Pairs.{has_pair}
use Rattle.mp_tiles.specs.Among.{profile_among}
use Rattle.mp_tiles.specs.Pieces.{OwnTiling, own_size, sides_value}
use Rattle.mp_tiles.proofs.RowPartLemmas.{no_row_has_nothing}
use Rattle.mp_tiles.proofs.parts.TilePartsKernel.run.Goals as goal

pub returns-then-part-clause-value : goal.returns-then-part-clause-value
returns-then-part-clause-value c =
    let own = c.args.self.now in
    let old : Value = c.args.into.now.left ∷ c.args.into.now.right ∷ [] in
    let new : Value = c.run_tile.new.into.left ∷ c.run_tile.new.into.right ∷ [] in
    subst (λ (o : OwnTiling). new ≡ merged_columns old
    (sides_value (profile_among (has_pair 0 c.tile-part.result) o.m (series_of o.samples)))) c.self.view_is
    c.run_tile.ensures.value
    ∙ ap (λ t. merged_columns old (sides_value (profile_among (has_pair 0 t) own.m (series_of own.samples))))
    c.tile-part.ensures.is

pub returns-else-part-clause-value : goal.returns-else-part-clause-value
returns-else-part-clause-value c =
    let own = c.args.self.now in
    let old : Value = c.args.into.now.left ∷ c.args.into.now.right ∷ [] in
    let part = c.tile-part.result in
    let size : c.size-places.result ≡ own_size own = c.size-places.ensures.size ∙ c.requires.size in
    sym ((columns_merge 2).unit_last (own_size own) old
    (subst (λ n. HasColumns 2 n old) size c.size-places.ensures.is_value))
    ∙ ap (merged_columns old) (sym (no_row_has_nothing own.m own.samples part (omega (arith, c.if-part.false)))
    ∙ ap (λ t. sides_value (profile_among (has_pair 0 t) own.m (series_of own.samples))) c.tile-part.ensures.is)
