use Rattle.std.proofs.Common.{length, sym, ap, ◌∙◌}
use Rattle.std.specs.Prelude.{◌*◌}
use Rattle.mp_tiles.specs.Pieces.{OwnTiling}
use Rattle.mp_tiles.specs.RowPartLaws.{parts_count}
use Rattle.mp_tiles.proofs.parts.TilePartsKernel.pieces.Goals as goal

pub returns : goal.returns
returns c =
    let own = c.self.inside in
    ap (λ n. n * own.parts) c.pieces.ensures
    ∙ sym (parts_count own.parts own.tiles.tiles)
    ∙ ap (λ (o : OwnTiling). length o.tiles) c.self.view_is
