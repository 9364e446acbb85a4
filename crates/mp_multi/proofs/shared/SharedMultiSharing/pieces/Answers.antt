use Rattle.std.proofs.Common.{length, sym, ap, ◌∙◌}
use Rattle.std.specs.Prelude.{◌*◌}
use Rattle.mp_tiles.specs.RowPartLaws.{parts_count}
use Rattle.mp_multi.specs.Tiling.{MultiTiling}
use Rattle.mp_multi.proofs.shared.SharedMultiSharing.pieces.Goals as goal

pub returns : goal.returns
returns g c =
    let own = c.self.inside in
    ap (λ n. n * own.parts) c.count.ensures ∙ sym (parts_count own.parts own.summed.now.tiles)
    ∙ ap (λ (multi : MultiTiling). length multi.tiles) c.self.view_is
