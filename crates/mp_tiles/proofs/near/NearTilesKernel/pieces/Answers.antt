use Rattle.std.proofs.Common.{length, sym, ap, ◌∙◌}
use Rattle.mp_tiles.specs.NearLaws.{bands_count}
use Rattle.mp_tiles.proofs.near.NearTilesKernel.pieces.Goals as goal

pub returns : goal.returns
returns c = c.count.ensures ∙ sym (bands_count c.self.inside.bands) ∙ ap (λ own. length own.tiles) c.self.view_is
