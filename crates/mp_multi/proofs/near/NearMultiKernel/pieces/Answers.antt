use Rattle.std.proofs.Common.{length, sym, ap, ◌∙◌}
use Rattle.mp_tiles.specs.NearLaws.{bands_count}
use Rattle.mp_multi.proofs.near.NearMultiKernel.pieces.Goals as goal

pub returns : goal.returns
returns g c = c.count.ensures ∙ sym (bands_count c.self.inside.bands) ∙ ap (λ own. length own.tiles) c.self.view_is
