use Rattle.std.proofs.Common.{get_or, ap, ◌∙◌, sym}
use Rattle.std.proofs.lemmas.Option.{get_or_from_slice_get}
use Rattle.mp_cuts.specs.Pairs.{no_tile}
use Rattle.mp_multi.specs.Tiling.{MultiTiling}
use Rattle.mp_multi.proofs.kernels.MultiTiles.tile.Goals as goal

pub returns-clause-is : goal.returns-clause-is
returns-clause-is g c =
    let own = c.self.inside in
    sym (get_or_from_slice_get own.cut c.args.piece c.tile.result no_tile c.tile.ensures)
    ∙ ap (λ (s : MultiTiling). get_or s.tiles c.args.piece no_tile) c.self.view_is
