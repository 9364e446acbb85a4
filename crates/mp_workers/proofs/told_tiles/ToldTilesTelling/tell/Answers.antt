use Rattle.std.proofs.Common.{◌++◌, ap, subst, ◌∙◌}
use Rattle.mp_workers.specs.ToldTiles.{IsPieceTold, ToldTiling}
use Rattle.mp_workers.proofs.TileTelling.{first_joined, piece_joined}
use Rattle.mp_workers.proofs.told_tiles.ToldTilesTelling.tell.Goals as goal

pub returns-clause-told : goal.returns-clause-told
returns-clause-told c =
    let before = c.args.hold.now.told in
    let told = c.join.new.hold.told in
    subst (λ (tiling : ToldTiling). IsPieceTold tiling.own told c.args.piece) c.self.view_is
    (piece_joined c.self.inside.tiles.now before c.new-teller.result c.offer.new.into told c.args.piece
    (c.new-teller.ensures.series ∙ c.self.invariant.series_is) c.offer.ensures
    (c.join.ensures.told ∙ ap (λ ts. before ++ ts) c.into_hold.ensures.told))

pub returns-clause-more : goal.returns-clause-more
returns-clause-more c = λ other known.
    first_joined c.args.self.now.own c.args.hold.now.told c.into_hold.result.told c.join.new.hold.told other
    c.join.ensures.told known
