use Rattle.mp_workers.proofs.TileTelling.{first_joined, other_joined}
use Rattle.mp_workers.proofs.told_tiles.ToldTilesTelling.join.Goals as goal

pub returns-clause-told : goal.returns-clause-told
returns-clause-told c = λ piece known.
    first_joined c.args.self.now.own c.args.hold.now.told c.args.other.told c.join.new.hold.told piece
    c.join.ensures.told known

pub returns-clause-others : goal.returns-clause-others
returns-clause-others c = λ piece known.
    other_joined c.args.self.now.own c.args.hold.now.told c.args.other.told c.join.new.hold.told piece
    c.join.ensures.told known
