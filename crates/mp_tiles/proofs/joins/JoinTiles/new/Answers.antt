use Rattle.std.proofs.Common.{arith}
use Rattle.mp_tiles.proofs.JoinLaws.{together_join}
use Rattle.mp_tiles.proofs.joins.JoinTiles.new.Goals as goal

pub returns-clause-together : goal.returns-clause-together
returns-clause-together c =
    rw c.between-plan.ensures.grid
    (together_join c.args.m c.args.tile c.args.a.now c.args.b.now c.windows-first.result c.windows-second.result
    c.cut_both.result (omega arith) c.windows-first.ensures c.windows-second.ensures c.cut_both.ensures.tiles)
