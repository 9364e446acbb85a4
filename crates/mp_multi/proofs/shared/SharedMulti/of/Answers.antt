use Rattle.std.proofs.Common.{arith}
use Rattle.mp_tiles.specs.RowPartLaws.{parts_count}
use Rattle.mp_multi.proofs.shared.SharedMulti.of.Goals as goal

pub returns-clause-few : goal.returns-clause-few
returns-clause-few g c = omega (arith, parts_count c.args.parts c.args.summed.now.tiles, c.requires.cut.pieces)
