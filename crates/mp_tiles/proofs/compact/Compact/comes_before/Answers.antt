use Rattle.std.proofs.Common.{arith}
use Rattle.mp_tiles.proofs.CompactLemmas.{before_by, behind_by, order_by}
use Rattle.mp_tiles.proofs.compact.Compact.comes_before.Goals as goal

pub returns-clause-order : goal.returns-clause-order
returns-clause-order c =
    order_by c.self.inside.number c.other.inside.number c.args.self.now c.args.other.now c.self.view_is c.other.view_is
    (omega arith) (omega arith)

pub returns-clause-before : goal.returns-clause-before
returns-clause-before c =
    before_by c.self.inside.number c.other.inside.number c.args.self.now c.args.other.now c.self.view_is c.other.view_is
    (omega arith)

pub returns-clause-behind : goal.returns-clause-behind
returns-clause-behind c =
    behind_by c.self.inside.number c.other.inside.number c.args.self.now c.args.other.now c.self.view_is c.other.view_is
    (omega arith)
