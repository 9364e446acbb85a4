use Rattle.std.proofs.Common.{arith}
use Rattle.mp_workers.proofs.HoldTelling.{all_told}
use Rattle.mp_workers.proofs.telling.run_telling.Goals as goal

pub returns-clause-told : goal.returns-clause-told
returns-clause-told g c = λ piece lt.
    all_told c.in_ok-desk.desk (g.T.Telling.is_hold c.args.work.now) (g.T.Telling.is_told c.args.work.now)
    c.gather.new.pass c.gather.new.hold c.close-next.result piece c.gather.ensures.told c.close-next.ensures
    (omega (arith, lt, c.in_ok-desk.ensures.pieces, c.pieces.ensures))
