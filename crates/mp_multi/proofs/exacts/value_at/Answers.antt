use Rattle.std.proofs.Common.{arith, subst}
use Rattle.mp_multi.specs.Running.{AreRunning}
use Rattle.mp_multi.proofs.exacts.value_at.Goals as goal

pub returns-clause-kept : goal.returns-clause-kept
returns-clause-kept g c =
    let ch = c.args.channels.now in
    subst (λ j. AreRunning ch.m ch.list.now c.args.row j c.bring.new.running) (omega (arith, c.requires.order))
    c.bring.ensures

pub returns-clause-value : goal.returns-clause-value
returns-clause-value g c = c.value.ensures c.args.row c.args.column c.bring.ensures
