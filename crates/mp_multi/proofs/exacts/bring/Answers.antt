use Rattle.std.proofs.Common.{◌+◌, ◌-◌, arith, subst₂}
use Rattle.mp_multi.specs.Running.{AreRunning}
use Rattle.mp_multi.proofs.ScanLemmas.{second_at}
use Rattle.mp_multi.proofs.exacts.bring.Goals as goal

pub loop-i-preserved : goal.loop-i-preserved
loop-i-preserved g c =
    let ch = c.args.channels.now in
    let i = c.loop-i.i in
    let apart = c.args.column - c.args.row in
    second_at ch.m ch.list.now (i + 1) (i + apart + 1) (i + 1 + apart) c.move_on.new.running (omega arith)
    c.move_on.ensures

pub returns-after-loop-i : goal.returns-after-loop-i
returns-after-loop-i g c =
    let ch = c.args.channels.now in
    subst₂ (λ i j. AreRunning ch.m ch.list.now i j c.loop-i.running) (omega arith) (omega (arith, c.requires.order))
    c.loop-i.invariant
