use Rattle.std.proofs.Common.{◌≡◌, ◌+◌, ◌-◌, length, take, drop, ap, arith}
use Rattle.std.proofs.lemmas.Grind.{common_steps}
use Rattle.mp_bytes.proofs.ValueLemmas.{value_found, value_last}
use Rattle.mp_bytes.proofs.values.ValuesIterator.next.Goals as goal

pub returns-in-Some-clause-steps : goal.returns-in-Some-clause-steps
returns-in-Some-clause-steps c =
    let text = c.in_ok-text.text.now in
    let back : take (length text - (c.in-Some.at + 1)) (drop (c.in-Some.at + 1) text) ≡ drop (c.in-Some.at + 1) text =
    grind (arith, common_steps) in
    rw (c.in_ok-text.was, back) (value_found text c.in-Some.at c.in-Some.ensures)

pub returns-in-None-clause-steps : goal.returns-in-None-clause-steps
returns-in-None-clause-steps c =
    rw c.in_ok-text.was (value_last c.in_ok-text.text.now c.in-None.ensures)

pub returns-in-Some-clause-goes : goal.returns-in-Some-clause-goes
returns-in-Some-clause-goes c =
    let e = returns-in-Some-clause-steps c in
    record { on = λ _. (tt, tt, omega (arith, ap length e)); keeps = tt; rests = λ _. tt }

pub returns-in-None-clause-goes : goal.returns-in-None-clause-goes
returns-in-None-clause-goes c =
    let e = returns-in-None-clause-steps c in
    record { on = λ _. (tt, tt, omega (arith, ap length e)); keeps = tt; rests = λ _. tt }
