use Rattle.std.proofs.Common.{◌+◌, ◌-◌, arith}
use Rattle.mp_scans.proofs.LimitLemmas.{inside, quiet_strip, quiet_scanned}
use Rattle.mp_scans.proofs.runs.pass_over.Goals as goal

pub returns-clause-scanned : goal.returns-clause-scanned
returns-clause-scanned g c =
    let strip = c.args.strip.now in
    let b = strip.block in
    let d = b.column - b.row + strip.offset in
    quiet_scanned g.met.O.Offers.limits b.grid _ c.args.into.now c.requires.known.places
    (λ i j is. omega (
      arith,
      (inside d (d + strip.width) (b.row + c.args.from) (b.row + c.run.result) i j is).left,
      b.order,
      c.requires.apart,
    ))
    (quiet_strip strip (g.O.Offers.keeps_row c.args.into.now) (g.O.Offers.keeps_column c.args.into.now)
    _ _ c.args.from c.run.result c.run.ensures.within c.requires.known.limits c.run.ensures.above)
