use Rattle.std.proofs.Common.{◌+◌, length, ap}
use Rattle.mp_pan.proofs.Placed.{profile_in}
use Rattle.mp_pan.proofs.scans.fill.Goals as goal

pub returns-clause-entries : goal.returns-clause-entries
returns-clause-entries c k less =
    let lengths = c.args.lengths.now in
    profile_in lengths.count lengths.least (c.excl.result + 1) c.windows.result (length c.args.slots.now) k
    lengths.samples.now c.clear.new.slots c.scan_lengths.new.slots (ap (λ n. n + 1) c.excl.ensures)
    c.windows.ensures less c.clear.ensures (rw c.of-plan.ensures.grid at c.scan_lengths.ensures.taken)
