use Rattle.std.proofs.Common.{◌+◌, ◌-◌, arith, sym, ◌∙◌}
use Rattle.mp_defs.specs.Series.{series_of}
use Rattle.mp_pan.proofs.Reading.{ends_before}
use Rattle.mp_pan.proofs.lengths.Lengths.reach.Goals as goal

pub returns-then-not-is_there-clause-free : goal.returns-then-not-is_there-clause-free
returns-then-not-is_there-clause-free c k less free =
    let lengths = c.args.self.now in
    ends_before lengths.least k c.loop-k.k (series_of lengths.samples.now) c.args.window
    (c.args.window + lengths.least + c.loop-k.k - 1) free c.loop-k.invariant (omega (arith, c.loop-k.invariant))
    (sym c.if-not-is_there.true ∙ c.is_there.ensures)
