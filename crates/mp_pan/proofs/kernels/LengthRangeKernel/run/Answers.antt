use Rattle.std.proofs.Common.{◌+◌, ◌-◌, ap, arith}
use Rattle.mp_defs.specs.Series.{series_of}
use Rattle.mp_pan.specs.Ranges.{found_value}
use Rattle.mp_pan.proofs.Putting.{span_taken}
use Rattle.mp_pan.proofs.kernels.LengthRangeKernel.run.Goals as goal

pub returns-clause-value : goal.returns-clause-value
returns-clause-value c =
    let range = c.args.self.now in
    let span = c.span.result in
    span_taken range.lo range.count (span.least - range.lo) (span.least - range.lo + span.count) c.args.piece
    (series_of span.samples.now) (series_of range.samples.now) (found_value c.args.into.now)
    (found_value c.take.new.self) (omega (arith, c.span.ensures.least))
    (omega (arith, c.span.ensures.least, c.span.ensures.end)) (ap series_of c.span.ensures.samples)
    c.take.ensures.value
