use Rattle.std.proofs.Common.{◌∙◌, arith}
use Rattle.mp_defs.specs.Series.{series_of}
use Rattle.mp_scans.proofs.MarkLemmas.{all_are_free}
use Rattle.mp_scans.proofs.marks.mark_free.Goals as goal

pub returns-then-are_there-clause-marks : goal.returns-then-are_there-clause-marks
returns-then-are_there-clause-marks c = record {
  each = λ k lt.
      c.mark_all.ensures.marks k lt
      ∙ all_are_free c.args.m (series_of c.args.samples.now) c.args.start _ k
      (c.are_there.ensures c.if-are_there.true) (omega (arith, lt, c.mark_all.ensures.places));
}
