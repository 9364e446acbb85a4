use Rattle.std.proofs.Common.{◌+◌, ◌-◌, length, drop}
use Rattle.mp_defs.specs.Series.{series_of}
use Rattle.mp_sums.specs.Sums.{numbers_of}
use Rattle.mp_sums.specs.Rounding.{rounded}
use Rattle.mp_scans.proofs.FillLemmas.{first_numbers, later_numbers}
use Rattle.mp_scans.proofs.firsts.fill_short.Goals as goal

pub returns-clause-changes : goal.returns-clause-changes
returns-clause-changes c =
    let x = rounded c.args.rounding.now.shift (numbers_of (series_of c.args.samples.now)) in
    let start = c.args.start in
    let m = c.args.rounding.now.m in
    let numbers = c.fill.new.numbers in
    c.fill_changes.ensures.changes m x start
    (first_numbers x start (length c.args.differences.now) numbers c.fill.ensures.numbers)
    (first_numbers x (start + m) (length numbers - m) (drop m numbers)
    (later_numbers x start m numbers c.fill.ensures.numbers))
