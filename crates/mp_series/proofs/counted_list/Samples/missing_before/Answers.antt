use Rattle.std.proofs.Common.{◌∙◌, sym, ap, arith}
use Rattle.mp_series.specs.Samples.{missing_before}
use Rattle.mp_series.proofs.MissingCounts.{none_before}
use Rattle.mp_series.proofs.counted_list.Samples.missing_before.Goals as goal

pub returns-then-count-eq0-clause-count : goal.returns-then-count-eq0-clause-count
returns-then-count-eq0-clause-count c =
    sym (ap (missing_before c.args.self.now.items) (omega (arith, c.if-count-eq0.true))
    ∙ none_before c.args.self.now.items)
