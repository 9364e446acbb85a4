use Rattle.std.proofs.Common.{◌∙◌, sym, ap}
use Rattle.mp_defs.specs.Series.{reading_of}
use Rattle.mp_defs.specs.SeriesLaws.{series_are_of_samples}
use Rattle.mp_skips.specs.Totals.{raised}
use Rattle.mp_skips.proofs.fills.level_at.Goals as goal

pub returns : goal.returns
returns c =
    c.level_of.ensures ∙ ap (λ s. raised c.args.low (reading_of s)) c.sample_at.ensures
    ∙ ap (raised c.args.low) (sym (series_are_of_samples.numbers c.args.samples.now c.args.place))
