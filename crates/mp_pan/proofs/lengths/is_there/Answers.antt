use Rattle.std.proofs.Common.{ap, sym, ◌∙◌}
use Rattle.std.specs.Prelude.{is_some}
use Rattle.mp_defs.specs.Series.{reading_of}
use Rattle.mp_pan.proofs.Reading.{number_is}
use Rattle.mp_pan.proofs.lengths.is_there.Goals as goal

pub returns-in-Value : goal.returns-in-Value
returns-in-Value c =
    ap is_some (ap reading_of (sym c.in-Value.is) ∙ number_is c.args.samples.now c.args.place _ c.sample_at.ensures)

pub returns-in-Missing : goal.returns-in-Missing
returns-in-Missing c =
    ap is_some (ap reading_of (sym c.in-Missing.is) ∙ number_is c.args.samples.now c.args.place _ c.sample_at.ensures)
