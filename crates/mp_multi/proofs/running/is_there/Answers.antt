use Rattle.std.proofs.Common.{ap, ◌∙◌, sym}
use Rattle.std.specs.Prelude.{is_some}
use Rattle.mp_defs.specs.Series.{reading_of}
use Rattle.mp_multi.proofs.RunningLemmas.{there_at}
use Rattle.mp_multi.proofs.running.is_there.Goals as goal

pub returns-in-Value : goal.returns-in-Value
returns-in-Value c =
    ap (λ s. is_some (reading_of s)) (sym c.in-Value.is)
    ∙ there_at c.args.channel.now c.args.place c.sample_at.result c.sample_at.ensures

pub returns-in-Missing : goal.returns-in-Missing
returns-in-Missing c =
    ap (λ s. is_some (reading_of s)) (sym c.in-Missing.is)
    ∙ there_at c.args.channel.now c.args.place c.sample_at.result c.sample_at.ensures
