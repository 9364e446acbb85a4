use Rattle.std.proofs.Common.{sym, ◌∙◌}
use Rattle.mp_defs.specs.Series.{series_of}
use Rattle.mp_scans.proofs.MarkLemmas.{clear_on, clear_anew, there_at}
use Rattle.mp_scans.proofs.marks.clear_after.Goals as goal

pub returns-then-is_there : goal.returns-then-is_there
returns-then-is_there c =
    let there = there_at c.args.samples.now c.args.place c.sample_at.result c.is_there.result c.sample_at.ensures
    c.is_there.ensures in
    clear_on (series_of c.args.samples.now) c.args.from c.args.clear c.args.place c.requires.clear
    (sym there ∙ c.if-is_there.true)

pub returns-else-is_there : goal.returns-else-is_there
returns-else-is_there c =
    let there = there_at c.args.samples.now c.args.place c.sample_at.result c.is_there.result c.sample_at.ensures
    c.is_there.ensures in
    clear_anew (series_of c.args.samples.now) c.args.from c.args.place c.requires.after
    (sym there ∙ c.if-is_there.false)
