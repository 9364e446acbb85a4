use Rattle.std.proofs.Common.{◌∙◌, sym, arith}
use Rattle.std.proofs.lemmas.List.{get_or_default}
use Rattle.mp_nums.specs.declared.samples.Sample.TheVariants.{Missing}
use Rattle.mp_defs.specs.Series.{series_of}
use Rattle.mp_scans.proofs.MarkLemmas.{both_hold, clear_on, there_at}
use Rattle.mp_scans.proofs.marks.are_there.Goals as goal

pub loop-place-preserved : goal.loop-place-preserved
loop-place-preserved c = λ is.
    let samples = c.args.samples.now in
    let place = c.loop-place.place in
    let both = both_hold c.loop-place.there c.is_there-there.result is in
    let read = c.index-samples-place.result in
    let there = there_at samples place read c.is_there-there.result
    (c.index-samples-place.is ∙ get_or_default samples place read Missing (omega arith)) c.is_there-there.ensures in
    clear_on (series_of samples) c.args.from c.args.from place (c.loop-place.invariant both.0) (sym there ∙ both.1)
