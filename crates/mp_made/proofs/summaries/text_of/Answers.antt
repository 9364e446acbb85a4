use Rattle.std.proofs.Common.{◌∙◌, ◌*◌, List, ap, map, sym}
use Rattle.std.proofs.lemmas.Result.{IfOk-weaker}
use Rattle.std.specs.Prelude.{Option, slice_get}
use Rattle.mp_results.specs.Curve.{parts_of}
use Rattle.mp_results.specs.Regimes.{regimes_in}
use Rattle.mp_nums.specs.declared.nearest.Near.{Near}
use Rattle.mp_nums.specs.declared.ratios.Ratio.{Ratio}
use Rattle.mp_replies.specs.SegmentsCommand.{curve_in}
use Rattle.mp_replies.specs.Summary.{summary_factor}
use Rattle.mp_made.proofs.SummaryLemmas.{summary_is}
use Rattle.mp_made.proofs.summaries.text_of.Goals as goal

pub returns : goal.returns
returns c =
    let told =
    summary_is c.args.m c.args.samples c.args.profile.now.all c.excl.result c.in_ok-regime.regime
    (map parts_of c.as_slice-2.result.now) c.excl.ensures
    (c.in_ok-regime.ensures.first
    ∙ ap (λ (curve : List Ratio). slice_get (regimes_in (map parts_of curve) (summary_factor * c.args.m) 1) 0)
    (c.as_slice.ensures.value ∙ sym c.as_slice-2.ensures.value))
    (ap (map parts_of) c.as_slice-2.ensures.value ∙ c.in_ok-curve.ensures
    ∙ ap (λ (windows : List (Option Near)). curve_in c.args.m windows summary_factor) c.all.ensures.column) in
    IfOk-weaker c.generated_text.result _ _ (λ text is. is ∙ told) c.generated_text.ensures
