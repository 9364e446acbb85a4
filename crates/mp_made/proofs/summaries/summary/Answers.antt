use Rattle.std.proofs.Common.{◌∙◌, List, ap, arith, length, map, subst, sym}
use Rattle.std.proofs.lemmas.List.FromFn.{length-map-range_with_len}
use Rattle.std.proofs.lemmas.Result.{IfOk-weaker}
use Rattle.std.specs.List.{range_with_len}
use Rattle.std.specs.Prelude.{Option}
use Rattle.mp_nums.specs.declared.nearest.Near.{Near}
use Rattle.mp_results.specs.Arcs.{indices_of, NameWithin}
use Rattle.mp_results.specs.Generator.{sample_of}
use Rattle.mp_replies.specs.ArcLaws.{name_windows}
use Rattle.mp_replies.specs.Summary.{made_series}
use Rattle.mp_made.specs.Summaries.{summary_by}
use Rattle.mp_made.proofs.SummaryLemmas.{column_few}
use Rattle.mp_made.proofs.summaries.summary.Goals as goal

pub text_of-requires-clause-few : goal.text_of-requires-clause-few
text_of-requires-clause-few g c =
    let make = c.args.make in
    let items = map (sample_of make.number) (range_with_len 0 make.count) in
    let made = length-map-range_with_len (sample_of make.number) 0 make.count in
    omega (
      arith,
      ap length c.in_ok-profile.ensures,
      column_few c.args.m items c.requires.shortest (omega (arith, c.requires.count, made)),
    )

pub text_of-requires-clause-named : goal.text_of-requires-clause-named
text_of-requires-clause-named g c =
    subst (λ (windows : List (Option Near)). NameWithin (indices_of windows)) (sym c.in_ok-profile.ensures)
    (name_windows c.args.m (made_series c.args.make))

pub returns : goal.returns
returns g c =
    IfOk-weaker c.text_of.result _ _
    (λ text is. is ∙ ap (summary_by c.args.m c.args.make.count) c.in_ok-profile.ensures) c.text_of.ensures
