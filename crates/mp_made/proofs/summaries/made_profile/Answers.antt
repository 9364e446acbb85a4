use Rattle.std.proofs.Common.{◌∙◌, List, ap, arith, length}
use Rattle.std.proofs.lemmas.List.FromFn.{length-map-range_with_len}
use Rattle.std.proofs.lemmas.Result.{IfOk-weaker}
use Rattle.mp_defs.specs.Profile.{matrix_profile}
use Rattle.mp_defs.specs.Series.{series_of}
use Rattle.mp_nums.specs.declared.samples.Sample.{Sample}
use Rattle.mp_results.specs.Generator.{sample_of}
use Rattle.mp_made.proofs.summaries.made_profile.Goals as goal

pub self_join-requires-clause-samples : goal.self_join-requires-clause-samples
self_join-requires-clause-samples g c =
    omega (
      arith,
      c.requires.count,
      ap length (c.as_slice.ensures.value ∙ c.in_ok-samples.ensures),
      length-map-range_with_len (sample_of c.args.make.number) 0 c.args.make.count,
    )

pub returns : goal.returns
returns g c =
    let m = c.args.m in
    let same = c.as_slice.ensures.value ∙ c.in_ok-samples.ensures in
    IfOk-weaker c.self_join.result _ _
    (λ profile is. is ∙ ap (λ (made : List Sample). (matrix_profile m (series_of made)).all) same)
    c.self_join.ensures.all
