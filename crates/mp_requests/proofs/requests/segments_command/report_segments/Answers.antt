use Rattle.std.proofs.Common.{◌≡◌, ◌*◌, ◌≤◌, ◌∙◌, ℕ, List, ap, length, map, refl, sym, arith}
use Rattle.mp_defs.specs.Limits.{max_samples}
use Rattle.mp_defs.specs.Profile.{matrix_profile}
use Rattle.mp_defs.specs.Series.{Series}
use Rattle.mp_results.specs.Arcs.{arcs_of, indices_of}
use Rattle.mp_results.specs.Curve.{curve_of, parts_of}
use Rattle.mp_results.specs.Regimes.{regimes_in}
use Rattle.mp_replies.specs.Command.{SegmentsReport}
use Rattle.mp_replies.specs.Command as asked
use Rattle.mp_replies.specs.SegmentsCommand.{curve_in}
use Rattle.mp_replies.specs.State.{series_at}
use Rattle.mp_stores.specs.StoreLaws.{series_stands}
use Rattle.mp_stores.specs.Stores.{channel_series}
use Rattle.mp_replies.specs.ArcLaws.{arcs_few, arcs_within, regimes_within}
use Rattle.mp_requests.specs.declared.reports.Report.TheVariants as report
use Rattle.mp_requests.specs.Answering.{state_over}
use Rattle.mp_requests.specs.AnswerLaws.{answer_accepted}
use Rattle.mp_requests.proofs.requests.segments_command.report_segments.Goals as goal

pub corrected-requires-clause-places : goal.corrected-requires-clause-places
corrected-requires-clause-places c =
    let held = c.args.stores.now in
    let series = channel_series held c.args.sought.at in
    let short : length series ≤ max_samples =
    omega (arith, c.channel_len-within.ensures.length, c.channel_len-within.ensures.within) in
    arcs_within held.m series c.as_slice.result.now
    (omega (arith, c.window_len-m.ensures.m, c.window_len-m.ensures.shortest)) short
    (c.as_slice.ensures ∙ c.in_ok-arcs.ensures)

pub corrected-requires-clause-counts : goal.corrected-requires-clause-counts
corrected-requires-clause-counts c =
    let held = c.args.stores.now in
    let series = channel_series held c.args.sought.at in
    let short : length series ≤ max_samples =
    omega (arith, c.channel_len-within.ensures.length, c.channel_len-within.ensures.within) in
    arcs_few held.m series c.as_slice.result.now c.arcs_are_few.ensures
    (omega (arith, c.window_len-m.ensures.m, c.window_len-m.ensures.shortest)) short
    (c.as_slice.ensures ∙ c.in_ok-arcs.ensures)

pub invariant_of-result : goal.invariant_of-result
invariant_of-result c = record {
  on_curve =
      regimes_within c.as_slice-2.result.now _ _ _ _ c.in_ok-places.places.items c.in_ok-places.ensures.described refl
      (ap length c.as_slice-2.ensures.value);
}

pub returns : goal.returns
returns c = record {
  told = record {
    ok = λ stores files stand.
        let held = c.args.stores.now in
        let at = c.args.sought.at in
        let count = c.args.sought.count in
        let factor = c.args.sought.factor in
        let curve = curve_in held.m (matrix_profile held.m (series_at stores at)).all factor in
        let arcs : c.as_slice.result.now ≡ arcs_of (indices_of (matrix_profile held.m (series_at stores at)).all) =
        c.as_slice.ensures
        ∙ (c.in_ok-arcs.ensures
        ∙ ap (λ (s : Series). arcs_of (indices_of (matrix_profile held.m s).all))
        (sym (series_stands held stores at stand c.in_default.ensures.channel))) in
        let parts : map parts_of c.in_ok-curve.curve.items ≡ curve =
        c.in_ok-curve.ensures
        ∙ (ap (λ (n : ℕ). curve_of c.as_slice.result.now n factor) c.window_len-m.ensures.m
        ∙ ap (λ (counts : List ℕ). curve_of counts held.m factor) arcs) in
        let a = c.from.result in
        let b = c.from-2.result in
        let places : c.in_ok-places.places.items ≡ regimes_in curve (factor * held.m) count =
        c.in_ok-places.ensures.by_parts
        ∙ (ap (λ (cs : List (ℕ × ℕ)). regimes_in cs (a * b) count) (ap (map parts_of) c.as_slice-2.ensures.value
        ∙ parts)
        ∙ (ap (λ (n : ℕ). regimes_in curve (n * b) count) c.from.ensures
        ∙ ap (λ (n : ℕ). regimes_in curve (factor * n) count) (c.from-2.ensures ∙ c.window_len-m.ensures.m))) in
        answer_accepted (state_over c.args.context held stores) files (asked.Segments at count factor)
        (report.Segments (record {
          places = c.in_ok-places.places;
          curve = c.in_ok-curve.curve;
          on_curve =
              regimes_within c.as_slice-2.result.now _ _ _ _ c.in_ok-places.places.items
              c.in_ok-places.ensures.described refl (ap length c.as_slice-2.ensures.value);
        }))
        (c.in_default.ensures.cause stores stand) refl
        (ap (λ (ps : List ℕ). SegmentsReport ps (map parts_of c.in_ok-curve.curve.items)) places
        ∙ ap (SegmentsReport (regimes_in curve (factor * held.m) count)) parts);
    names = tt;
    ends = refl;
    mode = refl;
  };
  memory = λ stores stand. tt;
}
