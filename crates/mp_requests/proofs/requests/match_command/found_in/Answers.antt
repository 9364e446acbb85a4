use Rattle.std.proofs.Common.{◌≡◌, ◌∙◌, List, ap}
use Rattle.std.proofs.lemmas.Result.{IfOk-weaker}
use Rattle.std.specs.Prelude.{Option, None}
use Rattle.mp_nums.specs.declared.nearest.Sq.{Sq}
use Rattle.mp_defs.specs.Series.{Series, series_of}
use Rattle.mp_results.specs.Matches.{matches}
use Rattle.mp_results.specs.Slide.{distances_of}
use Rattle.mp_replies.specs.WindowCommand.{window_at}
use Rattle.mp_requests.proofs.ReportLemmas.{part_of_series}
use Rattle.mp_requests.proofs.requests.match_command.found_in.Goals as goal

pub returns : goal.returns
returns g c =
    let m = c.args.m in
    let start = c.args.pattern.start in
    let radius = c.args.pattern.radius in
    let max = c.args.pattern.max in
    let series = series_of c.args.series.now in
    let from = series_of c.args.from.now in
    let window : series_of c.window_of-window.result.now ≡ window_at m from start =
    ap series_of c.window_of-window.ensures ∙ part_of_series start m c.args.from.now in
    let dist : c.as_slice.result.now ≡ distances_of (window_at m from start) series =
    c.as_slice.ensures ∙ (c.in-Ok.ensures.distances ∙ ap (λ (s : Series). distances_of s series) window) in
    IfOk-weaker c.matches.result _ _
    (λ list is.
    is
    ∙ (ap (λ (d : List (Option Sq)). matches d c.excl.result None radius max) dist
    ∙ ap (λ z. matches (distances_of (window_at m from start) series) z None radius max) c.excl.ensures))
    c.matches.ensures.matches
