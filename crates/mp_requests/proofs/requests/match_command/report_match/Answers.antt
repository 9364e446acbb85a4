use Rattle.std.proofs.Common.{◌≡◌, ◌∙◌, ◌∷◌, [], ℕ, length, refl, ap, sym, arith}
use Rattle.std.proofs.lemmas.List.{length-map}
use Rattle.mp_defs.specs.Series.{Series, reading_of, series_of}
use Rattle.mp_replies.specs.Command.{MatchReport}
use Rattle.mp_replies.specs.Command as asked
use Rattle.mp_replies.specs.MatchCommand.{matches_in}
use Rattle.mp_replies.specs.State.{series_at}
use Rattle.mp_requests.specs.declared.reports.Report.TheVariants as report
use Rattle.mp_requests.proofs.ReportLemmas.{first_copy, reported, second_copy, series_of_refs}
use Rattle.mp_requests.proofs.requests.match_command.report_match.Goals as goal

pub found_in-requires-after_bounds : goal.found_in-requires-after_bounds
found_in-requires-after_bounds g c = λ κs within.
    let samples = c.series-from.result.now in
    let same = second_copy _ _ _ _ _ c.in_ok-list.ensures.series c.series-from.ensures in
    let m = c.window_len-m.ensures.m ∙ c.in_ok-list.ensures.stands.window_is in
    omega (arith, m, sym (length-map samples reading_of) ∙ ap length same, c.in_default.ensures.window)

pub returns-clause-report : goal.returns-clause-report
returns-clause-report g c =
    let held = c.args.stores.now in
    let at = c.args.pattern.at in
    let query = c.args.pattern.query in
    let start = c.args.pattern.start in
    let radius = c.args.pattern.radius in
    let max = c.args.pattern.max in
    reported c.args.context (asked.Match at query start radius max) held (report.Match c.in_ok-found.found) tt refl refl
    refl
    (λ stores files. c.in_default.ensures.cause stores)
    (λ stores files stand.
    let a = series_at stores at in
    let copies = c.in_ok-list.ensures.series
    ∙ series_of_refs held stores (at ∷ query ∷ []) stand c.in_default.ensures.channels in
    let series = series_of c.series-series.result.now in
    let from = series_of c.series-from.result.now in
    let m : c.window_len-m.result ≡ held.m = c.window_len-m.ensures.m ∙ c.in_ok-list.ensures.stands.window_is in
    ap MatchReport
    (c.in_ok-found.ensures
    ∙ (ap (λ (n : ℕ). matches_in n series from start radius max) m
    ∙ (ap (λ (s : Series). matches_in held.m s from start radius max)
    (first_copy _ _ _ _ copies c.series-series.ensures)
    ∙ ap (λ (s : Series). matches_in held.m a s start radius max)
    (second_copy _ _ _ _ _ copies c.series-from.ensures)))))
