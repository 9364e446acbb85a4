use Rattle.std.proofs.Common.{◌≡◌, ◌∙◌, ℕ, refl, ap, sym}
use Rattle.mp_defs.specs.Series.{Series, series_of}
use Rattle.mp_results.specs.Ranks.{ranks_of}
use Rattle.mp_replies.specs.Command.{NearestReport}
use Rattle.mp_replies.specs.Command as asked
use Rattle.mp_replies.specs.State.{series_at}
use Rattle.mp_stores.specs.StoreLaws.{series_stands}
use Rattle.mp_stores.specs.Stores.{channel_series}
use Rattle.mp_requests.specs.declared.reports.Report.TheVariants as report
use Rattle.mp_requests.proofs.ReportLemmas.{only_series, reported}
use Rattle.mp_requests.proofs.requests.nearest_command.report_nearest.Goals as goal

pub returns-clause-report : goal.returns-clause-report
returns-clause-report g c =
    let old = c.args.stores.now in
    let at = c.args.sought.at in
    let k = c.args.sought.k in
    reported c.args.context (asked.Nearest at k) old (report.Nearest c.in_ok-lists.lists) tt refl refl refl
    (λ stores files. c.in_default.ensures.cause stores)
    (λ stores files stand.
    let copy : series_of c.series.result.now ≡ series_at stores at =
    only_series _ c.series.result.now (channel_series old at) c.series.ensures c.in_ok-list.ensures.series
    ∙ sym (series_stands old stores at stand c.in_default.ensures.channel) in
    let window : c.plan-plan.result.m ≡ old.m =
    c.plan-plan.ensures ∙ (c.window_len.ensures.m ∙ c.copies.ensures.stands.window_is) in
    ap NearestReport
    (c.in_ok-lists.ensures
    ∙ (ap (λ (n : ℕ). ranks_of k n (series_of c.series.result.now)) window
    ∙ ap (λ (s : Series). ranks_of k old.m s) copy)))
