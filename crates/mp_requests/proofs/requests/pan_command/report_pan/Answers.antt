use Rattle.std.proofs.Common.{◌≡◌, ◌∙◌, refl, ap, sym}
use Rattle.mp_defs.specs.Series.{series_of}
use Rattle.mp_results.specs.Pan.{pan_of}
use Rattle.mp_replies.specs.Command.{PanReport}
use Rattle.mp_replies.specs.Command as asked
use Rattle.mp_replies.specs.State.{series_at}
use Rattle.mp_stores.specs.StoreLaws.{series_stands}
use Rattle.mp_stores.specs.Stores.{channel_series}
use Rattle.mp_requests.specs.declared.reports.Report.TheVariants as report
use Rattle.mp_requests.proofs.ReportLemmas.{only_series, reported}
use Rattle.mp_requests.proofs.requests.pan_command.report_pan.Goals as goal

pub returns-clause-report : goal.returns-clause-report
returns-clause-report g c =
    let old = c.args.stores.now in
    let at = c.args.sought.at in
    let lo = c.args.sought.lo in
    let hi = c.args.sought.hi in
    reported c.args.context (asked.Pan at lo hi) old (report.Pan c.in_ok-rows.rows) tt refl refl refl
    (λ stores files. c.in_default.ensures.cause stores)
    (λ stores files stand.
    let copy : series_of c.series.result.now ≡ series_at stores at =
    only_series _ c.series.result.now (channel_series old at) c.series.ensures c.in_ok-list.ensures.series
    ∙ sym (series_stands old stores at stand c.in_default.ensures.channel) in
    ap PanReport (c.in_ok-rows.ensures ∙ ap (pan_of lo hi) copy))
