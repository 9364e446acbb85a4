use Rattle.std.proofs.Common.{◌≡◌, ◌∙◌, ℕ, map, refl, ap, sym}
use Rattle.mp_defs.specs.Profile.{Columns, matrix_profile}
use Rattle.mp_defs.specs.Series.{Series, series_of}
use Rattle.mp_results.specs.Motifs.{motifs, repeated_of}
use Rattle.mp_replies.specs.Command.{MotifsReport}
use Rattle.mp_replies.specs.Command as asked
use Rattle.mp_replies.specs.MotifsCommand.{motif_query}
use Rattle.mp_replies.specs.State.{series_at}
use Rattle.mp_stores.specs.StoreLaws.{channel_lasts, items_last, series_stands}
use Rattle.mp_stores.specs.Stores.{channel_series}
use Rattle.mp_requests.specs.declared.reports.Report.TheVariants as report
use Rattle.mp_requests.proofs.ReportLemmas.{only_series, reported}
use Rattle.mp_requests.proofs.requests.motifs_command.report_motifs.Goals as goal

pub profile-requires : goal.profile-requires
profile-requires g c =
    channel_lasts c.args.stores.now c.copies.new.self c.args.repeats.at c.copies.ensures.stands
    c.in_default.ensures.channel

pub motifs-requires-clause-profile : goal.motifs-requires-clause-profile
motifs-requires-clause-profile g c κs within =
    let held = c.copies.new.self in
    let old = c.args.stores.now in
    let at = c.args.repeats.at in
    let copy : series_of c.series.result.now ≡ channel_series old at =
    only_series _ c.series.result.now (channel_series old at) c.series.ensures c.in_ok-list.ensures.series in
    let same : channel_series held at ≡ series_of c.series.result.now =
    ap series_of (items_last old held at c.copies.ensures.stands) ∙ sym copy in
    c.all.ensures.column
    ∙ (ap (λ (cs : Columns). cs.all) c.profile.ensures
    ∙ (ap (λ (s : Series). (matrix_profile held.m s).all) same
    ∙ ap (λ (n : ℕ). (matrix_profile n (series_of c.series.result.now)).all) (sym c.window_len.ensures.m)))

pub returns-clause-report : goal.returns-clause-report
returns-clause-report g c =
    let old = c.args.stores.now in
    let at = c.args.repeats.at in
    let sought = c.args.repeats in
    let query = motif_query sought.count sought.cutoff sought.radius sought.neighbours sought.matches in
    reported c.args.context (asked.Motifs at query) old (report.Motifs c.in_ok-found.found) tt refl refl refl
    (λ stores files. c.in_default.ensures.cause stores)
    (λ stores files stand.
    let copy : series_of c.series.result.now ≡ series_at stores at =
    only_series _ c.series.result.now (channel_series old at) c.series.ensures c.in_ok-list.ensures.series
    ∙ sym (series_stands old stores at stand c.in_default.ensures.channel) in
    let window : c.window_len.result ≡ old.m = c.window_len.ensures.m ∙ c.copies.ensures.stands.window_is in
    let found : map repeated_of c.in_ok-found.found.items ≡ motifs old.m (series_at stores at) query =
    c.in_ok-found.ensures
    ∙ (ap (λ (s : Series). motifs c.window_len.result s query) copy
    ∙ ap (λ (n : ℕ). motifs n (series_at stores at) query) window) in
    ap MotifsReport found)
