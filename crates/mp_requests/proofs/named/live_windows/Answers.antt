use Rattle.std.proofs.Common.{◌∙◌, ap, sym}
use Rattle.std.proofs.lemmas.Result.{IfOk-weaker}
use Rattle.mp_replies.specs.Command.{LiveProfileReport}
use Rattle.mp_replies.specs.Report.{report_written}
use Rattle.mp_replies.specs.declared.modes.ReportForm.{ReportForm}
use Rattle.mp_replies.specs.declared.modes.ReportForm.TheVariants.{Json, Text}
use Rattle.mp_defs.specs.Band.{first_kept}
use Rattle.mp_requests.specs.Requests.{columns_kept}
use Rattle.mp_requests.proofs.KeptLemmas.{copied_is}
use Rattle.mp_requests.proofs.named.live_windows.Goals as goal

pub returns-in-Text : goal.returns-in-Text
returns-in-Text c = λ samples stands.
    let line = c.args.line in
    let kept = c.args.kept.now in
    IfOk-weaker c.kept_profile_text.result _ _
    (λ text told.
    told
    ∙ ap (report_written Text line)
    (copied_is c.first-first.result kept c.as_slice-all.result.now c.as_slice-left.result.now
    c.as_slice-right.result.now c.first-first.ensures
    (c.as_slice-all.ensures ∙ c.in_ok-all.ensures.slots samples stands)
    (c.as_slice-left.ensures ∙ c.in_ok-left.ensures.slots samples stands)
    (c.as_slice-right.ensures ∙ c.in_ok-right.ensures.slots samples stands))
    ∙ ap (λ (form : ReportForm).
    report_written form line (LiveProfileReport (first_kept kept.keep kept.count) (columns_kept kept)))
    (sym c.in-Text.is))
    c.kept_profile_text.ensures

pub returns : goal.returns
returns c = λ samples stands.
    let line = c.args.line in
    let kept = c.args.kept.now in
    IfOk-weaker c.kept_profile_json.result _ _
    (λ text told.
    told
    ∙ ap (report_written Json line)
    (copied_is c.first-first.result kept c.as_slice-all.result.now c.as_slice-left.result.now
    c.as_slice-right.result.now c.first-first.ensures
    (c.as_slice-all.ensures ∙ c.in_ok-all.ensures.slots samples stands)
    (c.as_slice-left.ensures ∙ c.in_ok-left.ensures.slots samples stands)
    (c.as_slice-right.ensures ∙ c.in_ok-right.ensures.slots samples stands))
    ∙ ap (λ (form : ReportForm).
    report_written form line (LiveProfileReport (first_kept kept.keep kept.count) (columns_kept kept)))
    (sym c.in-Json.is))
    c.kept_profile_json.ensures
