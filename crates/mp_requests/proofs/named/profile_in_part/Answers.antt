use Rattle.std.proofs.Common.{◌∙◌, ap, sym}
use Rattle.std.proofs.lemmas.Result.{IfOk-weaker}
use Rattle.mp_replies.specs.Report.{report_written}
use Rattle.mp_replies.specs.declared.modes.ReportForm.{ReportForm}
use Rattle.mp_replies.specs.declared.modes.ReportForm.TheVariants.{Json, Text}
use Rattle.mp_requests.specs.Requests.{part_report}
use Rattle.mp_requests.proofs.PartLemmas.{part_lent}
use Rattle.mp_requests.proofs.named.profile_in_part.Goals as goal

pub returns-in-Text : goal.returns-in-Text
returns-in-Text c =
    let line = c.args.line in
    let part = c.args.part.now in
    IfOk-weaker c.partial_text.result _ _
    (λ text told.
    told
    ∙ ap (report_written Text line)
    (part_lent c.profile.result.now c.left-left.result part c.profile.ensures.all c.profile.ensures.left
    c.profile.ensures.right c.left-left.ensures)
    ∙ ap (λ (form : ReportForm). report_written form line (part_report part)) (sym c.in-Text.is))
    c.partial_text.ensures

pub returns-in-Json : goal.returns-in-Json
returns-in-Json c =
    let line = c.args.line in
    let part = c.args.part.now in
    IfOk-weaker c.partial_json.result _ _
    (λ text told.
    told
    ∙ ap (report_written Json line)
    (part_lent c.profile-in-Json.result.now c.left-left.result part c.profile-in-Json.ensures.all
    c.profile-in-Json.ensures.left c.profile-in-Json.ensures.right c.left-left.ensures)
    ∙ ap (λ (form : ReportForm). report_written form line (part_report part)) (sym c.in-Json.is))
    c.partial_json.ensures
