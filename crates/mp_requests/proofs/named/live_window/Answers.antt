use Rattle.std.proofs.Common.{◌∙◌, ap, sym}
use Rattle.std.proofs.lemmas.Result.{IfOk-weaker}
use Rattle.mp_replies.specs.Report.{report_written}
use Rattle.mp_replies.specs.declared.modes.ReportForm.{ReportForm}
use Rattle.mp_replies.specs.declared.modes.ReportForm.TheVariants.{Json, Text}
use Rattle.mp_requests.specs.Requests.{entry_kept}
use Rattle.mp_requests.proofs.KeptLemmas.{lent_is}
use Rattle.mp_requests.proofs.named.live_window.Goals as goal

pub returns-in-Text : goal.returns-in-Text
returns-in-Text c =
    let line = c.args.line in
    let kept = c.args.kept.now in
    let start = c.args.start in
    IfOk-weaker c.kept_entry_text.result _ _
    (λ text told.
    told
    ∙ ap (report_written Text line)
    (lent_is start kept c.slot-all.result c.slot-left.result c.slot-right.result c.slot-all.ensures
    c.slot-left.ensures c.slot-right.ensures)
    ∙ ap (λ (form : ReportForm). report_written form line (entry_kept kept start)) (sym c.in-Text.is))
    c.kept_entry_text.ensures

pub returns-in-Json : goal.returns-in-Json
returns-in-Json c =
    let line = c.args.line in
    let kept = c.args.kept.now in
    let start = c.args.start in
    IfOk-weaker c.kept_entry_json.result _ _
    (λ text told.
    told
    ∙ ap (report_written Json line)
    (lent_is start kept c.slot-all.result c.slot-left.result c.slot-right.result c.slot-all.ensures
    c.slot-left.ensures c.slot-right.ensures)
    ∙ ap (λ (form : ReportForm). report_written form line (entry_kept kept start)) (sym c.in-Json.is))
    c.kept_entry_json.ensures
