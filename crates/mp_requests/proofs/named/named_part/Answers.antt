use Rattle.std.proofs.Common.{◌∙◌, ap}
use Rattle.std.proofs.lemmas.Result.{IfOk-weaker}
use Rattle.mp_replies.specs.Report.{report_written}
use Rattle.mp_requests.proofs.PartLemmas.{part_report_is}
use Rattle.mp_requests.proofs.named.named_part.Goals as goal

pub returns : goal.returns
returns c = λ state slots.
    let part = c.in-Some.part.now in
    IfOk-weaker c.profile_in_part.result _ _
    (λ text told.
    told
    ∙ ap (report_written c.args.form c.args.line)
    (part_report_is state c.args.stores.now c.args.slot part slots c.in-Some.ensures.stands.window
    c.in-Some.ensures.some))
    c.profile_in_part.ensures
