use Rattle.std.proofs.Common.{◌∙◌, ap, sym}
use Rattle.std.proofs.lemmas.Result.{IfOk-weaker}
use Rattle.mp_replies.specs.Commands.{report_text}
use Rattle.mp_requests.specs.declared.reports.Report as reports
use Rattle.mp_requests.specs.Requests.{report_in}
use Rattle.mp_requests.proofs.WrittenLemmas.{chains_written, window_named}
use Rattle.mp_requests.proofs.reports.Report.text.Goals as goal

pub named_entry-requires : goal.named_entry-requires
named_entry-requires c =
    window_named c.args.stores.now c.in-Entry.at c.in-Entry.start c.args.self.now c.in-Entry.is c.requires

pub returns-in-Entry : goal.returns-in-Entry
returns-in-Entry c = λ state slots.
    let line = c.args.line in
    IfOk-weaker c.named_entry.result _ _
    (λ text is. is ∙ ap (λ (r : reports.Report). report_text line (report_in state r)) (sym c.in-Entry.is))
    (c.named_entry.ensures state slots)

pub returns-in-Chains : goal.returns-in-Chains
returns-in-Chains c = λ state slots.
    IfOk-weaker c.chains_text.result _ _
    (λ text is.
    is
    ∙ chains_written state c.args.line c.args.self.now c.in-Chains.chains c.as_slice-chains.result.now
    c.longest.result
    c.in-Chains.is c.as_slice-chains.ensures.value c.longest.ensures)
    c.chains_text.ensures
