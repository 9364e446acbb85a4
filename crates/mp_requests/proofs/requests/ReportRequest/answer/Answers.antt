use Rattle.std.proofs.Common.{Ok, ap, subst, sym}
use Rattle.mp_nums.specs.declared.refusal.Memory.{Memory}
use Rattle.mp_replies.specs.Line.{Asked}
use Rattle.mp_requests.specs.Reports.{IsReported}
use Rattle.mp_requests.specs.Requests.{reported_in}
use Rattle.mp_requests.proofs.requests.ReportRequest.answer.Goals as goal

pub returns-in-Session-clause-report : goal.returns-in-Session-clause-report
returns-in-Session-clause-report g c =
    let answer = c.report_session.result in
    subst (λ (what : Asked). IsReported {E = Memory} c.args.context what c.args.stores.now (Ok answer))
    (sym (ap reported_in c.in-Session.is))
    (record {
      told = c.report_session.ensures c.args.stores.now;
      memory = λ stores stand. tt;
    })
