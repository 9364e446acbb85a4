use Rattle.std.proofs.Common.{◌≡◌, ◌∙◌, ◌∷◌, [], ℕ, ap, sym}
use Rattle.mp_replies.specs.State.{series_at}
use Rattle.mp_requests.specs.Requests.{compared_in}
use Rattle.mp_requests.specs.Answering.{state_over}
use Rattle.mp_requests.proofs.CompareLemmas.{compared_goes_on, compared_in_mode, compared_told}
use Rattle.mp_requests.proofs.ReportLemmas.{series_of_refs}
use Rattle.mp_requests.proofs.requests.compare_command.report_comparison.Goals as goal

pub returns-clause-report : goal.returns-clause-report
returns-clause-report g c = record {
  told = record {
    ok = λ stores files stand.
        let held = c.args.stores.now in
        let pair = c.args.pair in
        let a = series_at stores pair.a in
        let b = series_at stores pair.b in
        let state = state_over c.args.context held stores in
        let copies = c.in_ok-list.ensures.series
        ∙ series_of_refs held stores (pair.a ∷ pair.b ∷ []) stand c.in_default.ensures.channels in
        let m : c.plan-plan.result.m ≡ held.m =
        c.plan-plan.ensures ∙ (c.window_len.ensures.m ∙ c.in_ok-list.ensures.stands.window_is) in
        compared_told pair.by state files pair.a pair.b c.in_ok-report.report (c.in_default.ensures.cause stores stand)
        (c.in_ok-report.ensures.report a b state copies
        ∙ ap (λ (n : ℕ). compared_in pair.by n a b) m);
    names = c.in_ok-report.ensures.names c.args.stores.now;
    ends = compared_goes_on c.args.pair.by c.args.pair.a c.args.pair.b;
    mode =
        c.in_ok-report.ensures.mode ∙ sym (compared_in_mode c.args.pair.by c.args.pair.a c.args.pair.b);
  };
  memory = λ stores stand. tt;
}
