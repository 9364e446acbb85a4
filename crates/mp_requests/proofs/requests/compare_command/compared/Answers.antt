use Rattle.std.proofs.Common.{◌∙◌, ap, sym}
use Rattle.mp_requests.specs.declared.requests.Comparison.{Comparison}
use Rattle.mp_requests.specs.Requests.{compared_in}
use Rattle.mp_requests.proofs.CompareLemmas.{mpdist_told}
use Rattle.mp_requests.proofs.ReportLemmas.{first_copy, second_copy}
use Rattle.mp_requests.proofs.requests.compare_command.compared.Goals as goal

pub returns-in_ok-dist-in-Mpdist-clause-report : goal.returns-in_ok-dist-in-Mpdist-clause-report
returns-in_ok-dist-in-Mpdist-clause-report g c = λ a b state both.
    let m = c.args.plan.m in
    let list = c.args.list.now in
    let first = c.series-first.result.now in
    let second = c.series-second.result.now in
    mpdist_told m first second a b c.in_ok-there.there.items c.in_ok-back-in-Mpdist.back.items
    c.in_ok-dist-in-Mpdist.dist
    (first_copy list first a _ both c.series-first.ensures) (second_copy list second a b _ both c.series-second.ensures)
    c.in_ok-there.ensures c.in_ok-back-in-Mpdist.ensures
    (rw (c.as_slice.ensures, c.as_slice-in-Mpdist.ensures) at c.in_ok-dist-in-Mpdist.ensures)
    ∙ ap (λ (by : Comparison). compared_in by m a b) (sym c.in-Mpdist.is)
