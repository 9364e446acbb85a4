use Rattle.std.proofs.Common.{◌∙◌, refl, rules}
use Rattle.mp_bytes.specs.Fields.{fields_in}
use Rattle.mp_stores.specs.Stores.{channel_series}
use Rattle.mp_requests.proofs.ReportLemmas.{copies_of_named, series_of_refs}
use Rattle.mp_requests.proofs.requests.consensus_command.report_consensus.Goals as goal

pub centre_of-requires-clause-two : goal.centre_of-requires-clause-two
centre_of-requires-clause-two g c κs within =
    copies_of_named (fields_in c.args.refs.field.now) _ (channel_series c.args.stores.now) c.in_ok-list.list
    c.args.refs.counted c.gather-count.ensures.refs c.in_ok-list.ensures.series

pub returns-clause-report : goal.returns-clause-report
returns-clause-report g c = record {
  told = record {
    ok = λ stores files stand.
        let copies = c.in_ok-list.ensures.series
        ∙ series_of_refs c.args.stores.now stores _ stand c.in_default.ensures.channels in
        search rules;
    names = tt;
    ends = refl;
    mode = refl;
  };
  memory = λ stores stand. tt;
}
