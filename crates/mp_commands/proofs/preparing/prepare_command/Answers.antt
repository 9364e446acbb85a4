use Rattle.std.proofs.Common.{Ok, ◌∙◌, ap, rules, subst, sym}
use Rattle.mp_lines.specs.Lines.{asked_by}
use Rattle.mp_replies.specs.Line.{Asked}
use Rattle.mp_replies.specs.Step.{fetches_by}
use Rattle.mp_requests.specs.Requests.{is_ended, kind_by, reported_in}
use Rattle.mp_requests.specs.Answering.{state_over}
use Rattle.mp_requests.specs.declared.answers.Answer.{Answer}
use Rattle.mp_commands.specs.Preparing.{IsPreparedBySome, IsReady}
use Rattle.mp_commands.proofs.FileLemmas.{needs_none, no_file, unasked}
use Rattle.mp_commands.proofs.PreparingLemmas.{can_keep, keep_adds, keep_covers, keep_puts, names_last}
use Rattle.mp_commands.proofs.PreparingLemmas.{prepared_quiet, prepared_report, report_needs_none, taken_for}
use Rattle.mp_commands.proofs.preparing.prepare_command.Goals as goal

pub returns-in_ok-answer-in-Report-clause-prepared : goal.returns-in_ok-answer-in-Report-clause-prepared
returns-in_ok-answer-in-Report-clause-prepared g c =
    let request = c.in-Report.request in
    let held = c.args.stores.now in
    let prepared = c.keeping-in-Report.result in
    let told = c.in_ok-answer-in-Report.ensures.report.told in
    taken_for _ c.args.context (asked_by c.args.command) (reported_in request) held (Ok prepared) c.in-Report.ensures
    (record {
      ok = λ stores files stand tells.
          prepared_report (state_over c.args.context held stores) files request prepared
          c.in_ok-answer-in-Report.field-0 (told.ok stores files stand) c.keeping-in-Report.ensures.answer
          c.keeping-in-Report.ensures.change;
      stop = λ stores stand. tt;
    })

pub returns-in_ok-answer-in-Report-clause-some_files : goal.returns-in_ok-answer-in-Report-clause-some_files
returns-in_ok-answer-in-Report-clause-some_files g c =
    let request = c.in-Report.request in
    let held = c.args.stores.now in
    let prepared = c.keeping-in-Report.result in
    let told = c.in_ok-answer-in-Report.ensures.report.told in
    subst (λ (what : Asked). IsPreparedBySome c.args.context what held prepared) c.in-Report.ensures
    (record {
      files = no_file;
      is = λ stores stand.
          prepared_report (state_over c.args.context held stores) no_file request prepared
          c.in_ok-answer-in-Report.field-0 (told.ok stores no_file stand) c.keeping-in-Report.ensures.answer
          c.keeping-in-Report.ensures.change;
    })

pub returns-in-Blank-clause-some_files : goal.returns-in-Blank-clause-some_files
returns-in-Blank-clause-some_files g c =
    subst (λ (what : Asked). IsPreparedBySome c.args.context what c.args.stores.now c.keeping.result) c.in-Blank.ensures
    (prepared_quiet c.args.context c.args.stores.now c.keeping.result c.keeping.ensures.answer c.keeping.ensures.change)

pub returns-in_ok-answer-in-Report-clause-ready : goal.returns-in_ok-answer-in-Report-clause-ready
returns-in_ok-answer-in-Report-clause-ready g c =
    let request = c.in-Report.request in
    let new = c.answer.new.stores in
    let prepared = c.keeping-in-Report.result in
    let kept = c.keeping-in-Report.ensures.change in
    let same = c.keeping-in-Report.ensures.answer in
    let told = c.in_ok-answer-in-Report.ensures.report.told in
    let last = c.answer.ensures.stores.kept.stands in
    subst (λ (what : Asked). IsReady what new prepared) c.in-Report.ensures
    (record {
      can = can_keep new prepared.change kept;
      kept = λ h. kept;
      renewed = λ slot put. keep_puts prepared.change slot _ kept put;
      advanced = λ slot cover. keep_covers prepared.change slot _ kept cover;
      adds = keep_adds (reported_in request) prepared.change kept;
      names = rw same (names_last c.args.stores.now new c.in_ok-answer-in-Report.field-0 last told.names);
      ends = ap (λ (a : Answer). is_ended (kind_by a)) same ∙ told.ends;
      mode = rw same told.mode;
    })

pub returns-in-Blank-clause-shelf : goal.returns-in-Blank-clause-shelf
returns-in-Blank-clause-shelf g c =
    unasked c.args.shelf.now
    (needs_none c.args.context (asked_by c.args.command) c.args.stores.now
    (λ state. ap (fetches_by state) (sym c.in-Blank.ensures)))
    (λ fault. absurd (cc fault))

pub returns-in_ok-answer-in-Report-clause-shelf : goal.returns-in_ok-answer-in-Report-clause-shelf
returns-in_ok-answer-in-Report-clause-shelf g c =
    unasked c.args.shelf.now
    (needs_none c.args.context (asked_by c.args.command) c.args.stores.now
    (λ state. ap (fetches_by state) (sym c.in-Report.ensures) ∙ report_needs_none state c.in-Report.request))
    (λ fault. absurd (cc fault))

pub returns-in_err-answer-in-Report-clause-shelf : goal.returns-in_err-answer-in-Report-clause-shelf
returns-in_err-answer-in-Report-clause-shelf g c =
    unasked c.args.shelf.now
    (needs_none c.args.context (asked_by c.args.command) c.args.stores.now
    (λ state. ap (fetches_by state) (sym c.in-Report.ensures) ∙ report_needs_none state c.in-Report.request))
    (search rules)
