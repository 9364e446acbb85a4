-- What was prepared for a command, told of the line that asks for it.
use Rattle.std.proofs.Common.{◌≡◌, ◌∙◌, ℕ, List, length, Bool, true, false, refl, ap, sym, subst, arith}
use Rattle.std.specs.Prelude.{Result, Ok, Err, IfOk, Option, Some, None}
use Rattle.mp_defs.specs.Series.{series_of}
use Rattle.mp_replies.specs.declared.causes.Cause.{Cause}
use Rattle.mp_replies.specs.declared.refs.Ref.{Ref}
use Rattle.mp_replies.specs.Change as change
use Rattle.mp_replies.specs.Command as asked
use Rattle.mp_replies.specs.Command.{Command}
use Rattle.mp_replies.specs.Conditions.{first_cause}
use Rattle.mp_replies.specs.LimitLaws.{limits_kept}
use Rattle.mp_replies.specs.Line.{Asked, Nothing, Asks, Faulty, asked_of, ends}
use Rattle.mp_replies.specs.State.{Files, State}
use Rattle.mp_replies.specs.Step.{change_in, conditions, fetches_by, verdict_by, verdict_of}
use Rattle.mp_stores.specs.Stores.{StandAsBefore, Stored}
use Rattle.mp_stores.specs.StoreLaws.{items_last, slot_lasts}
use Rattle.mp_requests.specs.declared.answers.Answer.{Answer}
use Rattle.mp_requests.specs.declared.answers.Answer.TheVariants.{Silent, Refused, Accepted, Ended}
use Rattle.mp_requests.specs.declared.context.Context.{Context}
use Rattle.mp_requests.specs.declared.reports.Report as reports
use Rattle.mp_requests.specs.declared.reports.Report.TheVariants as report
use Rattle.mp_requests.specs.declared.requests.Comparison.{Comparison}
use Rattle.mp_requests.specs.declared.requests.Comparison.TheVariants.{Join, Mpdist}
use Rattle.mp_requests.specs.declared.requests.ReportRequest.{ReportRequest}
use Rattle.mp_requests.specs.declared.requests.ReportRequest.TheVariants.{Compare}
use Rattle.mp_requests.specs.Answering.{IsAnswer}
use Rattle.mp_requests.specs.Requests.{AreNamed, AsksForReport, IsNamed, IsWithinLimits, NamesChannels, compared_by}
use Rattle.mp_requests.specs.Requests.{is_ended, kind_by, reported_in}
use Rattle.mp_commands.specs.declared.prepared.Change.{Change}
use Rattle.mp_commands.specs.declared.prepared.Change.TheVariants.{Keep}
use Rattle.mp_commands.specs.declared.prepared.Prepared.{Prepared}
use Rattle.mp_commands.specs.Preparing.{AddsAsAsked, CanMake, IsPrepared, IsPreparedBySome, IsReady, IsTaken}
use Rattle.mp_commands.specs.Preparing.{changed_by, covers, puts}
use Rattle.mp_commands.proofs.EndLemmas.{ends_by}
use Rattle.mp_commands.proofs.FileLemmas.{no_file}

-- ---- the line

pub limits_by : (version : ℕ) (line : List ℕ) (what : Asked) → what ≡ asked_of version line → IsWithinLimits what
limits_by version line (Asks command) is = limits_kept version line command (sym is)
limits_by version line other is = tt

-- ---- a request

-- what is prepared for a request is what is prepared for its command
pub taken_for : {E : Type 0} (told : Option Files) (context : Context) (what same : Asked) (held : Stored)
    (result : Result Prepared E) → same ≡ what → IsTaken told context same held result
    → IsTaken told context what held result
taken_for told context what same held result is h = subst (λ w. IsTaken told context w held result) is h

-- by some files it is prepared as the definitions say, where it is whatever files a shelf tells
pub some_taken : {E : Type 0} (context : Context) (what : Asked) (held : Stored) (result : Result Prepared E)
    → ((told : Option Files) → IsTaken told context what held result)
    → IfOk result (IsPreparedBySome context what held)
some_taken context what held (Ok prepared) h = record {
  files = no_file;
  is = λ stores stand. (h (Some no_file)).ok stores no_file stand (λ asks. refl);
}
some_taken context what held (Err error) h = tt

-- ---- requests of a report

keep_by : (command : Command) (why : Option Cause) → change.Keep ≡ change_in (verdict_by command why change.Keep)
keep_by command None = refl
keep_by command (Some cause) = refl

keep_in : (state : State) (files : Files) (what : Asked) → AsksForReport what
    → change.Keep ≡ change_in (verdict_of state files what)
keep_in state files Nothing h = refl
keep_in state files (Faulty cause) h = refl
keep_in state files (Asks (asked.OpenAnew slot channels)) h = absurd h
keep_in state files (Asks (asked.KeepLast slot keep)) h = absurd h
keep_in state files (Asks (asked.Load slot file columns header)) h = absurd h
keep_in state files (Asks (asked.LoadLazy slot file column header)) h = absurd h
keep_in state files (Asks (asked.Append slot items)) h = absurd h
keep_in state files (Asks (asked.Advance slot count)) h = absurd h
keep_in state files (Asks other) h = keep_by other (first_cause (conditions state files other))

compared_keeps : (by : Comparison) (a b : Ref) → AsksForReport (Asks (compared_by by a b))
compared_keeps Join a b = tt
compared_keeps Mpdist a b = tt

reports_keep : (request : ReportRequest) → AsksForReport (reported_in request)
reports_keep (Compare pair) = compared_keeps pair.by pair.a pair.b
reports_keep other = tt

none_in : (state : State) (what : Asked) → AsksForReport what → fetches_by state what ≡ false
none_in state Nothing h = refl
none_in state (Faulty cause) h = refl
none_in state (Asks (asked.Load slot file columns header)) h = absurd h
none_in state (Asks (asked.LoadLazy slot file column header)) h = absurd h
none_in state (Asks other) h = refl

-- none of them needs a file
pub report_needs_none : (state : State) (request : ReportRequest) → fetches_by state (reported_in request) ≡ false
report_needs_none state request = none_in state (reported_in request) (reports_keep request)

pub prepared_report : (state : State) (files : Files) (request : ReportRequest) (prepared : Prepared) (answer : Answer)
    → IsAnswer state files (reported_in request) answer → prepared.answer ≡ answer → prepared.change ≡ Keep
    → IsPrepared state files (reported_in request) prepared
prepared_report state files request prepared answer is same kept = record {
  answer_is = subst (λ a. IsAnswer state files (reported_in request) a) (sym same) is;
  change_is = ap changed_by kept ∙ keep_in state files (reported_in request) (reports_keep request);
}

-- what a report names is still there where only reads and room were changed
named_lasts : (old new : Stored) (at : Ref) → StandAsBefore old new → IsNamed old at → IsNamed new at
named_lasts old new at last there =
    let same = slot_lasts old new at.slot last in
    let inside = there.channel in
    record { slot = there.slot; channel = omega (arith, inside, same.channels); whole = same.lazy ∙ there.whole }

report_lasts : (old new : Stored) (report : reports.Report) → StandAsBefore old new → AreNamed old report
    → AreNamed new report
report_lasts old new (report.Profile at) last there = named_lasts old new at last there
report_lasts old new (report.Entry at start) last there =
    let slot = slot_lasts old new at.slot last in
    record {
      named = named_lasts old new at last there.named;
      within = λ all.
          let same = ap series_of (items_last old new at last) in
          let before = there.within (sym slot.keep ∙ all) in
          omega (arith, last.window_is, ap length same, before);
      live = λ kept is. there.live kept (slot.kept kept is);
    }
report_lasts old new (report.Partial slot) last there =
    record { within = there.within; lazy = (slot_lasts old new slot last).lazy ∙ there.lazy }
report_lasts old new other last there = tt

pub names_last : (old new : Stored) (answer : Answer) → StandAsBefore old new → NamesChannels old answer
    → NamesChannels new answer
names_last old new (Accepted report) last there = report_lasts old new report last there
names_last old new (Ended report) last there = report_lasts old new report last there
names_last old new other last there = tt

-- ---- no change

pub can_keep : (held : Stored) (ours : Change) → ours ≡ Keep → CanMake held ours
can_keep held ours same = subst (λ c. CanMake held c) (sym same) tt

pub keep_adds : (what : Asked) (ours : Change) → ours ≡ Keep → AddsAsAsked what ours
keep_adds what ours same = subst (λ c. AddsAsAsked what c) (sym same) tt

pub keep_covers : (ours : Change) (slot : ℕ) (advanced : Bool) → ours ≡ Keep → covers ours slot ≡ true
    → advanced ≡ true
keep_covers ours slot advanced same cover = absurd (cc (ap (λ c. covers c slot) same, cover))

pub keep_puts : (ours : Change) (slot : ℕ) (renewed : Bool) → ours ≡ Keep → puts ours slot ≡ true → renewed ≡ true
keep_puts ours slot renewed same put = absurd (cc (ap (λ c. puts c slot) same, put))

-- ---- a line that asks for nothing, or isn't read

pub prepared_quiet : (context : Context) (held : Stored) (prepared : Prepared) → prepared.answer ≡ Silent
    → prepared.change ≡ Keep → IsPreparedBySome context Nothing held prepared
prepared_quiet context held prepared answer kept = record {
  files = no_file;
  is = λ stores stand. record { answer_is = rw answer refl; change_is = ap changed_by kept };
}

pub prepared_faulty : (context : Context) (what : Asked) (held : Stored) (prepared : Prepared) (cause why : Cause)
    → prepared.answer ≡ Refused cause → cause ≡ why → prepared.change ≡ Keep → Faulty why ≡ what
    → IsPreparedBySome context what held prepared
prepared_faulty context what held prepared cause why answer same kept is =
    subst (λ w. IsPreparedBySome context w held prepared) is
    (record {
      files = no_file;
      is = λ stores stand. record { answer_is = rw (answer ∙ ap Refused same) refl; change_is = ap changed_by kept };
    })

pub refused_ends : (version : ℕ) (line : List ℕ) (answer : Answer) (cause why : Cause) → answer ≡ Refused cause
    → Faulty why ≡ asked_of version line → is_ended (kind_by answer) ≡ ends line
refused_ends version line answer cause why same is =
    ap (λ a. is_ended (kind_by a)) same ∙ sym (ends_by version line (Faulty why) is)

pub ends_of : {E : Type 0} (version : ℕ) (result : Result Prepared E) (line : List ℕ) (what : Asked) (held : Stored)
    → what ≡ asked_of version line → IfOk result (IsReady what held)
    → IfOk result (λ prepared. is_ended (kind_by prepared.answer) ≡ ends line)
ends_of version (Ok prepared) line what held is h = h.ends ∙ sym (ends_by version line what is)
ends_of version (Err stop) line what held is h = tt
