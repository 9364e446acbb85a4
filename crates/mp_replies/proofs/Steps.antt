-- What holds of every line, by its verdict.
use Rattle.std.proofs.Common.{◌≡◌, ℕ, ◌+◌, Bool, true, false, List, [], ◌∷◌, ◌++◌, refl, ap, ◌∙◌, sym}
use Rattle.std.specs.Prelude.{Option, Some, None, is_none, if◌then◌else◌, ◌↔◌}
use Rattle.mp_replies.specs.declared.causes.Cause.{Cause}
use Rattle.mp_replies.specs.State.{Files, State, opening}
use Rattle.mp_replies.specs.Answer.{Accepted, Ended, Refused}
use Rattle.mp_replies.specs.Command.{Report}
use Rattle.mp_replies.specs.Change.{Change}
use Rattle.mp_replies.specs.Command.{Command, Load, LoadLazy, End}
use Rattle.mp_replies.specs.Conditions.{Condition, first_cause}
use Rattle.mp_replies.specs.EndLaws.{ends_of_each_version}
use Rattle.mp_replies.specs.LazyCommand.{lazy_conditions, lazy_file_conditions}
use Rattle.mp_replies.specs.LoadCommand.{load_conditions, file_conditions, file_in}
use Rattle.mp_replies.specs.Line.{Asked, Nothing, Asks, Faulty, asked_of, is_end}
use Rattle.mp_replies.specs.Step.{Verdict, Passes, IsRefused, IsAccepted, verdict, verdict_by, verdict_of, cause}
use Rattle.mp_replies.specs.Step.{cause_in, after, after_by, counted, answer, answer_by, change_by, conditions, is_last}
use Rattle.mp_replies.specs.Step.{report_by, fetches, fetches_by}
use Rattle.mp_replies.specs.Report.{written_of}
use Rattle.mp_replies.specs.Output.{reply, output_for, session_output}
use Rattle.mp_replies.specs.Summary.{summary_of}
use Rattle.mp_replies.specs.Words.{Setup}
use Rattle.mp_replies.specs.declared.makes.Make.{Make}
use Rattle.mp_replies.specs.Laws.{RefusedLinesChangeNothing, AnswersRefuseByCause, EndsAreAnswered}
use Rattle.mp_replies.specs.Laws.{OtherLinesReadNoFile, TileAndWorkersChangeNothing}

refused_after : (state : State) (v : Verdict) (why : Cause) → cause_in v ≡ Some why → after_by state v ≡ counted state
refused_after state Passes why h = refl
refused_after state (IsRefused other) why h = refl
refused_after state (IsAccepted command change) why h = cc

refused_answer : (state later : State) (v : Verdict) (why : Cause) → cause_in v ≡ Some why
    → answer_by state later v ≡ Refused why
refused_answer state later Passes why h = cc
refused_answer state later (IsRefused other) why h = let same : other ≡ why = cc in ap Refused same
refused_answer state later (IsAccepted command change) why h = cc

pub refused : RefusedLinesChangeNothing
unfolding after answer cause
refused state line files why h = (
  refused_after state (verdict state line files) why h,
  refused_answer state (after state line files) (verdict state line files) why h,
)

-- no accepted line is answered as refused
accepted_answer : (last : Bool) (report : Report) (why : Cause)
    → (if last then Ended report else Accepted report) ≡ Refused why → None ≡ Some why
accepted_answer true report why h = cc
accepted_answer false report why h = cc

answer_refused : (state later : State) (v : Verdict) (why : Cause) → answer_by state later v ≡ Refused why
    → cause_in v ≡ Some why
answer_refused state later Passes why h = cc
answer_refused state later (IsRefused other) why h = let same : other ≡ why = cc in ap Some same
answer_refused state later (IsAccepted command change) why h =
    accepted_answer (is_last command) (report_by state later command) why h

pub refused_by_cause : AnswersRefuseByCause
unfolding after answer cause
refused_by_cause state line files why = (
  answer_refused state (after state line files) (verdict state line files) why,
  refused_answer state (after state line files) (verdict state line files) why,
)

-- ---- the line that ends a run

ends_of : (state later : State) (files : Files) (asked : Asked) → is_end asked ≡ true
    → (report : Report) × (answer_by state later (verdict_of state files asked) ≡ Ended report)
ends_of state later files Nothing h = absurd (cc h)
ends_of state later files (Faulty why) h = absurd (cc h)
ends_of state later files (Asks End) h = (report_by state later End, refl)
ends_of state later files (Asks other) h = absurd (cc h)

goes_on : (state later : State) (command : Command) (o : Option Cause) (change : Change) (report : Report)
    → is_last command ≡ false
    → answer_by state later (verdict_by command o change) ≡ Ended report → ⊥
goes_on state later command (Some why) change report last h = cc
goes_on state later command None change report last h =
    let is : Accepted (report_by state later command) ≡ Ended report =
    ap (λ b. if b then Ended (report_by state later command) else Accepted (report_by state later command)) (sym last)
    ∙ h in
    cc

answered_end : (state later : State) (files : Files) (asked : Asked) (report : Report)
    → answer_by state later (verdict_of state files asked) ≡ Ended report → is_end asked ≡ true
answered_end state later files Nothing report h = absurd (cc h)
answered_end state later files (Faulty why) report h = absurd (cc h)
answered_end state later files (Asks End) report h = refl
answered_end state later files (Asks other) report h =
    absurd
    (goes_on state later other (first_cause (conditions state files other)) (change_by state files other) report refl
    h)

ends_in : (state : State) (line : List ℕ) (files : Files)
    → (is_end (asked_of state.mode.version line) ≡ true)
    ↔ ((report : Report) × (answer state line files ≡ Ended report))
unfolding answer after verdict
ends_in state line files = (
  ends_of state (after state line files) files (asked_of state.mode.version line),
  λ p. answered_end state (after state line files) files (asked_of state.mode.version line) p.0 p.1,
)

pub ends_answered : EndsAreAnswered
ends_answered state line files =
    let same = ends_of_each_version state.mode.version line in
    let both = ends_in state line files in
    (λ h. both.0 (same ∙ h), λ p. sym same ∙ both.1 p)

-- ---- lines that ask for no file

first_by : (holds : Bool) (word why : Cause) (some others : List Condition)
    → (first_cause some ≡ Some why → first_cause (some ++ others) ≡ Some why)
    → (if holds then Some word else first_cause some) ≡ Some why
    → (if holds then Some word else first_cause (some ++ others)) ≡ Some why
first_by true word why some others later h = h
first_by false word why some others later h = later h

first_refused : (some others : List Condition) (why : Cause) → first_cause some ≡ Some why
    → first_cause (some ++ others) ≡ Some why
first_refused [] others why h = cc
first_refused (c ∷ some) others why h = first_by c.holds c.word why some others (first_refused some others why) h

load_refused : (state : State) (files others : Files) (slot : ℕ) (file : List ℕ) (columns : List ℕ) (header : Bool)
    (o : Option Cause)
    → first_cause (load_conditions state.stores slot columns) ≡ o → is_none o ≡ false
    → verdict_of state files (Asks (Load slot file columns header))
    ≡ verdict_of state others (Asks (Load slot file columns header))
load_refused state files others slot file columns header None is h = absurd (cc h)
load_refused state files others slot file columns header (Some why) is h =
    rw (
      first_refused (load_conditions state.stores slot columns)
          (file_conditions state.mode.width state.scale columns header (file_in files file)) why is,
      first_refused (load_conditions state.stores slot columns)
          (file_conditions state.mode.width state.scale columns header (file_in others file)) why is,
    ) refl

lazy_refused : (state : State) (files others : Files) (slot : ℕ) (file : List ℕ) (column : ℕ) (header : Bool)
    (o : Option Cause)
    → first_cause (lazy_conditions slot) ≡ o → is_none o ≡ false
    → verdict_of state files (Asks (LoadLazy slot file column header))
    ≡ verdict_of state others (Asks (LoadLazy slot file column header))
lazy_refused state files others slot file column header None is h = absurd (cc h)
lazy_refused state files others slot file column header (Some why) is h =
    rw (
      first_refused (lazy_conditions slot)
          (lazy_file_conditions state.mode.width state.scale column header (file_in files file)) why is,
      first_refused (lazy_conditions slot)
          (lazy_file_conditions state.mode.width state.scale column header (file_in others file)) why is,
    ) refl

same_verdict : (state : State) (files others : Files) (asked : Asked) → fetches_by state asked ≡ false
    → verdict_of state files asked ≡ verdict_of state others asked
same_verdict state files others Nothing h = refl
same_verdict state files others (Faulty why) h = refl
same_verdict state files others (Asks (Load slot file columns header)) h =
    load_refused state files others slot file columns header
    (first_cause (load_conditions state.stores slot columns)) refl h
same_verdict state files others (Asks (LoadLazy slot file column header)) h =
    lazy_refused state files others slot file column header (first_cause (lazy_conditions slot)) refl h
same_verdict state files others (Asks other) h = refl

pub no_file_read : OtherLinesReadNoFile
unfolding fetches reply answer after verdict
no_file_read state line files others h =
    let same = same_verdict state files others (asked_of state.mode.version line) h in (
      ap (λ (v : Verdict).
          written_of (after_by state v).mode.form (state.lines + 1) (answer_by state (after_by state v) v)) same,
      ap (after_by state) same,
    )

-- ---- what a run is started with

same_output : (a b : Setup) (make : Option Make) (files : Files) (bytes : List ℕ) → a.window ≡ b.window
    → a.scale ≡ b.scale → output_for a make files bytes ≡ output_for b make files bytes
same_output a b None files bytes window scale =
    ap (λ (w : ℕ). session_output (opening w a.scale) files bytes) window
    ∙ ap (λ (s : ℕ). session_output (opening b.window s) files bytes) scale
same_output a b (Some make) files bytes window scale = ap (λ (w : ℕ). summary_of w make) window

pub tile_and_workers : TileAndWorkersChangeNothing
tile_and_workers a b files bytes window scale make =
    ap (λ (made : Option Make). output_for a.setup made files bytes) make
    ∙ same_output a.setup b.setup b.make files bytes window scale
