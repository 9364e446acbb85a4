-- The session that ran a line stands for the state behind it.
use Rattle.std.proofs.Common.{◌≡◌, ℕ, ◌+◌, Bool, true, false, ◌||◌, List, refl, ap, ◌∙◌, sym, subst}
use Rattle.std.proofs.Math.Bool.{or-false, or-true}
use Rattle.std.specs.Prelude.{Option, Some, None, IfSome, is_some, unwrap_or, if◌then◌else◌}
use Rattle.mp_replies.specs.Answer as replies
use Rattle.mp_replies.specs.declared.causes.Cause.{Cause}
use Rattle.mp_replies.specs.declared.modes.Mode.{Mode}
use Rattle.mp_replies.specs.declared.modes.ReportForm.{ReportForm}
use Rattle.mp_replies.specs.Command.{Command, Report, Session}
use Rattle.mp_replies.specs.Change.{Change, changed}
use Rattle.mp_replies.specs.Conditions.{first_cause}
use Rattle.mp_replies.specs.Laws.{IsWithin}
use Rattle.mp_replies.specs.LimitLaws.{limits_kept}
use Rattle.mp_replies.specs.Line.{Asked, Nothing, Asks, Faulty, asked_of}
use Rattle.mp_replies.specs.SessionCommand.{mode_behind}
use Rattle.mp_replies.specs.State.{Files, State, Store}
use Rattle.mp_replies.specs.Step.{Verdict, IsAccepted, verdict, verdict_of, cause, cause_in}
use Rattle.mp_replies.specs.Step.{change_in, after, after_by, answer, answer_by, fetches, fetches_by, is_last}
use Rattle.mp_replies.specs.Step.{change_by, conditions, report_by, verdict_by}
use Rattle.mp_replies.specs.Output.{reply}
use Rattle.mp_replies.specs.Report.{written_of}
use Rattle.mp_stores.specs.StoreLaws.{stand_as_before}
use Rattle.mp_stores.specs.Stores.{StandAsBefore, StandFor, Stored}
use Rattle.mp_requests.specs.declared.answers.Answer.{Answer}
use Rattle.mp_requests.specs.declared.answers.Answer.TheVariants.{Silent}
use Rattle.mp_requests.specs.Requests.{AreSlotsOf, answered, kind_by, kind_of, is_accepted, is_refused}
use Rattle.mp_requests.specs.Requests.{mode_asked, mode_named}
use Rattle.mp_requests.specs.declared.context.Context.{Context}
use Rattle.mp_requests.specs.declared.replies.Reply.{Reply}
use Rattle.mp_requests.specs.Answering.{state_over}
use Rattle.mp_commands.specs.declared.prepared.Prepared.{Prepared}
use Rattle.mp_commands.specs.Preparing.{IsPrepared, NeedsFile, ToldFor, changed_by}
use Rattle.mp_session.specs.Sessions.{AsksFile, HasCommitted, HasStopped, IsReplyBy, SessionParts, StandsFor}

-- ---- kinds

refused_by : (last : Bool) (report : Report)
    → is_refused (kind_of (if last then replies.Ended report else replies.Accepted report)) ≡ false
refused_by true report = refl
refused_by false report = refl

refused_in : (state later : State) (v : Verdict)
    → is_refused (kind_of (answer_by state later v)) ≡ is_some (cause_in v)
refused_in state later (IsAccepted command change) = refused_by (is_last command) (report_by state later command)
refused_in state later other = refl

pub refused_kind : (state : State) (line : List ℕ) (files : Files)
    → is_refused (kind_of (answer state line files)) ≡ is_some (cause state line files)
unfolding answer cause
refused_kind state line files = refused_in state (after state line files) (verdict state line files)

-- ---- the state that a session stands for

-- the one that it is over these stores, part by part
abbrev pub state_of : SessionParts → List Store → State
state_of session stores = record {
  window = session.stores.m;
  scale = session.settings.scale;
  mode = session.mode;
  lines = session.lines;
  begun = session.begun;
  stores = stores;
}

pub state_is : (session : SessionParts) (state : State) → session.stores.m ≡ session.settings.window
    → StandsFor session state → state_of session state.stores ≡ state
state_is session state m h =
    let window : session.stores.m ≡ state.window = m ∙ sym h.window_is in
    let scale = sym h.scale_is in
    let mode = sym h.mode_is in
    let count = sym h.lines_is in
    let same = sym h.begun_is in
    λ i. record {
      window = window i;
      scale = scale i;
      mode = mode i;
      lines = count i;
      begun = same i;
      stores = state.stores;
    }

-- a session whose slots hold what they held stands for what it stood for
pub stands_still : (old new : SessionParts) (state : State) → new.settings ≡ old.settings
    → new.mode ≡ old.mode → new.lines ≡ old.lines → new.begun ≡ old.begun → StandAsBefore old.stores new.stores
    → StandsFor old state → StandsFor new state
stands_still old new state settings mode count same stores h = record {
  window_is = h.window_is ∙ sym (ap (λ s. s.window) settings);
  scale_is = h.scale_is ∙ sym (ap (λ s. s.scale) settings);
  mode_is = h.mode_is ∙ sym mode;
  lines_is = h.lines_is ∙ sym count;
  begun_is = h.begun_is ∙ sym same;
  stores_stand = stand_as_before old.stores new.stores state.stores stores h.stores_stand;
}

-- so does one that stopped at its change
pub stops_still : (old mid new : SessionParts) (state : State) → mid.settings ≡ old.settings → mid.mode ≡ old.mode
    → mid.lines ≡ old.lines → mid.begun ≡ old.begun → StandAsBefore old.stores mid.stores → HasStopped mid new
    → StandsFor old state → StandsFor new state
stops_still old mid new state settings mode count same stores stopped h =
    stands_still mid new state stopped.settings_are stopped.mode_is stopped.lines_is stopped.begun_is
    stopped.stores_stand (stands_still old mid state settings mode count same stores h)

-- ---- what was prepared, in such a state

pub text_is : (state : State) (files : Files) (line : List ℕ) (prepared : Prepared)
    → IsPrepared state files (asked_of state.mode.version line) prepared
    → written_of (after state line files).mode.form (state.lines + 1) (answered state prepared.answer)
    ≡ reply state line files
unfolding reply answer after verdict
text_is state files line prepared step =
    ap (written_of (after state line files).mode.form (state.lines + 1)) step.answer_is

kind_said : (state : State) (said : Answer) → kind_by said ≡ kind_of (answered state said)
kind_said state Silent = refl
kind_said state other = refl

pub kind_is : (state : State) (files : Files) (line : List ℕ) (prepared : Prepared)
    → IsPrepared state files (asked_of state.mode.version line) prepared
    → kind_by prepared.answer ≡ kind_of (answer state line files)
unfolding answer after verdict
kind_is state files line prepared step = kind_said state prepared.answer ∙ ap kind_of step.answer_is

pub fetches_is : (state : State) (line : List ℕ)
    → fetches state line ≡ fetches_by state (asked_of state.mode.version line)
unfolding fetches
fetches_is state line = refl

-- ---- the state behind the line

-- the answer names a mode where it accepts one that is asked for
abbrev pub NamesMode : Asked → Answer → Type 0
NamesMode asked answer = mode_named answer ≡ (if is_accepted (kind_by answer) then mode_asked asked else None)

pub accepted_by : (last : Bool) (report : Report)
    → is_accepted (kind_of (if last then replies.Ended report else replies.Accepted report)) ≡ true
accepted_by true report = refl
accepted_by false report = refl

-- a mode that is named lies within its limits
asked_within : (P : Mode → Type 0) → ((mode : Mode) → IsWithin (Session mode) → P mode) → (version : ℕ)
    (line : List ℕ) (asked : Asked) → asked ≡ asked_of version line → IfSome (mode_asked asked) P
asked_within P gives version line (Asks (Session mode)) is =
    gives mode (limits_kept version line (Session mode) (sym is))
asked_within P gives version line other is = tt

if_accepted : (P : Mode → Type 0) (accepted : Bool) (named : Option Mode) → IfSome named P
    → IfSome (if accepted then named else None) P
if_accepted P true named is = is
if_accepted P false named is = tt

behind_within : (P : Mode → Type 0) (named : Option Mode) (before : Mode) → IfSome named P → P before
    → P (unwrap_or named before)
behind_within P (Some mode) before is was = is
behind_within P None before is was = was

-- and so does the mode of the next line, where that of this one does
pub named_within : (P : Mode → Type 0) → ((mode : Mode) → IsWithin (Session mode) → P mode) → (version : ℕ)
    (line : List ℕ) (answer : Answer) (named : Option Mode) (before : Mode) → named ≡ mode_named answer
    → NamesMode (asked_of version line) answer → P before → P (unwrap_or named before)
named_within P gives version line answer named before same names was =
    behind_within P named before
    (subst (λ (mode : Option Mode). IfSome mode P) (sym (same ∙ names))
    (if_accepted P (is_accepted (kind_by answer)) (mode_asked (asked_of version line))
    (asked_within P gives version line (asked_of version line) refl)))
    was

-- the mode behind an accepted command is the one that it asks for, if it asks for one
pub mode_by : (mode : Mode) (command : Command)
    → mode_behind mode command ≡ unwrap_or (mode_asked (Asks command)) mode
mode_by mode (Session named) = refl
mode_by mode other = refl

-- the mode that a line names, if it is carried out
abbrev pub named_by : replies.Answer → Asked → Option Mode
named_by said asked = if is_accepted (kind_of said) then mode_asked asked else None

mode_after_by : (state : State) (command : Command) (why : Option Cause) (change : Change)
    → (after_by state (verdict_by command why change)).mode
    ≡ unwrap_or
    (named_by (answer_by state (after_by state (verdict_by command why change)) (verdict_by command why change))
    (Asks command))
    state.mode
mode_after_by state command (Some cause) change = refl
mode_after_by state command None change =
    let later = after_by state (IsAccepted command change) in
    rw (accepted_by (is_last command) (report_by state later command)) (mode_by state.mode command)

mode_after : (state : State) (files : Files) (asked : Asked)
    → (after_by state (verdict_of state files asked)).mode
    ≡ unwrap_or
    (named_by (answer_by state (after_by state (verdict_of state files asked)) (verdict_of state files asked)) asked)
    state.mode
mode_after state files Nothing = refl
mode_after state files (Faulty cause) = refl
mode_after state files (Asks command) =
    mode_after_by state command (first_cause (conditions state files command)) (change_by state files command)

-- the state behind, part by part
record IsBehind (state later : State) (v : Verdict) : Type 0 where
  window_is : later.window ≡ state.window
  scale_is : later.scale ≡ state.scale
  lines_is : later.lines ≡ state.lines + 1
  begun_is : later.begun ≡ (state.begun || is_accepted (kind_of (answer_by state later v)))
  stores_is : later.stores ≡ changed state.window state.stores (change_in v)

behind : (state : State) (v : Verdict) → IsBehind state (after_by state v) v
behind state (IsAccepted command change) =
    let later = after_by state (IsAccepted command change) in
    record {
      window_is = refl;
      scale_is = refl;
      lines_is = refl;
      begun_is = rw (accepted_by (is_last command) (report_by state later command)) (sym (or-true state.begun));
      stores_is = refl;
    }
behind state other = record {
  window_is = refl;
  scale_is = refl;
  lines_is = refl;
  begun_is = sym (or-false state.begun);
  stores_is = refl;
}

-- the session that made the change stands for the state behind the line
stands_by : (old new : SessionParts) (state : State) (files : Files) (asked : Asked) (prepared : Prepared)
    → old.stores.m ≡ old.settings.window → StandsFor old state → IsPrepared state files asked prepared
    → NamesMode asked prepared.answer
    → HasCommitted old new prepared.change (is_accepted (kind_by prepared.answer))
    (unwrap_or (mode_named prepared.answer) old.mode)
    → StandsFor new (after_by state (verdict_of state files asked))
stands_by old new state files asked prepared m h step names made =
    let v = verdict_of state files asked in
    let is = behind state v in
    let kind = kind_said state prepared.answer ∙ ap kind_of step.answer_is in
    let named : mode_named prepared.answer ≡ named_by (answer_by state (after_by state v) v) asked =
    names ∙ ap (λ k. if is_accepted k then mode_asked asked else None) kind in
    record {
      window_is = is.window_is ∙ (h.window_is ∙ sym (ap (λ s. s.window) made.settings_are));
      scale_is = is.scale_is ∙ (h.scale_is ∙ sym (ap (λ s. s.scale) made.settings_are));
      mode_is =
          mode_after state files asked
          ∙ (ap (λ (n : Option Mode). unwrap_or n state.mode) (sym named)
          ∙ (ap (unwrap_or (mode_named prepared.answer)) h.mode_is ∙ sym made.mode_is));
      lines_is = is.lines_is ∙ (ap (λ n. n + 1) h.lines_is ∙ sym made.lines_is);
      begun_is = is.begun_is
          ∙ (ap (λ b. b || is_accepted (kind_of (answer_by state (after_by state v) v))) h.begun_is
          ∙ (ap (λ k. old.begun || is_accepted k)
          (sym kind)
          ∙ sym made.begun_is));
      stores_stand =
          let window : old.stores.m ≡ state.window = m ∙ sym h.window_is in
          subst (StandFor new.stores)
          (ap (λ (n : ℕ). changed n state.stores (changed_by prepared.change)) window
          ∙ (ap (changed state.window state.stores) step.change_is ∙ sym is.stores_is))
          (made.stores_stand state.stores h.stores_stand);
    }

pub stands_after : (old new : SessionParts) (state : State) (files : Files) (line : List ℕ) (prepared : Prepared)
    → old.stores.m ≡ old.settings.window → StandsFor old state
    → IsPrepared state files (asked_of state.mode.version line) prepared
    → NamesMode (asked_of state.mode.version line) prepared.answer
    → HasCommitted old new prepared.change (is_accepted (kind_by prepared.answer))
    (unwrap_or (mode_named prepared.answer) old.mode)
    → StandsFor new (after state line files)
unfolding after verdict
stands_after old new state files line prepared m h step names made =
    stands_by old new state files (asked_of state.mode.version line) prepared m h step names made

-- ---- what was prepared over the session

pub prepared_in : (session : SessionParts) (state : State) (files : Files) (line : List ℕ) (prepared : Prepared)
    (told : Option Files) → session.stores.m ≡ session.settings.window → StandsFor session state
    → ((stores : List Store) (all : Files) → StandFor session.stores stores
    → ToldFor told (state_of session stores) (asked_of session.mode.version line) all
    → IsPrepared (state_of session stores) all (asked_of session.mode.version line) prepared)
    → ToldFor told state (asked_of state.mode.version line) files
    → IsPrepared state files (asked_of state.mode.version line) prepared
prepared_in session state files line prepared told m h step =
    subst (λ (s : State). ToldFor told s (asked_of s.mode.version line) files
    → IsPrepared s files (asked_of s.mode.version line) prepared)
    (state_is session state m h) (step state.stores files h.stores_stand)

-- by files that no shelf told
pub prepared_by : (session : SessionParts) (state : State) (files : Files) (line : List ℕ) (prepared : Prepared)
    → session.stores.m ≡ session.settings.window → StandsFor session state
    → ((stores : List Store) → StandFor session.stores stores
    → IsPrepared (state_of session stores) files (asked_of session.mode.version line) prepared)
    → IsPrepared state files (asked_of state.mode.version line) prepared
prepared_by session state files line prepared m h step =
    subst (λ (s : State). IsPrepared s files (asked_of s.mode.version line) prepared) (state_is session state m h)
    (step state.stores h.stores_stand)

-- the reply to the line, whose change was made where the slots are these
pub replied : (old new : SessionParts) (stores : Stored) (state : State) (files : Files) (line : List ℕ)
    (prepared : Prepared) (made : Reply) (accepted : Bool) (named : Option Mode) (mode : Mode)
    → old.stores.m ≡ old.settings.window
    → StandAsBefore old.stores stores
    → (AreSlotsOf state stores
    → made.text.items ≡ written_of mode.form (old.lines + 1) (answered state prepared.answer))
    → made.kind ≡ kind_by prepared.answer → accepted ≡ is_accepted (kind_by prepared.answer)
    → named ≡ mode_named prepared.answer → mode ≡ unwrap_or named old.mode
    → NamesMode (asked_of old.mode.version line) prepared.answer
    → HasCommitted (record old { stores = stores }) new prepared.change accepted mode
    → StandsFor old state → IsPrepared state files (asked_of state.mode.version line) prepared
    → IsReplyBy state files line new made
replied old new stores state files line prepared made accepted named mode m last text kind same is_named mode_is names
    committed h step =
    let mid : SessionParts = record old { stores = stores } in
    let stands = stands_still old mid state refl refl refl refl last h in
    let by_state = subst (λ (was : Mode). NamesMode (asked_of was.version line) prepared.answer) (sym h.mode_is) names in
    let behind_is : mode ≡ unwrap_or (mode_named prepared.answer) old.mode =
    mode_is ∙ ap (λ (n : Option Mode). unwrap_or n old.mode) is_named in
    let after_is = stands_after mid new state files line prepared (last.window_is ∙ m) stands step by_state
    (subst (λ (b : Bool).
    HasCommitted mid new prepared.change b (unwrap_or (mode_named prepared.answer) old.mode)) same
    (subst (HasCommitted mid new prepared.change accepted) behind_is committed)) in
    let form_is : mode.form ≡ (after state line files).mode.form =
    ap (λ (next : Mode). next.form) (sym committed.mode_is ∙ sym after_is.mode_is) in
    record {
      text = text (record { window_is = last.window_is ∙ (m ∙ sym h.window_is); stand = stands.stores_stand })
          ∙ (ap (λ (n : ℕ). written_of mode.form (n + 1) (answered state prepared.answer)) (sym h.lines_is)
          ∙ (ap (λ (form : ReportForm). written_of form (state.lines + 1) (answered state prepared.answer)) form_is
          ∙ text_is state files line prepared step));
      kind = kind ∙ kind_is state files line prepared step;
      after = after_is;
    }

-- a line that asks for a file there, or for none
pub needs_file : (context : Context) (session : SessionParts) (line : List ℕ)
    → ((stores : List Store) → state_over context session.stores stores ≡ state_of session stores)
    → session.stores.m ≡ session.settings.window → (file : Bool) → AsksFile line session file
    → NeedsFile context (asked_of session.mode.version line) session.stores file
needs_file context session line over m file asks = record {
  stores = asks.state.stores;
  stand = asks.stand.stores_stand;
  is = ap (λ (s : State). fetches_by s (asked_of session.mode.version line))
      (over asks.state.stores ∙ state_is session asks.state m asks.stand)
      ∙ (ap (λ (mode : Mode). fetches_by asks.state (asked_of mode.version line)) (sym asks.stand.mode_is)
      ∙ (sym (fetches_is asks.state line) ∙ asks.is));
}
