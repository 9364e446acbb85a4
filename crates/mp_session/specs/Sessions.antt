-- What a session holds, and the states that it stands for.
use Rattle.std.specs.Prelude.{◌≡◌, ℕ, ◌+◌, ◌≤◌, ◌==◌, Bool, true, false, ◌||◌, List, [], ◌∷◌, All, length}
use Rattle.std.specs.Prelude.{Option, Some, unwrap_or, Result, IfOk, OnOk, OnErr}
use Rattle.mp_feed.specs.Reading.{bit}
use Rattle.mp_replies.specs.declared.causes.Cause.{Cause}
use Rattle.mp_replies.specs.declared.causes.Cause.TheVariants.{File, FileSize, Record, Rows}
use Rattle.mp_replies.specs.declared.modes.Mode.{Mode}
use Rattle.mp_replies.specs.declared.modes.ReportForm.{ReportForm}
use Rattle.mp_replies.specs.Command.{OpenAnew, KeepLast, Load, LoadLazy, Append, Advance}
use Rattle.mp_replies.specs.Line.{Asked, Asks, asked_of}
use Rattle.mp_replies.specs.Output.{reply}
use Rattle.mp_replies.specs.State.{Files, State, Store, first_version, second_version, store_at}
use Rattle.mp_replies.specs.Step.{after, answer, counted, fetches}
use Rattle.mp_replies.specs.Report.{refusal_written}
use Rattle.mp_replies.specs.Words.{Setup}
use Rattle.mp_stores.specs.Stores.{StandAsBefore, StandChanged, StandFor, Stored, lists_in, reads_at}
use Rattle.mp_requests.specs.Requests.{is_accepted, is_unread, kind_of, mode_asked}
use Rattle.mp_requests.specs.declared.answers.ReplyKind.TheVariants as kinds
use Rattle.mp_requests.specs.Reads.{AreUnread}
use Rattle.mp_requests.specs.declared.replies.Reply.{Reply}
use Rattle.mp_commands.specs.Reads.{advances, most_reads, renews}
use Rattle.mp_commands.specs.declared.prepared.Change.{Change}
use Rattle.mp_commands.specs.declared.prepared.Change.TheVariants.{Keep, PutChannels, PutKept, PutLazy}
use Rattle.mp_commands.specs.declared.prepared.Change.TheVariants.{AddSamples, Advance as CoverMore}
use Rattle.mp_commands.specs.Preparing.{changed_by}

-- what is seen of a session
pub record SessionParts : Type 0 where
  pub settings : Setup
  -- how the next line is read and answered
  pub mode : Mode
  -- how many lines were run
  pub lines : ℕ
  -- whether a command was accepted
  pub begun : Bool
  -- what stands in the eight slots
  pub stores : Stored

-- the slots have the window length of the settings, and there is such a version
pub record AreParts (session : SessionParts) : Type 0 where
  pub window : session.stores.m ≡ session.settings.window
  pub first : first_version ≤ session.mode.version
  pub last : session.mode.version ≤ second_version

pub record StandsFor (session : SessionParts) (state : State) : Type 0 where
  pub window_is : state.window ≡ session.settings.window
  pub scale_is : state.scale ≡ session.settings.scale
  pub mode_is : state.mode ≡ session.mode
  pub lines_is : state.lines ≡ session.lines
  pub begun_is : state.begun ≡ session.begun
  pub stores_stand : StandFor session.stores state.stores

-- ---- the change of a line

-- the line is counted, the mode is that of the next line, and its change is made. Reads and room are left open
pub record HasCommitted (old new : SessionParts) (change : Change) (accepted : Bool) (mode : Mode) : Type 0 where
  pub settings_are : new.settings ≡ old.settings
  pub mode_is : new.mode ≡ mode
  pub lines_is : new.lines ≡ old.lines + 1
  pub begun_is : new.begun ≡ (old.begun || accepted)
  pub stores_stand : StandChanged (changed_by change) old.stores new.stores

-- nothing was changed but reads and room
pub record HasStopped (old new : SessionParts) : Type 0 where
  pub settings_are : new.settings ≡ old.settings
  pub mode_is : new.mode ≡ old.mode
  pub lines_is : new.lines ≡ old.lines
  pub begun_is : new.begun ≡ old.begun
  pub stores_stand : StandAsBefore old.stores new.stores

-- diagonals are covered, the one change that takes memory
abbrev pub CoversMore : Change → Type 0
CoversMore (CoverMore slot count) = Unit {0}
CoversMore other = ⊥

-- so many samples are added to each channel of this slot
abbrev pub AddsEach : Change → ℕ → ℕ → Type 0
AddsEach Keep slot count = ⊥
AddsEach (PutChannels at channels) slot count = ⊥
AddsEach (PutKept at kept) slot count = ⊥
AddsEach (PutLazy at part) slot count = ⊥
AddsEach (AddSamples at added) slot count = (at ≡ slot) × All (λ samples. length samples ≡ count) (lists_in added.items)
AddsEach (CoverMore at more) slot count = ⊥

-- ---- a reply

-- In this state a line is answered as the definitions say by these files, and the session stands for the state behind
-- it.
pub record IsReplyBy (state : State) (files : Files) (line : List ℕ) (new : SessionParts) (answered : Reply)
    : Type 0 where
  pub text : answered.text.items ≡ reply state line files
  pub kind : answered.kind ≡ kind_of (answer state line files)
  pub after : StandsFor new (after state line files)

-- ---- over any shelf, also one that tells nothing

-- a line is answered so by some files
pub record IsReplyBySome (line : List ℕ) (old new : SessionParts) (answered : Reply) : Type 0 where
  pub files : Files
  pub is : (state : State) → StandsFor old state → IsReplyBy state files line new answered

-- whether a line that asks for this changes a slot where it is accepted
abbrev pub changes : Asked → ℕ → Bool
changes (Asks (OpenAnew at channels)) slot = slot == at
changes (Asks (KeepLast at keep)) slot = slot == at
changes (Asks (Load at file columns header)) slot = slot == at
changes (Asks (LoadLazy at file column header)) slot = slot == at
changes (Asks (Append at items)) slot = slot == at
changes (Asks (Advance at count)) slot = slot == at
changes other slot = false

-- the line was counted and a command accepted, the mode is the one that it asks for, if it asks for one, and no slot
-- was changed but one that the line asks to change
pub record WasAccepted (what : Asked) (state : State) (new : SessionParts) : Type 0 where
  pub stores : List Store
  pub stands : StandsFor new
      (record state {
        mode = unwrap_or (mode_asked what) state.mode;
        lines = state.lines + 1;
        begun = true;
        stores = stores;
      })
  pub others : (slot : ℕ) → changes what slot ≡ false → store_at stores slot ≡ store_at state.stores slot

-- the words by which a line is refused for its file
abbrev pub IsOfFile : Cause → Type 0
IsOfFile File = Unit {0}
IsOfFile FileSize = Unit {0}
IsOfFile (Record number) = Unit {0}
IsOfFile Rows = Unit {0}
IsOfFile other = ⊥

-- the line of this number is refused by one of them, in this form
pub record IsFileRefused (form : ReportForm) (line : ℕ) (text : List ℕ) : Type 0 where
  pub cause : Cause
  pub of_file : IsOfFile cause
  pub text_is : text ≡ refusal_written form line cause

-- what such an answer says in this state. A line that isn't accepted is counted and changes nothing else, and a load
-- that asks for its file, whether its profile is made at once or in parts, is refused for that alone
pub record IsReplyOverAny (state : State) (line : List ℕ) (new : SessionParts) (answered : Reply) : Type 0 where
  pub unaccepted : is_accepted answered.kind ≡ false → StandsFor new (counted state)
  pub accepted : is_accepted answered.kind ≡ true → WasAccepted (asked_of state.mode.version line) state new
  pub file_refused : fetches state line ≡ true → answered.kind ≡ kinds.Refused
      → IsFileRefused state.mode.form (state.lines + 1) answered.text.items

-- ---- counts

-- a line that was answered is counted, and no other. The settings stay
pub record WasCounted {E : Type 0} (old new : SessionParts) (result : Result Reply E) : Type 0 where
  pub lines : OnOk result (new.lines ≡ old.lines + 1)
  pub stop_lines : OnErr result (new.lines ≡ old.lines)
  pub settings : new.settings ≡ old.settings

-- no accepted line puts channels into the slot
abbrev pub LeavesChannels : {E : Type 0} → Asked → ℕ → Result Reply E → Type 0
LeavesChannels what slot result = IfOk result (λ answered. is_accepted answered.kind ≡ true → renews what slot ≡ false)

-- How often a line read samples. Counts never fall but in a slot into which an accepted line puts channels, nothing is
-- read by a line that isn't accepted, and so many samples at the most by one that covers no diagonals of the slot.
pub record WereReadBy {E : Type 0} (what : Asked) (old new : Stored) (result : Result Reply E) : Type 0 where
  pub most : (slot : ℕ) → LeavesChannels what slot result → advances what slot ≡ false
      → reads_at new slot ≤ reads_at old slot + most_reads old what slot
  pub rise : (slot : ℕ) → LeavesChannels what slot result → reads_at old slot ≤ reads_at new slot
  pub unread : is_unread what ≡ true → AreUnread old new
  pub unaccepted : IfOk result (λ answered. is_accepted answered.kind ≡ false → AreUnread old new)

-- ---- files

-- the session stands for a state in which the line asks for a file, or for none
pub record AsksFile (line : List ℕ) (session : SessionParts) (file : Bool) : Type 0 where
  pub state : State
  pub stand : StandsFor session state
  pub is : fetches state line ≡ file

-- whether one of these lines, run one behind the other, asks for a file
abbrev pub some_fetch : State → Files → List (List ℕ) → Bool
some_fetch state files [] = false
some_fetch state files (line ∷ rest) = fetches state line || some_fetch (after state line files) files rest

-- how many of these lines, run one behind the other, ask for a file
abbrev pub fetch_count : State → Files → List (List ℕ) → ℕ
fetch_count state files [] = 0
fetch_count state files (line ∷ rest) = bit (fetches state line) + fetch_count (after state line files) files rest

-- where one of these lines asks for a file, the shelf tells these files
abbrev pub ToldForAll : Option Files → State → Files → List (List ℕ) → Type 0
ToldForAll told state files lines = some_fetch state files lines ≡ true → told ≡ Some files
