-- What is said of a call that serves an input. Its first clause is the headline: the whole output is written.
use Rattle.mp_session.specs.Running.{IsWithin, IsPast}
use Rattle.mp_session.specs.Calls.{Call, TellsInput, HasRoom, AsksSession, AsksSummary, IsTold, IsCalm, ToldTaken}
use Rattle.mp_session.specs.Calls.{ToldToFile}
use Rattle.std.specs.Prelude.{◌≡◌, ◌⊎◌, ℕ, ◌+◌, ◌<◌, ◌≤◌, true, false, IsTrue, List, [], ◌++◌, length, take, Some}
use Rattle.std.specs.Prelude.{None}
use Rattle.mp_outside.specs.Counts.{Rose, raised}
use Rattle.mp_feed.specs.Writing.{TellsPrefix}
use Rattle.mp_replies.specs.State.{Files, opening}
use Rattle.mp_bytes.specs.Lines.{ended_lines}
use Rattle.mp_replies.specs.Output.{lines_run, output, reports, some_ends, some_refused, usage}
use Rattle.mp_replies.specs.Summary.{summary_of}
use Rattle.mp_replies.specs.Words.{Setup, job}
use Rattle.mp_replies.specs.declared.makes.Make.{Make}
use Rattle.mp_session.specs.declared.top.Status.TheVariants as statuses
use Rattle.mp_session.specs.Sessions.{fetch_count, some_fetch}
use Rattle.mp_session.specs.Statuses.{is_whole, ran}

-- What is written: the whole output, or a front of it where the run ended early.
pub record WritesOutput {Sh Out : Type 0} (call : Call Sh Out) : Type 0 where
  pub whole : (files : Files) (bytes before : List ℕ) → TellsInput call files bytes
      → HasRoom call before (output call.words files bytes) → IsTrue (is_whole call.status)
      → call.new.written ≡ Some (before ++ output call.words files bytes)
  pub front : (files : Files) (bytes before : List ℕ) → TellsInput call files bytes
      → HasRoom call before (output call.words files bytes)
      → TellsPrefix call.new.written before (output call.words files bytes)
  -- Which front it is: behind a failed read of the input, the reports of all lines that an LF ended before it; behind
  -- a failed read of a file, those of all lines before the one that asked for it; behind the limit on input, those of
  -- the lines ended within it; for want of memory, those of whole lines.
  pub read_fault : (setup : Setup) (files : Files) (bytes before : List ℕ) → IsTold call setup files bytes before
      → call.status ≡ statuses.ReadFault
      → (Rose call.old.read_faults call.new.read_faults
      × ToldTaken (opening setup.window setup.scale) files bytes call.new.left before call.new.written)
      ⊎ (Rose call.old.fetch_faults call.new.fetch_faults
      × ToldToFile call (opening setup.window setup.scale) files bytes before)
  pub input_limit : (setup : Setup) (files : Files) (bytes before : List ℕ) → IsTold call setup files bytes before
      → call.status ≡ statuses.InputLimit
      → call.new.written
      ≡ Some (before ++ reports (opening setup.window setup.scale) files (ended_lines (take call.limit bytes)))
  pub memory : (setup : Setup) (files : Files) (bytes before : List ℕ) → IsTold call setup files bytes before
      → call.status ≡ statuses.Memory
      → (count : ℕ)
      × (call.new.written
      ≡ Some (before ++ reports (opening setup.window setup.scale) files (take count (lines_run bytes))))
  -- Where nothing is to be written, nothing is done with the sink, however the run ended.
  pub quiet : (files : Files) (bytes : List ℕ) → TellsInput call files bytes → output call.words files bytes ≡ []
      → call.new.sink ≡ call.old.sink
  -- Every sink is flushed, or nothing was done with it, also one that tells nothing, and however the run ended, unless
  -- a write or a flush failed. So one that was flushed is flushed.
  pub flushed_or_untouched : ¬ (call.status ≡ statuses.WriteFault)
      → (call.new.flushed ≡ true) ⊎ (call.new.sink ≡ call.old.sink)
  pub flushed : call.old.flushed ≡ true → ¬ (call.status ≡ statuses.WriteFault) → call.new.flushed ≡ true

-- What is read: to the end or to an accepted `end`, within the limit.
pub record ReadsInput {Sh Out : Type 0} (call : Call Sh Out) : Type 0 where
  -- whether some line was refused
  pub refused : (setup : Setup) (files : Files) (bytes : List ℕ) → AsksSession call setup
      → TellsInput call files bytes → IsTrue (is_whole call.status)
      → call.status ≡ ran (some_refused (opening setup.window setup.scale) files (lines_run bytes))
  -- where no line ends the run, nothing is left of the input, and it was no longer than the limit
  pub read : (setup : Setup) (bytes : List ℕ) → AsksSession call setup → call.old.left ≡ Some bytes
      → some_ends (lines_run bytes) ≡ false → IsTrue (is_whole call.status) → call.new.left ≡ Some []
  pub within : (setup : Setup) (bytes : List ℕ) → AsksSession call setup → call.old.left ≡ Some bytes
      → some_ends (lines_run bytes) ≡ false → IsTrue (is_whole call.status) → length bytes ≤ call.limit
  -- and where one does, its LF, if it has one, stands within the limit
  pub end_within : (setup : Setup) (bytes : List ℕ) → AsksSession call setup → call.old.left ≡ Some bytes
      → IsTrue (is_whole call.status) → IsWithin call.limit bytes
  -- and each line that asks for a file has asked for it once
  pub fetched : (setup : Setup) (files : Files) (bytes : List ℕ) → AsksSession call setup
      → TellsInput call files bytes → IsTrue (is_whole call.status)
      → call.new.fetched
      ≡ raised (fetch_count (opening setup.window setup.scale) files (lines_run bytes)) call.old.fetched
  -- `InputLimit` comes only of an input that isn't within the limit, and only where more bytes were given
  pub past : (bytes : List ℕ) → call.old.left ≡ Some bytes → call.status ≡ statuses.InputLimit
      → IsPast call.limit bytes
  pub over : call.status ≡ statuses.InputLimit → call.old.given + call.limit < call.new.given
  -- At most one byte past the limit is taken.
  pub given : call.new.given ≤ call.old.given + call.limit + 1

-- Words outside the grammar: the usage is written, no input is read and no file fetched.
pub record RefusesWords {Sh Out : Type 0} (call : Call Sh Out) : Type 0 where
  pub words : call.status ≡ statuses.Words → job call.words ≡ None
  pub outside : job call.words ≡ None → (call.status ≡ statuses.Words) ⊎ (call.status ≡ statuses.WriteFault)
  pub written : (before : List ℕ) → HasRoom call before usage → call.status ≡ statuses.Words
      → call.new.written ≡ Some (before ++ usage)
  pub front : (before : List ℕ) → HasRoom call before usage → job call.words ≡ None
      → TellsPrefix call.new.written before usage
  pub unfinished : (before : List ℕ) → HasRoom call before usage → job call.words ≡ None
      → call.status ≡ statuses.WriteFault
      → ¬ ((call.new.written ≡ Some (before ++ usage)) × (call.new.flushed ≡ true))
  pub flushed : call.status ≡ statuses.Words → call.new.flushed ≡ true
  pub unread : job call.words ≡ None
      → (call.new.left ≡ call.old.left) × (call.new.given ≡ call.old.given)
      × (call.new.read_faults ≡ call.old.read_faults)
  pub unfetched : job call.words ≡ None → call.new.shelf ≡ call.old.shelf

-- A made series: its summary is written, no input is read and no file fetched, whatever the source and the shelf tell.
pub record WritesSummary {Sh Out : Type 0} (call : Call Sh Out) : Type 0 where
  pub status : (setup : Setup) (make : Make) → AsksSummary call setup make
      → (call.status ≡ statuses.Done) ⊎ ((call.status ≡ statuses.WriteFault) ⊎ (call.status ≡ statuses.Memory))
  -- it is written whole and flushed where the run is done, and only there
  pub written : (setup : Setup) (make : Make) (before : List ℕ) → AsksSummary call setup make
      → HasRoom call before (summary_of setup.window make) → call.status ≡ statuses.Done
      → call.new.written ≡ Some (before ++ summary_of setup.window make)
  pub flushed : (setup : Setup) (make : Make) → AsksSummary call setup make → call.status ≡ statuses.Done
      → call.new.flushed ≡ true
  pub unfinished : (setup : Setup) (make : Make) (before : List ℕ) → AsksSummary call setup make
      → HasRoom call before (summary_of setup.window make) → call.status ≡ statuses.WriteFault
      → ¬ ((call.new.written ≡ Some (before ++ summary_of setup.window make)) × (call.new.flushed ≡ true))
  -- a front of it where a write failed, and nothing for want of memory
  pub front : (setup : Setup) (make : Make) (before : List ℕ) → AsksSummary call setup make
      → HasRoom call before (summary_of setup.window make)
      → TellsPrefix call.new.written before (summary_of setup.window make)
  pub memory : (setup : Setup) (make : Make) → AsksSummary call setup make → call.status ≡ statuses.Memory
      → call.new.sink ≡ call.old.sink
  pub unread : (setup : Setup) (make : Make) → AsksSummary call setup make
      → (call.new.left ≡ call.old.left) × (call.new.given ≡ call.old.given)
      × (call.new.read_faults ≡ call.old.read_faults)
  pub unfetched : (setup : Setup) (make : Make) → AsksSummary call setup make → call.new.shelf ≡ call.old.shelf

-- Why a run ended early, and where it doesn't.
pub record EndsByCause {Sh Out : Type 0} (call : Call Sh Out) : Type 0 where
  pub read_fault : call.status ≡ statuses.ReadFault
      → Rose call.old.read_faults call.new.read_faults ⊎ Rose call.old.fetch_faults call.new.fetch_faults
  pub write_fault : call.status ≡ statuses.WriteFault → Rose call.old.write_faults call.new.write_faults
  -- an input that isn't within the limit ends at it, or earlier by a fault or for want of memory
  pub limited : (setup : Setup) (bytes : List ℕ) → AsksSession call setup → call.old.left ≡ Some bytes
      → IsPast call.limit bytes
      → (call.status ≡ statuses.InputLimit) ⊎ ((call.status ≡ statuses.ReadFault)
      ⊎ ((call.status ≡ statuses.WriteFault) ⊎ (call.status ≡ statuses.Memory)))
  -- one that is within it is run to its end where nothing fails: by its bytes, and by how many were given
  pub complete : (setup : Setup) (bytes : List ℕ) → AsksSession call setup → IsCalm call
      → call.old.left ≡ Some bytes → IsWithin call.limit bytes
      → IsTrue (is_whole call.status) ⊎ (call.status ≡ statuses.Memory)
  pub complete_given : (setup : Setup) → AsksSession call setup → IsCalm call
      → call.new.given ≤ call.old.given + call.limit
      → IsTrue (is_whole call.status) ⊎ (call.status ≡ statuses.Memory)
  -- the files of the shelf stay, and a fetch fails only where it ends the run
  pub files : call.new.files ≡ call.old.files
  pub calm : ¬ (call.status ≡ statuses.ReadFault) → call.new.fetch_faults ≡ call.old.fetch_faults
  pub fileless : (setup : Setup) (files : Files) (bytes : List ℕ) → AsksSession call setup
      → call.old.left ≡ Some bytes
      → some_fetch (opening setup.window setup.scale) files (lines_run bytes) ≡ false
      → call.new.fetch_faults ≡ call.old.fetch_faults

-- An input was served: all of this.
pub record IsServed {Sh Out : Type 0} (call : Call Sh Out) : Type 0 where
  pub writes : WritesOutput call
  pub reads : ReadsInput call
  pub refuses : RefusesWords call
  pub summary : WritesSummary call
  pub ends : EndsByCause call
