-- A call that serves an input: what stands outside before and after it, and what is told of that.
use Rattle.std.specs.Prelude.{◌≡◌, ℕ, ◌+◌, ◌≤◌, Bool, true, List, ◌∷◌, ◌++◌, length, Option, Some}
use Rattle.mp_outside.specs.Counts.{Rose, raised}
use Rattle.mp_outside.specs.declared.shelves.Shelf as shelves
use Rattle.mp_outside.specs.declared.sources.Source as sources
use Rattle.mp_outside.specs.declared.sinks.Sink.{Ghosts}
use Rattle.mp_replies.specs.State.{Files, State, opening}
use Rattle.mp_bytes.specs.Lines.{ended_lines}
use Rattle.mp_replies.specs.Output.{lines_run, output, reports, state_after}
use Rattle.mp_replies.specs.Step.{fetches}
use Rattle.mp_replies.specs.Words.{Setup, job, job_with, session_job}
use Rattle.mp_replies.specs.declared.makes.Make.{Make}
use Rattle.mp_session.specs.declared.top.Status.{Status}
use Rattle.mp_session.specs.Sessions.{ToldForAll, fetch_count}

-- ---- what is told of a run

-- Of these bytes some were taken and the others are left. A sink that told what was before tells the reports of the
-- lines that an LF ends of those that were taken.
pub record ToldTaken (state : State) (files : Files) (bytes : List ℕ) (left : Option (List ℕ))
    (before : List ℕ) (now : Option (List ℕ)) : Type 0 where
  pub taken : List ℕ
  pub rest : List ℕ
  pub bytes_are : bytes ≡ taken ++ rest
  pub left_is : left ≡ Some rest
  pub told : now ≡ Some (before ++ reports state files (ended_lines taken))

-- where a line of this input that is run asks for a file, the shelf tells these files
abbrev pub ToldForRun : Option Files → State → Files → List ℕ → Type 0
ToldForRun told state files bytes = ToldForAll told state files (lines_run bytes)

-- by the words. Words outside the grammar, and those that ask for a made series, run no line
abbrev pub ToldForWords : Option Files → List (List ℕ) → Files → List ℕ → Type 0
ToldForWords told words files bytes =
    (setup : Setup) → job words ≡ Some (session_job setup)
    → ToldForRun told (opening setup.window setup.scale) files bytes

-- ---- a call

-- What stands outside at one moment: a shelf and a sink, and what these and the source tell.
pub record Outside (Sh Out : Type 0) : Type 0 where
  pub shelf : Sh
  -- the files of the shelf, where it tells them, how often it was asked for one, and how many fetches failed
  pub files : Option Files
  pub fetched : ℕ
  pub fetch_faults : ℕ
  -- the bytes that the source has left, where it tells them, how many it gave, and how many reads failed
  pub left : Option (List ℕ)
  pub given : ℕ
  pub read_faults : ℕ
  pub sink : Out
  -- the bytes that the sink took, where it tells them, how many of them it can tell, whether they are flushed, and how
  -- many writes and flushes failed
  pub written : Option (List ℕ)
  pub room : ℕ
  pub flushed : Bool
  pub write_faults : ℕ

abbrev pub outside_at : {Sh In Out : Type 0} → shelves.Ghosts Sh → sources.Ghosts In → Ghosts Out → Sh → In → Out
    → Outside Sh Out
outside_at shelf_tells source_tells sink_tells shelf source sink = record {
  shelf = shelf;
  files = shelf_tells.files shelf;
  fetched = shelf_tells.fetches shelf;
  fetch_faults = shelf_tells.faults shelf;
  left = source_tells.left source;
  given = source_tells.given source;
  read_faults = source_tells.faults source;
  sink = sink;
  written = sink_tells.written sink;
  room = sink_tells.room sink;
  flushed = sink_tells.flushed sink;
  write_faults = sink_tells.faults sink;
}

-- a call that serves an input: its words, its limit on input, what stands outside before and after it, and its answer
pub record Call (Sh Out : Type 0) : Type 0 where
  pub words : List (List ℕ)
  pub limit : ℕ
  pub old : Outside Sh Out
  pub new : Outside Sh Out
  pub status : Status

-- the source tells these bytes, and the shelf these files where a line that is run asks for one
pub record TellsInput {Sh Out : Type 0} (call : Call Sh Out) (files : Files) (bytes : List ℕ) : Type 0 where
  pub shelf : ToldForWords call.old.files call.words files bytes
  pub source : call.old.left ≡ Some bytes

-- the sink tells that these bytes were written before, and has room for this text, too
pub record HasRoom {Sh Out : Type 0} (call : Call Sh Out) (before text : List ℕ) : Type 0 where
  pub tells : call.old.written ≡ Some before
  pub fits : length before + length text ≤ call.old.room

-- the words ask for a session of this setup
abbrev pub AsksSession : {Sh Out : Type 0} → Call Sh Out → Setup → Type 0
AsksSession call setup = job call.words ≡ Some (session_job setup)

-- the words ask for the summary of a made series
abbrev pub AsksSummary : {Sh Out : Type 0} → Call Sh Out → Setup → Make → Type 0
AsksSummary call setup make = job call.words ≡ Some (job_with setup (Some make))

-- both, where the words ask for a session of this setup
pub record IsTold {Sh Out : Type 0} (call : Call Sh Out) (setup : Setup) (files : Files) (bytes before : List ℕ)
    : Type 0 where
  pub setup_is : AsksSession call setup
  pub input : TellsInput call files bytes
  pub room : HasRoom call before (output call.words files bytes)

-- Of the lines of this input that are run, those before one that asks for a file were. The count of fetches says which
-- one it is: it rose by as many as ask for a file before it, and by one for this line. A sink that told what was before
-- tells the reports of those before it.
pub record ToldToFile {Sh Out : Type 0} (call : Call Sh Out) (state : State) (files : Files) (bytes before : List ℕ)
    : Type 0 where
  pub ran : List (List ℕ)
  pub line : List ℕ
  pub others : List (List ℕ)
  pub lines_are : lines_run bytes ≡ ran ++ line ∷ others
  pub asks : fetches (state_after state files ran) line ≡ true
  pub count : call.new.fetched ≡ raised (fetch_count state files ran + 1) call.old.fetched
  pub told : call.new.written ≡ Some (before ++ reports state files ran)

-- no fault of the outside was counted
pub record IsCalm {Sh Out : Type 0} (call : Call Sh Out) : Type 0 where
  pub reads : ¬ Rose call.old.read_faults call.new.read_faults
  pub fetches : ¬ Rose call.old.fetch_faults call.new.fetch_faults
  pub writes : ¬ Rose call.old.write_faults call.new.write_faults
