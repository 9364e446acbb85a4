-- One line: why it is refused, what it changes and what it is answered.
use Rattle.std.specs.Prelude.{ℕ, ◌+◌, Bool, true, false, List, ◌++◌, is_none, if◌then◌else◌, Option, Some, None}
use Rattle.mp_replies.specs.declared.causes.Cause.{Cause}
use Rattle.mp_replies.specs.State.{Files, State}
use Rattle.mp_replies.specs.Change.{Change, Keep, changed}
use Rattle.mp_replies.specs.Command.{Command, Load, LoadLazy, End, Report}
use Rattle.mp_replies.specs.Commands.{meaning}
use Rattle.mp_replies.specs.Conditions.{Condition, first_cause}
use Rattle.mp_replies.specs.LazyCommand.{lazy_conditions}
use Rattle.mp_replies.specs.LoadCommand.{load_conditions}
use Rattle.mp_replies.specs.SessionCommand.{mode_behind}
use Rattle.mp_replies.specs.Answer.{Answer}
use Rattle.mp_replies.specs.Answer.{Silent, Refused, Accepted, Ended}
use Rattle.mp_replies.specs.Line.{Asked, Nothing, Asks, Faulty, asked_of}

-- ---- each command

abbrev pub state_conditions : State → Command → List Condition
state_conditions state command = (meaning command).conditions state

abbrev pub conditions : State → Files → Command → List Condition
conditions state files command = state_conditions state command ++ (meaning command).file_conditions state files

abbrev pub change_by : State → Files → Command → Change
change_by state files command = (meaning command).change state files

-- from the state before it and the one behind it
abbrev pub report_by : State → State → Command → Report
report_by state later command = (meaning command).report state later

-- whether no line behind an accepted command is run
abbrev pub is_last : Command → Bool
is_last End = true
is_last other = false

-- ---- the verdict on a line

pub data Verdict : Type 0 where
  -- it asks for nothing
  Passes : Verdict
  IsRefused : (cause : Cause) → Verdict
  IsAccepted : (command : Command) (change : Change) → Verdict

abbrev pub verdict_by : Command → Option Cause → Change → Verdict
verdict_by command (Some cause) change = IsRefused cause
verdict_by command None change = IsAccepted command change

abbrev pub verdict_of : State → Files → Asked → Verdict
verdict_of state files Nothing = Passes
verdict_of state files (Faulty cause) = IsRefused cause
verdict_of state files (Asks command) =
    verdict_by command (first_cause (conditions state files command)) (change_by state files command)

unfoldable pub verdict : State → List ℕ → Files → Verdict
verdict state line files = verdict_of state files (asked_of state.mode.version line)

-- ---- what follows from it

abbrev pub cause_in : Verdict → Option Cause
cause_in Passes = None
cause_in (IsRefused cause) = Some cause
cause_in (IsAccepted command change) = None

abbrev pub change_in : Verdict → Change
change_in Passes = Keep
change_in (IsRefused cause) = Keep
change_in (IsAccepted command change) = change

-- one more line was run
abbrev pub counted : State → State
counted state = record state { lines = state.lines + 1 }

abbrev pub after_by : State → Verdict → State
after_by state Passes = counted state
after_by state (IsRefused cause) = counted state
after_by state (IsAccepted command change) =
    record state {
      mode = mode_behind state.mode command;
      lines = state.lines + 1;
      begun = true;
      stores = changed state.window state.stores change;
    }

abbrev pub answer_by : State → State → Verdict → Answer
answer_by state later Passes = Silent
answer_by state later (IsRefused cause) = Refused cause
answer_by state later (IsAccepted command change) =
    if is_last command then Ended (report_by state later command) else Accepted (report_by state later command)

-- why a line is refused, none where it isn't
unfoldable pub cause : State → List ℕ → Files → Option Cause
cause state line files = cause_in (verdict state line files)

-- the state behind a line
unfoldable pub after : State → List ℕ → Files → State
after state line files = after_by state (verdict state line files)

-- the answer to a line
unfoldable pub answer : State → List ℕ → Files → Answer
answer state line files = answer_by state (after state line files) (verdict state line files)

-- ---- the lines that need a file

-- a file is fetched for a load alone, whether the profile is made at once or in parts, and only where nothing refuses
-- it without the file
abbrev pub fetches_by : State → Asked → Bool
fetches_by state (Asks (Load slot file columns header)) =
    is_none (first_cause (load_conditions state.stores slot columns))
fetches_by state (Asks (LoadLazy slot file column header)) = is_none (first_cause (lazy_conditions slot))
fetches_by state (Asks other) = false
fetches_by state Nothing = false
fetches_by state (Faulty cause) = false

unfoldable pub fetches : State → List ℕ → Bool
fetches state line = fetches_by state (asked_of state.mode.version line)
