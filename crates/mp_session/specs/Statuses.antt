-- How a run ends, by its status.
use Rattle.std.specs.Prelude.{ℕ, Bool, true, false, Result, Ok, Err}
use Rattle.mp_session.specs.declared.halts.Halt.{Halt}
use Rattle.mp_session.specs.declared.halts.Halt.TheVariants as halts
use Rattle.mp_session.specs.declared.top.Status.{Status}
use Rattle.mp_session.specs.declared.top.Status.TheVariants as statuses

abbrev pub halted : Halt → Status
halted halts.ReadFault = statuses.ReadFault
halted halts.ShelfFault = statuses.ReadFault
halted halts.WriteFault = statuses.WriteFault
halted halts.InputLimit = statuses.InputLimit
halted halts.Memory = statuses.Memory

-- of a run to the end, by whether some line was refused
abbrev pub ran : Bool → Status
ran false = statuses.Done
ran true = statuses.Refused

abbrev pub status_by : Result Bool Halt → Status
status_by (Ok refused) = ran refused
status_by (Err halt) = halted halt

-- the input was read to its end, and all was written
abbrev pub is_whole : Status → Bool
is_whole statuses.Done = true
is_whole statuses.Refused = true
is_whole statuses.Words = false
is_whole statuses.ReadFault = false
is_whole statuses.WriteFault = false
is_whole statuses.InputLimit = false
is_whole statuses.Memory = false

-- the exit status of the program
abbrev pub number : Status → ℕ
number statuses.Done = 0
number statuses.Refused = 1
number statuses.Words = 2
number statuses.ReadFault = 3
number statuses.WriteFault = 4
number statuses.InputLimit = 5
number statuses.Memory = 6
