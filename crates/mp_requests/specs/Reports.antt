-- What a command that changes no slot asks for, and what becomes of it.
use Rattle.std.specs.Prelude.{◌≡◌, List, false, if◌then◌else◌, None, Result, IfOk, OnErr}
use Rattle.mp_replies.specs.Line.{Asked, is_end}
use Rattle.mp_replies.specs.State.{Files, Store}
use Rattle.mp_stores.specs.Stores.{StandFor, Stored}
use Rattle.mp_requests.specs.declared.answers.Answer.{Answer}
use Rattle.mp_requests.specs.declared.context.Context.{Context}
use Rattle.mp_requests.specs.Requests.{NamesChannels, is_accepted, is_ended, kind_by, mode_asked, mode_named}
use Rattle.mp_requests.specs.Answering.{IsAnswer, IsUnrefused, state_over}
use Rattle.mp_requests.specs.Reads.{AreUnread, IsKept}

-- whatever stores the slots stand for, it is answered as the definitions say. The answer names channels of these slots,
-- ends the run where that is asked for, and names a mode where it accepts one that is asked for
pub record IsAnswered (context : Context) (what : Asked) (held : Stored) (answer : Answer) : Type 0 where
  pub ok : (stores : List Store) (files : Files) → StandFor held stores
      → IsAnswer (state_over context held stores) files what answer
  pub names : NamesChannels held answer
  pub ends : is_ended (kind_by answer) ≡ is_end what
  pub mode : mode_named answer ≡ (if is_accepted (kind_by answer) then mode_asked what else None)

-- the same, where memory isn't wanting, which it is only where nothing refuses what is asked for
pub record IsReported {E : Type 0} (context : Context) (what : Asked) (held : Stored) (result : Result Answer E)
    : Type 0 where
  pub told : IfOk result (IsAnswered context what held)
  pub memory : (stores : List Store) → StandFor held stores
      → OnErr result (IsUnrefused (state_over context held stores) what)

-- the slots hold what they held, and no sample was read where it is refused
pub record OnlyReads {E : Type 0} (what : Asked) (old new : Stored) (result : Result Answer E) : Type 0 where
  pub kept : IsKept what old new
  pub unread : IfOk result (λ answer. is_accepted (kind_by answer) ≡ false → AreUnread old new)
