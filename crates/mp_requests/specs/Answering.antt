-- What a line is answered, in the state before it.
use Rattle.std.specs.Prelude.{◌≡◌, List, Option, None}
use Rattle.mp_replies.specs.declared.causes.Cause.{Cause}
use Rattle.mp_replies.specs.Answer as replies
use Rattle.mp_replies.specs.Conditions.{Condition, first_cause}
use Rattle.mp_replies.specs.Line.{Asked, Nothing, Asks, Faulty}
use Rattle.mp_replies.specs.State.{Files, State, Store}
use Rattle.mp_replies.specs.Step.{after_by, answer_by, state_conditions, verdict_of}
use Rattle.mp_stores.specs.Stores.{Stored, StandFor}
use Rattle.mp_requests.specs.declared.answers.Answer.{Answer}
use Rattle.mp_requests.specs.declared.context.Context.{Context}
use Rattle.mp_requests.specs.Requests.{answered}

-- the state of these stores, for which slots stand, and of what is known beside the slots
abbrev pub state_over : Context → Stored → List Store → State
state_over context held stores = record {
  window = held.m;
  scale = context.settings.scale;
  mode = context.mode;
  lines = context.lines;
  begun = context.begun;
  stores = stores;
}

-- ---- refusals

-- whatever stores slots stand for, this is the word of the first of these conditions that holds, none where none does
abbrev pub IsCause : Stored → (List Store → List Condition) → Option Cause → Type 0
IsCause held conditions cause = (stores : List Store) → StandFor held stores → first_cause (conditions stores) ≡ cause

-- ---- the answer

-- what the definitions answer
abbrev pub answer_in : State → Files → Asked → replies.Answer
answer_in state files asked =
    answer_by state (after_by state (verdict_of state files asked)) (verdict_of state files asked)

-- the program's answer is theirs, in the state before the line. The state behind it has the same channels where the
-- answer names one, since such a line changes none
abbrev pub IsAnswer : State → Files → Asked → Answer → Type 0
IsAnswer state files asked answer = answered state answer ≡ answer_in state files asked

-- a command that nothing refuses without a file
abbrev pub IsUnrefused : State → Asked → Type 0
IsUnrefused state Nothing = ⊥
IsUnrefused state (Faulty cause) = ⊥
IsUnrefused state (Asks command) = first_cause (state_conditions state command) ≡ None
