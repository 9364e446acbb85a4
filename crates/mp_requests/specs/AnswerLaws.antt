-- An answer stands for what the definitions answer.
use Rattle.std.proofs.Common.{◌≡◌, Bool, true, false, ap}
use Rattle.std.specs.Prelude.{if◌then◌else◌, Option, Some, None}
use Rattle.mp_replies.specs.declared.causes.Cause.{Cause}
use Rattle.mp_replies.specs.Answer as replies
use Rattle.mp_replies.specs.Change as change
use Rattle.mp_replies.specs.Command.{Command, Report}
use Rattle.mp_replies.specs.Conditions.{first_cause}
use Rattle.mp_replies.specs.Line.{Asks}
use Rattle.mp_replies.specs.State.{Files, State}
use Rattle.mp_replies.specs.Step.{IsAccepted, after_by, answer_by, change_by, conditions, is_last, report_by}
use Rattle.mp_replies.specs.Step.{verdict_by}
use Rattle.mp_requests.specs.declared.answers.Answer.TheVariants as answers
use Rattle.mp_requests.specs.declared.reports.Report as reports
use Rattle.mp_requests.specs.Answering.{IsAnswer}
use Rattle.mp_requests.specs.Requests.{report_in}

refused_by : (state : State) (command : Command) (why : Option Cause) (more : change.Change) (cause : Cause)
    → why ≡ Some cause
    → replies.Refused cause
    ≡ answer_by state (after_by state (verdict_by command why more)) (verdict_by command why more)
refused_by state command None more cause h = absurd (cc h)
refused_by state command (Some why) more cause h = let same : cause ≡ why = cc in ap replies.Refused same

-- a refusal by the first condition that holds
pub answer_refused : (state : State) (files : Files) (command : Command) (cause : Cause)
    → first_cause (conditions state files command) ≡ Some cause
    → IsAnswer state files (Asks command) (answers.Refused cause)
answer_refused state files command cause h =
    refused_by state command (first_cause (conditions state files command)) (change_by state files command) cause h

accepted_by : (last : Bool) (ours theirs : Report) → last ≡ false → ours ≡ theirs
    → replies.Accepted ours ≡ (if last then replies.Ended theirs else replies.Accepted theirs)
accepted_by true ours theirs h is = absurd (cc h)
accepted_by false ours theirs h is = ap replies.Accepted is

accepted_at : (state : State) (command : Command) (why : Option Cause) (more : change.Change) (ours : Report)
    → why ≡ None → is_last command ≡ false
    → ours ≡ report_by state (after_by state (IsAccepted command more)) command
    → replies.Accepted ours
    ≡ answer_by state (after_by state (verdict_by command why more)) (verdict_by command why more)
accepted_at state command (Some why) more ours h last is = absurd (cc h)
accepted_at state command None more ours h last is =
    accepted_by (is_last command) ours (report_by state (after_by state (IsAccepted command more)) command) last is

-- a report, where no condition holds
pub answer_accepted : (state : State) (files : Files) (command : Command) (report : reports.Report)
    → first_cause (conditions state files command) ≡ None → is_last command ≡ false
    → report_in state report
    ≡ report_by state (after_by state (IsAccepted command (change_by state files command))) command
    → IsAnswer state files (Asks command) (answers.Accepted report)
answer_accepted state files command report h last is =
    accepted_at state command (first_cause (conditions state files command)) (change_by state files command)
    (report_in state report) h last is
