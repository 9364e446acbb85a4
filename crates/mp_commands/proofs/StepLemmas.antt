-- What was prepared for a line stands for what the definitions answer and change.
use Rattle.std.proofs.Common.{◌≡◌, false, refl, ap, ◌∙◌}
use Rattle.std.specs.Prelude.{Option, Some, None}
use Rattle.mp_replies.specs.declared.causes.Cause.{Cause}
use Rattle.mp_replies.specs.Change as change
use Rattle.mp_replies.specs.Command.{Command}
use Rattle.mp_replies.specs.Conditions.{first_cause}
use Rattle.mp_replies.specs.Line.{Asks}
use Rattle.mp_replies.specs.State.{Files, State}
use Rattle.mp_replies.specs.Step.{IsAccepted, after_by, change_by, change_in, conditions, is_last, report_by}
use Rattle.mp_replies.specs.Step.{verdict_by}
use Rattle.mp_requests.specs.declared.answers.Answer.TheVariants as answers
use Rattle.mp_requests.specs.declared.reports.Report as reports
use Rattle.mp_requests.specs.AnswerLaws.{answer_accepted, answer_refused}
use Rattle.mp_requests.specs.Requests.{report_in}
use Rattle.mp_commands.specs.declared.prepared.Change.TheVariants.{Keep}
use Rattle.mp_commands.specs.declared.prepared.Prepared.{Prepared}
use Rattle.mp_commands.specs.Preparing.{IsPrepared, changed_by}

refused_change : (command : Command) (why : Option Cause) (more : change.Change) (cause : Cause) → why ≡ Some cause
    → change.Keep ≡ change_in (verdict_by command why more)
refused_change command None more cause h = absurd (cc h)
refused_change command (Some why) more cause h = refl

pub prepared_refused : (state : State) (files : Files) (command : Command) (cause : Cause) (prepared : Prepared)
    → first_cause (conditions state files command) ≡ Some cause → prepared.answer ≡ answers.Refused cause
    → prepared.change ≡ Keep
    → IsPrepared state files (Asks command) prepared
prepared_refused state files command cause prepared h answer kept = record {
  answer_is = rw answer (answer_refused state files command cause h);
  change_is = ap changed_by kept
      ∙ refused_change command (first_cause (conditions state files command)) (change_by state files command) cause h;
}

accepted_change : (command : Command) (why : Option Cause) (more : change.Change) → why ≡ None
    → more ≡ change_in (verdict_by command why more)
accepted_change command (Some why) more h = absurd (cc h)
accepted_change command None more h = refl

-- a report and a change, where no condition holds
pub prepared_accepted : (state : State) (files : Files) (command : Command) (report : reports.Report)
    (prepared : Prepared)
    → first_cause (conditions state files command) ≡ None → is_last command ≡ false
    → prepared.answer ≡ answers.Accepted report
    → report_in state report
    ≡ report_by state (after_by state (IsAccepted command (change_by state files command))) command
    → changed_by prepared.change ≡ change_by state files command → IsPrepared state files (Asks command) prepared
prepared_accepted state files command report prepared h last answer is put = record {
  answer_is = rw answer (answer_accepted state files command report h last is);
  change_is = put
      ∙ accepted_change command (first_cause (conditions state files command)) (change_by state files command) h;
}
