-- What is written of an answer.
use Rattle.std.specs.Prelude.{ℕ, List, []}
use Rattle.mp_replies.specs.declared.causes.Cause.{Cause}
use Rattle.mp_replies.specs.declared.modes.ReportForm.{ReportForm}
use Rattle.mp_replies.specs.declared.modes.ReportForm.TheVariants.{Text, Json}
use Rattle.mp_replies.specs.Answer.{Answer, Silent, Refused, Accepted, Ended}
use Rattle.mp_replies.specs.Command.{Report}
use Rattle.mp_replies.specs.Commands.{report_text}
use Rattle.mp_replies.specs.Json.{json_line, refused_data, report_data}
use Rattle.mp_replies.specs.Text.{refused_text}

-- ---- for the line of this number, in a form

abbrev pub report_written : ReportForm → ℕ → Report → List ℕ
report_written Text line report = report_text line report
report_written Json line report = json_line (report_data line report)

abbrev pub refusal_written : ReportForm → ℕ → Cause → List ℕ
refusal_written Text line cause = refused_text line cause
refusal_written Json line cause = json_line (refused_data line cause)

abbrev pub written_of : ReportForm → ℕ → Answer → List ℕ
written_of form line Silent = []
written_of form line (Refused cause) = refusal_written form line cause
written_of form line (Accepted report) = report_written form line report
written_of form line (Ended report) = report_written form line report
