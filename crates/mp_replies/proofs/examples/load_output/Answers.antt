use Rattle.std.proofs.Common.{ℕ, List, [], ◌∷◌, ◌++◌, ap}
use Rattle.std.specs.Prelude.{Option, true, codes}
use Rattle.std.specs.List.{concat}
use Rattle.std.specs.Fmt.{digits}
use Rattle.csv.specs.Machine.{next_record}
use Rattle.csv.specs.Reading.{records_from, strip_bom}
use Rattle.csv.specs.Records.{field_at}
use Rattle.mp_defs.specs.Distance.{distance}
use Rattle.mp_defs.specs.Least.{near}
use Rattle.mp_replies.specs.Change.{PutChannels}
use Rattle.mp_replies.specs.Command.{Load}
use Rattle.mp_replies.specs.Conditions.{first_cause}
use Rattle.mp_replies.specs.Line.{asked_of, ends}
use Rattle.mp_replies.specs.LoadCommand.{channels_of, file_conditions, load_conditions}
use Rattle.mp_replies.specs.Report.{written_of}
use Rattle.mp_replies.specs.State.{Files, State, opening}
use Rattle.mp_replies.specs.Step.{Verdict, verdict, verdict_by, cause, after, after_by, answer, answer_by}
use Rattle.mp_replies.specs.Output.{reply, replies, output}
use Rattle.mp_replies.proofs.examples.load_output.Goals as goal

-- the state before the load
abbrev appended : Files → State
appended files = after (opening 3 1) (codes "append 0 7") files

-- the verdict on the load, of the bytes of the file
abbrev loaded : State → Option (List ℕ) → Verdict
loaded state bytes =
    verdict_by (Load 0 (codes "day.csv") (1 ∷ []) true)
    (first_cause
    (load_conditions state.stores 0 (1 ∷ [])
    ++ file_conditions state.mode.width state.scale (1 ∷ []) true bytes))
    (PutChannels 0 (channels_of state.mode.width state.scale (1 ∷ []) true bytes))

pub returns : goal.returns
unfolding digits near distance field_at next_record records_from strip_bom
    asked_of verdict cause after answer reply ends output
returns c = λ files is.
    ap (λ (bytes : Option (List ℕ)).
    let behind = after_by (appended files) (loaded (appended files) bytes) in
    codes "ok 1 1\n"
    ++ (written_of behind.mode.form 2 (answer_by (appended files) behind (loaded (appended files) bytes))
    ++ concat (replies behind files (codes "window 0 0" ∷ [])))) is
