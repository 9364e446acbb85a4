-- Whole runs: what is written for an input.
use Rattle.std.specs.Prelude.{ℕ, ◌+◌, Bool, false, ◌||◌, is_some, List, [], ◌∷◌, codes, if◌then◌else◌, Option, Some}
use Rattle.std.specs.Prelude.{None}
use Rattle.std.specs.List.{concat}
use Rattle.mp_bytes.specs.Lines.{lines}
use Rattle.mp_replies.specs.Words.{Job, Setup, job}
use Rattle.mp_replies.specs.State.{Files, State, opening}
use Rattle.mp_replies.specs.Summary.{summary_of}
use Rattle.mp_replies.specs.declared.makes.Make.{Make}
use Rattle.mp_replies.specs.Line.{ends}
use Rattle.mp_replies.specs.Step.{cause, after, answer}
use Rattle.mp_replies.specs.Report.{written_of}

-- the report of a line, in the form of the state behind it
unfoldable pub reply : State → List ℕ → Files → List ℕ
reply state line files =
    written_of (after state line files).mode.form (state.lines + 1) (answer state line files)

-- ---- lines one behind the other, each in the state behind the lines before

-- the report of each
abbrev pub replies : State → Files → List (List ℕ) → List (List ℕ)
replies state files [] = []
replies state files (line ∷ rest) = reply state line files ∷ replies (after state line files) files rest

-- the state behind them
abbrev pub state_after : State → Files → List (List ℕ) → State
state_after state files [] = state
state_after state files (line ∷ rest) = state_after (after state line files) files rest

-- whether one of them is refused
abbrev pub some_refused : State → Files → List (List ℕ) → Bool
some_refused state files [] = false
some_refused state files (line ∷ rest) =
    is_some (cause state line files) || some_refused (after state line files) files rest

-- whether one of them ends the run
abbrev pub some_ends : List (List ℕ) → Bool
some_ends [] = false
some_ends (line ∷ rest) = ends line || some_ends rest

-- those up to and with the first that ends the run
abbrev pub until_end : List (List ℕ) → List (List ℕ)
until_end [] = []
until_end (line ∷ rest) = line ∷ (if ends line then [] else until_end rest)

-- the reports, one behind the other
abbrev pub reports : State → Files → List (List ℕ) → List ℕ
reports state files ran = concat (replies state files ran)

-- ---- all that is written

-- for words outside the grammar
abbrev pub usage : List ℕ
usage = codes "mprof: words: --window M [--scale D] [--tile T] [--workers W] [--generate NUMBER --count N]\n"

-- the lines of an input that are run
abbrev pub lines_run : List ℕ → List (List ℕ)
lines_run bytes = until_end (lines bytes)

abbrev pub session_output : State → Files → List ℕ → List ℕ
session_output state files bytes = reports state files (lines_run bytes)

-- the reports of a session, or the summary of a made series, which knows no scale, no file and no input
abbrev pub output_for : Setup → Option Make → Files → List ℕ → List ℕ
output_for setup None files bytes = session_output (opening setup.window setup.scale) files bytes
output_for setup (Some make) files bytes = summary_of setup.window make

abbrev pub output_by : Option Job → Files → List ℕ → List ℕ
output_by None files bytes = usage
output_by (Some job) files bytes = output_for job.setup job.make files bytes

-- by the words, the files and the input
unfoldable pub output : List (List ℕ) → Files → List ℕ → List ℕ
output words files bytes = output_by (job words) files bytes
