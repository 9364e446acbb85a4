-- A line that is cut is run as the whole.
use Rattle.std.specs.Prelude.{◌≡◌, ℕ, ◌+◌, ◌<◌, ◌≤◌, Bool, true, false, nat_lt, List, length}
use Rattle.std.proofs.Common.{refl, ap, ◌∙◌, arith}
use Rattle.std.proofs.lemmas.List.{length-take-le, take_all}
use Rattle.std.proofs.lemmas.Bool.Decides.{nat_tests}
use Rattle.mp_bytes.specs.Lines.{max_line, most_kept, cut}
use Rattle.mp_replies.specs.State.{Files, State, first_version}
use Rattle.mp_replies.specs.Line.{Asked, asked_of, is_end, ends}
use Rattle.mp_replies.specs.Step.{Verdict, verdict, verdict_of, cause, cause_in, after, after_by, answer, answer_by}
use Rattle.mp_replies.specs.Step.{fetches, fetches_by}
use Rattle.mp_replies.specs.Report.{written_of}
use Rattle.mp_replies.specs.Output.{reply}
use Rattle.mp_replies.specs.Laws.{LongLinesAreCut, LongLinesAreRunCut}

-- a longer line is longer than the limit when it is cut, too
cut_by : (version : ℕ) (line : List ℕ) (t : Bool) → nat_lt max_line (length line) ≡ t
    → asked_of version (cut line) ≡ asked_of version line
unfolding asked_of
cut_by version line true t =
    let long : max_line < length line = grind (arith, nat_tests) in
    let kept : length (cut line) ≡ most_kept = length-take-le most_kept line (omega arith) in
    rw (kept, t) refl
cut_by version line false t =
    let short : length line ≤ most_kept = grind (arith, nat_tests) in
    rw (take_all most_kept line short) refl

pub asked_cut : LongLinesAreCut
asked_cut version line = cut_by version line (nat_lt max_line (length line)) refl

-- ---- a line that was cut is run as the whole line

verdict_cut : (state : State) (files : Files) (line : List ℕ)
    → verdict state (cut line) files ≡ verdict state line files
unfolding verdict
verdict_cut state files line = ap (λ (asked : Asked). verdict_of state files asked) (asked_cut state.mode.version line)

pub cause_cut : (state : State) (files : Files) (line : List ℕ) → cause state (cut line) files ≡ cause state line files
unfolding cause
cause_cut state files line = ap cause_in (verdict_cut state files line)

pub after_cut : (state : State) (files : Files) (line : List ℕ) → after state (cut line) files ≡ after state line files
unfolding after
after_cut state files line = ap (after_by state) (verdict_cut state files line)

pub answer_cut : (state : State) (files : Files) (line : List ℕ)
    → answer state (cut line) files ≡ answer state line files
unfolding answer after
answer_cut state files line = ap (λ (v : Verdict). answer_by state (after_by state v) v) (verdict_cut state files line)

pub reply_cut : (state : State) (files : Files) (line : List ℕ) → reply state (cut line) files ≡ reply state line files
unfolding reply
reply_cut state files line =
    ap (λ (behind : State). written_of behind.mode.form (state.lines + 1) (answer state (cut line) files))
    (after_cut state files line)
    ∙ ap (written_of (after state line files).mode.form (state.lines + 1)) (answer_cut state files line)

pub ends_cut : (line : List ℕ) → ends (cut line) ≡ ends line
unfolding ends
ends_cut line = ap is_end (asked_cut first_version line)

pub fetches_cut : (state : State) (line : List ℕ) → fetches state (cut line) ≡ fetches state line
unfolding fetches
fetches_cut state line = ap (fetches_by state) (asked_cut state.mode.version line)

pub run_cut : LongLinesAreRunCut
run_cut state line files = record {
  cause_is = cause_cut state files line;
  after_is = after_cut state files line;
  answer_is = answer_cut state files line;
  reply_is = reply_cut state files line;
  ends_is = ends_cut line;
  fetches_is = fetches_cut state line;
}
