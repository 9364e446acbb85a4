-- Which lines are answered by nothing.
use Rattle.std.proofs.Common.{◌≡◌, ℕ, ◌≤◌, Bool, ◌||◌, ◌&&◌, not, true, false, if◌then◌else◌, List, [], ◌∷◌, length}
use Rattle.std.proofs.Common.{refl, arith, ap, ◌∙◌, nat_lt}
use Rattle.std.specs.Prelude.{Option, Some, None, Result, Ok, Err, ◌==◌, IsTrue, slice_index, filter}
use Rattle.std.specs.List.{list_all}
use Rattle.std.proofs.lemmas.Bool.Decides.{nat_tests}
use Rattle.mp_bytes.specs.Bytes.{number_sign, is_blank, is_empty, onto_first}
use Rattle.mp_bytes.specs.Fields.{pieces, fields_in, fields, without_cr, is_blank_line, opens_comment, is_comment}
use Rattle.mp_bytes.specs.Lines.{max_line}
use Rattle.mp_replies.specs.declared.causes.Cause.{Cause}
use Rattle.mp_replies.specs.declared.causes.Cause.TheVariants.{Long}
use Rattle.mp_replies.specs.State.{Files, State}
use Rattle.mp_replies.specs.Change.{Change}
use Rattle.mp_replies.specs.Conditions.{first_cause}
use Rattle.mp_replies.specs.Command.{Command}
use Rattle.mp_replies.specs.Answer.{Silent, Accepted, Ended}
use Rattle.mp_replies.specs.Command.{Report}
use Rattle.mp_replies.specs.Line.{Asked, Nothing, Asks, Faulty, asks, asked_in, asked_of, command_in}
use Rattle.mp_replies.specs.Commands.{forms}
use Rattle.mp_replies.specs.Step.{Verdict, Passes, IsRefused, IsAccepted, verdict, verdict_by, verdict_of, change_by}
use Rattle.mp_replies.specs.Step.{conditions, after, answer, answer_by, is_last, report_by}
use Rattle.mp_replies.specs.Laws.{QuietLinesAreSilent}

-- ---- silent is the answer to what asks for nothing, and to nothing else

spoken : (last : Bool) (report : Report) → (if last then Ended report else Accepted report) ≡ Silent → ⊥
spoken true report h = cc
spoken false report h = cc

silent_passes : (state later : State) (v : Verdict) → answer_by state later v ≡ Silent → v ≡ Passes
silent_passes state later Passes h = refl
silent_passes state later (IsRefused cause) h = cc
silent_passes state later (IsAccepted command change) h =
    absurd (spoken (is_last command) (report_by state later command) h)

judged : (command : Command) (o : Option Cause) (change : Change) → verdict_by command o change ≡ Passes → ⊥
judged command None change h = cc
judged command (Some cause) change h = cc

passes_nothing : (state : State) (files : Files) (asked : Asked) → verdict_of state files asked ≡ Passes
    → asked ≡ Nothing
passes_nothing state files Nothing h = refl
passes_nothing state files (Faulty cause) h = cc
passes_nothing state files (Asks command) h =
    absurd (judged command (first_cause (conditions state files command)) (change_by state files command) h)

nothing_is_silent : (state later : State) (files : Files) (asked : Asked) → asked ≡ Nothing
    → answer_by state later (verdict_of state files asked) ≡ Silent
nothing_is_silent state later files asked h = rw h refl

-- ---- what asks for nothing, by the fields of a line

abbrev is_nothing : Asked → Bool
is_nothing Nothing = true
is_nothing (Asks command) = false
is_nothing (Faulty cause) = false

is_nothing_means : (asked : Asked) → is_nothing asked ≡ true → asked ≡ Nothing
is_nothing_means Nothing h = refl
is_nothing_means (Asks command) h = cc
is_nothing_means (Faulty cause) h = cc

asks_something : (r : Result Command Cause) → is_nothing (asks r) ≡ false
asks_something (Ok command) = refl
asks_something (Err cause) = refl

-- no field, or a first field that begins with #
abbrev are_quiet : List (List ℕ) → Bool
are_quiet [] = true
are_quiet (word ∷ others) = slice_index word 0 == number_sign

by_first_byte : (sign : Bool) (r : Result Command Cause) → is_nothing (if sign then Nothing else asks r) ≡ sign
by_first_byte true r = refl
by_first_byte false r = asks_something r

fields_ask : (version : ℕ) (all : List (List ℕ)) → is_nothing (asked_in version all) ≡ are_quiet all
fields_ask version [] = refl
fields_ask version (word ∷ others) =
    by_first_byte (slice_index word 0 == number_sign) (command_in (forms version) word others)

-- ---- by its bytes

abbrev inked : List (List ℕ) → List (List ℕ)
inked all = filter (λ piece. not (is_empty piece)) all

first_piece : (b : ℕ) (all : List (List ℕ)) → are_quiet (inked (onto_first b all)) ≡ (b == number_sign)
first_piece b [] = refl
first_piece b (piece ∷ rest) = refl

quiet_from : (blank : Bool) (b : ℕ) (bs : List ℕ)
    → are_quiet (fields_in bs) ≡ (list_all is_blank bs || opens_comment bs)
    → are_quiet (inked (if blank then [] ∷ pieces bs else onto_first b (pieces bs)))
    ≡ ((blank && list_all is_blank bs) || (if blank then opens_comment bs else b == number_sign))
quiet_from true b bs later = later
quiet_from false b bs later = first_piece b (pieces bs)

quiet_text : (text : List ℕ) → are_quiet (fields_in text) ≡ (list_all is_blank text || opens_comment text)
quiet_text [] = refl
quiet_text (b ∷ bs) = quiet_from (is_blank b) b bs (quiet_text bs)

line_asks_by : (version : ℕ) (line : List ℕ) (long : Bool)
    → is_nothing (if long then Faulty Long else asked_in version (fields line))
    ≡ (not long && (is_blank_line line || is_comment line))
line_asks_by version line true = refl
line_asks_by version line false = fields_ask version (fields line) ∙ quiet_text (without_cr line)

line_asks : (version : ℕ) (line : List ℕ)
    → is_nothing (asked_of version line) ≡ (not (nat_lt max_line (length line)) && (is_blank_line line || is_comment
    line))
unfolding asked_of
line_asks version line = line_asks_by version line (nat_lt max_line (length line))

within : (size : ℕ) (read quiet : Bool) → read ≡ (not (nat_lt max_line size) && quiet) → read ≡ true
    → (size ≤ max_line) × IsTrue quiet
within size read quiet e h = grind (arith, nat_tests)

asks_within : (size : ℕ) (read quiet : Bool) → read ≡ (not (nat_lt max_line size) && quiet)
    → (size ≤ max_line) × IsTrue quiet → read ≡ true
asks_within size read quiet e h = grind (arith, nat_tests)

pub quiet_lines : QuietLinesAreSilent
unfolding answer after verdict
quiet_lines state line files =
    let asked = asked_of state.mode.version line in
    let later = after state line files in (
      λ silent. within (length line) _ _ (line_asks state.mode.version line)
          (ap is_nothing
          (passes_nothing state files asked (silent_passes state later (verdict_of state files asked) silent))),
      λ quiet.
          nothing_is_silent state later files asked
          (is_nothing_means asked (asks_within (length line) _ _ (line_asks state.mode.version line) quiet)),
    )
