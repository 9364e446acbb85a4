-- What holds of every line and of every run.
use Rattle.std.specs.Prelude.{◌≡◌, ℕ, ◌+◌, ◌-◌, ◌<◌, ◌≤◌, ◌↔◌, ◌||◌, true, false, IsTrue, IsOk, List, [], ◌∷◌, All}
use Rattle.std.specs.Prelude.{length, map}
use Rattle.std.specs.Prelude.{slice_index_or, Some, None, Ok, Err, flat_map}
use Rattle.mp_bytes.specs.Fields.{is_blank_line, is_comment}
use Rattle.mp_bytes.specs.Lines.{max_line, cut}
use Rattle.mp_nums.specs.declared.widths.Width.{Width}
use Rattle.mp_defs.specs.Limits.{max_samples, max_window, min_window}
use Rattle.mp_text.specs.Rows.{Row}
use Rattle.mp_results.specs.Motifs.{MotifQuery}
use Rattle.mp_replies.specs.declared.causes.Cause.{Cause}
use Rattle.mp_replies.specs.declared.causes.Cause.TheVariants as words
use Rattle.mp_replies.specs.Words.{Job}
use Rattle.mp_replies.specs.State.{Files, State, channels_at, first_version, second_version}
use Rattle.mp_replies.specs.Answer.{Silent, Refused, Ended}
use Rattle.mp_replies.specs.Command.{Report}
use Rattle.mp_replies.specs.Command.{Command, Session, KeepLast, Load, LoadLazy, Append, Advance, Nearest, Pan}
use Rattle.mp_replies.specs.Command.{Match, Motifs, Discords, Segments, Consensus}
use Rattle.mp_replies.specs.Limits.{max_channels, max_column, max_count, max_factor, max_lengths, max_motifs, max_ranks}
use Rattle.mp_replies.specs.Limits.{max_refs}
use Rattle.mp_replies.specs.Limits.{max_square, min_refs}
use Rattle.mp_replies.specs.Conditions.{Condition}
use Rattle.mp_replies.specs.AppendCommand.{item_of, read_items}
use Rattle.mp_replies.specs.Line.{Asks, asked_of, ends, is_end}
use Rattle.mp_replies.specs.Step.{cause, after, counted, answer, conditions, fetches}
use Rattle.mp_replies.specs.Output.{reply, some_refused, state_after, output_by}

abbrev pub RefusedLinesChangeNothing : Type 0
RefusedLinesChangeNothing =
    (state : State) (line : List ℕ) (files : Files) (why : Cause) → cause state line files ≡ Some why
    → (after state line files ≡ counted state) × (answer state line files ≡ Refused why)

-- an answer refuses a line exactly where the line has a cause, and names that cause
abbrev pub AnswersRefuseByCause : Type 0
AnswersRefuseByCause =
    (state : State) (line : List ℕ) (files : Files) (why : Cause)
    → (answer state line files ≡ Refused why) ↔ (cause state line files ≡ Some why)

-- an answer is silent exactly on a blank line or a comment that isn't too long
abbrev pub QuietLinesAreSilent : Type 0
QuietLinesAreSilent =
    (state : State) (line : List ℕ) (files : Files)
    → (answer state line files ≡ Silent) ↔ ((length line ≤ max_line) × IsTrue (is_blank_line line || is_comment line))

-- no more than one byte past the longest line is looked at
abbrev pub LongLinesAreCut : Type 0
LongLinesAreCut = (version : ℕ) (line : List ℕ) → asked_of version (cut line) ≡ asked_of version line

-- a cut line has the cause, the state behind it, the answer and the report of the whole, and ends the run and asks for
-- a file where the whole does
pub record IsRunCut (state : State) (line : List ℕ) (files : Files) : Type 0 where
  pub cause_is : cause state (cut line) files ≡ cause state line files
  pub after_is : after state (cut line) files ≡ after state line files
  pub answer_is : answer state (cut line) files ≡ answer state line files
  pub reply_is : reply state (cut line) files ≡ reply state line files
  pub ends_is : ends (cut line) ≡ ends line
  pub fetches_is : fetches state (cut line) ≡ fetches state line

abbrev pub LongLinesAreRunCut : Type 0
LongLinesAreRunCut = (state : State) (line : List ℕ) (files : Files) → IsRunCut state line files

-- the tile and the workers change no byte
abbrev pub TileAndWorkersChangeNothing : Type 0
TileAndWorkersChangeNothing =
    (a b : Job) (files : Files) (bytes : List ℕ) → a.setup.window ≡ b.setup.window → a.setup.scale ≡ b.setup.scale
    → a.make ≡ b.make → output_by (Some a) files bytes ≡ output_by (Some b) files bytes

-- a line ends the run exactly where its answer is that of an accepted line that ends it
abbrev pub EndsAreAnswered : Type 0
EndsAreAnswered =
    (state : State) (line : List ℕ) (files : Files)
    → (ends line ≡ true) ↔ ((report : Report) × (answer state line files ≡ Ended report))

-- by each version the same lines end it
abbrev pub EndsAreOfEachVersion : Type 0
EndsAreOfEachVersion = (version : ℕ) (line : List ℕ) → is_end (asked_of version line) ≡ ends line

-- files change nothing of a line that asks for none
abbrev pub OtherLinesReadNoFile : Type 0
OtherLinesReadNoFile =
    (state : State) (line : List ℕ) (files others : Files) → fetches state line ≡ false
    → (reply state line files ≡ reply state line others) × (after state line files ≡ after state line others)

-- ---- the order of the words

-- the place of a word among all
abbrev pub rank : Cause → ℕ
rank words.Long = 0
rank words.Version = 1
rank words.Unknown = 2
rank words.Fields = 3
rank words.Number = 4
rank words.Slot = 5
rank words.Kept = 6
rank words.Lazy = 7
rank words.Channel = 8
rank (words.Sample number) = 9
rank words.Full = 10
rank words.File = 11
rank words.FileSize = 12
rank (words.Record number) = 13
rank words.Rows = 14
rank words.Index = 15
rank words.Missing = 16

-- the word of each stands before that of the next
abbrev pub StandInOrder : List Condition → Type 0
StandInOrder [] = Unit {0}
StandInOrder (last ∷ []) = Unit {0}
StandInOrder (first ∷ next ∷ others) = (rank first.word < rank next.word) × StandInOrder (next ∷ others)

-- the conditions of a command stand in the order of the words, so that of two that hold the earlier word is the answer
abbrev pub WordsStandInOrder : Type 0
WordsStandInOrder = (state : State) (files : Files) (command : Command) → StandInOrder (conditions state files command)

-- ---- items

-- item bad, counted from 1, is bad, and each earlier one is good
pub record IsFirstBad (width : Width) (scale channels : ℕ) (items : List (List ℕ)) (bad : ℕ) : Type 0 where
  pub some : 0 < bad
  pub within : bad ≤ length items
  pub is_bad : item_of width scale channels bad (slice_index_or items (bad - 1) []) ≡ Err bad
  pub good_before : (k : ℕ) → k + 1 < bad
      → IsOk (item_of width scale channels (k + 1) (slice_index_or items k []))

-- each item is good, and these are their samples
pub record AreSpelled (width : Width) (scale channels : ℕ) (items : List (List ℕ)) (rows : List Row) : Type 0 where
  pub all_good : All (λ item. IsOk (item_of width scale channels 0 item)) items
  pub rows_are : map Ok rows ≡ map (item_of width scale channels 0) items

pub record BadItemsAreTheFirst : Type 0 where
  pub bad : (width : Width) (scale channels : ℕ) (items : List (List ℕ)) (number : ℕ)
      → read_items width scale channels items ≡ Err number → IsFirstBad width scale channels items number
  pub good : (width : Width) (scale channels : ℕ) (items : List (List ℕ)) (rows : List Row)
      → read_items width scale channels items ≡ Ok rows → AreSpelled width scale channels items rows

-- ---- appends

-- each line, read by a version, appends the items of its group to this slot
abbrev pub AppendEach : ℕ → ℕ → List (List ℕ) → List (List (List ℕ)) → Type 0
AppendEach version slot [] [] = Unit {0}
AppendEach version slot [] (items ∷ groups) = ⊥
AppendEach version slot (line ∷ lines) [] = ⊥
AppendEach version slot (line ∷ lines) (items ∷ groups) =
    (asked_of version line ≡ Asks (Append slot items)) × AppendEach version slot lines groups

-- two states are the same, the number of lines run aside
pub record AreAlike (a b : State) : Type 0 where
  pub window_is : a.window ≡ b.window
  pub scale_is : a.scale ≡ b.scale
  pub mode_is : a.mode ≡ b.mode
  pub begun_is : a.begun ≡ b.begun
  pub stores_are : a.stores ≡ b.stores

-- The samples of several appends to a slot with a channel, however they are cut into lines, give the state of one
-- append, the number of lines aside, where no line is refused. Then that one isn't, either.
abbrev pub AppendsAddUp : Type 0
AppendsAddUp =
    (state : State) (files : Files) (slot : ℕ)
    (first : List ℕ) (lines : List (List ℕ)) (groups : List (List (List ℕ))) (whole : List ℕ)
    → 0 < length (channels_at state.stores slot) → AppendEach state.mode.version slot (first ∷ lines) groups
    → asked_of state.mode.version whole ≡ Asks (Append slot (flat_map (λ items. items) groups))
    → some_refused state files (first ∷ lines) ≡ false
    → (cause state whole files ≡ None)
    × AreAlike (state_after state files (first ∷ lines)) (after state whole files)

-- ---- limits

-- a number from 1 to a greatest one
abbrev pub IsCount : ℕ → ℕ → Type 0
IsCount most n = (1 ≤ n) × (n ≤ most)

-- at most as many columns as a slot has channels, none beyond the last that a table may have
abbrev pub AreColumns : List ℕ → Type 0
AreColumns cols = (length cols ≤ max_channels) × All (λ column. column ≤ max_column) cols

-- what repeated patterns are sought by
abbrev pub IsMotifQuery : MotifQuery → Type 0
IsMotifQuery query =
    IsCount max_motifs query.count
    × ((query.cutoff ≤ max_square)
    × ((query.radius ≤ max_square)
    × ((query.neighbours ≤ max_count)
    × IsCount max_motifs query.max_matches)))

-- window lengths from a least to a greatest
pub record AreLengths (lo hi : ℕ) : Type 0 where
  pub least : min_window ≤ lo
  pub ordered : lo ≤ hi
  pub greatest : hi ≤ max_window
  pub few : hi + 1 ≤ lo + max_lengths

-- the numbers that a command names lie within their limits
abbrev pub IsWithin : Command → Type 0
IsWithin (Session mode) = (first_version ≤ mode.version) × (mode.version ≤ second_version)
IsWithin (KeepLast slot keep) = (min_window ≤ keep) × (keep ≤ max_samples)
IsWithin (Load slot file cols header) = AreColumns cols
IsWithin (LoadLazy slot file column header) = column ≤ max_column
IsWithin (Advance slot count) = IsCount max_count count
IsWithin (Nearest at k) = IsCount max_ranks k
IsWithin (Pan at lo hi) = AreLengths lo hi
IsWithin (Match at query start radius max) = (radius ≤ max_square) × IsCount max_count max
IsWithin (Motifs at query) = IsMotifQuery query
IsWithin (Discords at count) = IsCount max_count count
IsWithin (Segments at count factor) = IsCount max_count count × (factor ≤ max_factor)
IsWithin (Consensus refs) = (min_refs ≤ length refs) × (length refs ≤ max_refs)
IsWithin other = Unit {0}

abbrev pub LimitsAreKept : Type 0
LimitsAreKept =
    (version : ℕ) (line : List ℕ) (command : Command) → asked_of version line ≡ Asks command → IsWithin command
