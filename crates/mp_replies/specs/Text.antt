-- Texts that several reports share.
use Rattle.std.specs.Prelude.{ℕ, List, [], ◌++◌, length, codes, decimal, flat_map, Option, Some, None}
use Rattle.std.specs.List.{enumerate_from}
use Rattle.mp_nums.specs.declared.nearest.Near.{Near}
use Rattle.mp_replies.specs.declared.causes.Cause.{Cause}
use Rattle.mp_replies.specs.declared.causes.Cause.TheVariants as cause

abbrev pub word_of : Cause → List ℕ
word_of cause.Long = codes "long"
word_of cause.Version = codes "version"
word_of cause.Unknown = codes "unknown"
word_of cause.Fields = codes "fields"
word_of cause.Number = codes "number"
word_of cause.Slot = codes "slot"
word_of cause.Kept = codes "kept"
word_of cause.Lazy = codes "lazy"
word_of cause.Channel = codes "channel"
word_of (cause.Sample number) = codes "sample " ++ decimal number
word_of cause.Full = codes "full"
word_of cause.File = codes "file"
word_of cause.FileSize = codes "file-size"
word_of (cause.Record number) = codes "record " ++ decimal number
word_of cause.Rows = codes "rows"
word_of cause.Index = codes "index"
word_of cause.Missing = codes "missing"

abbrev pub refused_text : ℕ → Cause → List ℕ
refused_text line cause = codes "refused " ++ decimal line ++ codes " " ++ word_of cause ++ codes "\n"

-- a number behind a space, where there is one
abbrev pub count_text : Option ℕ → List ℕ
count_text None = []
count_text (Some samples) = codes " " ++ decimal samples

abbrev pub ok_text : ℕ → Option ℕ → List ℕ
ok_text line samples = codes "ok " ++ decimal line ++ count_text samples ++ codes "\n"

-- the distance and the start of a window
abbrev pub pair_text : Near → List ℕ
pair_text near = decimal near.dist.0 ++ codes " " ++ decimal near.index

-- the same, each a dash where there is none
abbrev pub slot_text : Option Near → List ℕ
slot_text None = codes "- -"
slot_text (Some near) = pair_text near

-- a window that was found, on a line of its own: its distance and its start
abbrev pub near_text : Near → List ℕ
near_text near = slot_text (Some near) ++ codes "\n"

abbrev pub index_text : Option Near → List ℕ
index_text None = codes "-"
index_text (Some near) = decimal near.index

-- one window: its start, its entry, and the starts of its left and its right entry
abbrev pub row_text : ℕ → Option Near → Option Near → Option Near → List ℕ
row_text start all left right =
    decimal start ++ codes " " ++ slot_text all ++ codes " " ++ index_text left ++ codes " " ++ index_text right
    ++ codes "\n"

-- ---- a column: what was found for each window

abbrev pub entry_line : ℕ × Option Near → List ℕ
entry_line (start, slot) = decimal start ++ codes " " ++ slot_text slot ++ codes "\n"

-- behind the word: the line, how many windows there are, and a line for each
abbrev pub column_text : ℕ → List (Option Near) → List ℕ
column_text line slots =
    decimal line ++ codes " " ++ decimal (length slots) ++ codes "\n" ++ flat_map entry_line (enumerate_from 0 slots)
