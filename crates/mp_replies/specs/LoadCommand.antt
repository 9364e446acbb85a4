-- `load S FILE COL,COL`, or with `header` behind: columns of a file in place of what stood in a slot.
use Rattle.std.specs.Prelude.{ℕ, ◌==◌, Bool, true, false, not, nat_lt, List, [], ◌∷◌, length, codes, if◌then◌else◌}
use Rattle.std.specs.Prelude.{Option, Some, None, is_none, is_some, unwrap_or, Result, Ok, Err}
use Rattle.std.specs.FinMap.{get}
use Rattle.mp_bytes.specs.Bytes.{same_text}
use Rattle.mp_nums.specs.declared.widths.Width.{Width}
use Rattle.mp_defs.specs.Series.{Series}
use Rattle.mp_text.specs.SampleText.{reading}
use Rattle.mp_text.specs.Table.{Fault, BadField, NoField, TooManyRows, data_records, table_of}
use Rattle.mp_replies.specs.declared.causes.Cause.TheVariants.{Channel, File, FileSize, Record, Rows}
use Rattle.mp_replies.specs.Change.{Change, PutChannels}
use Rattle.mp_replies.specs.Command.{Command, Load}
use Rattle.mp_replies.specs.Conditions.{Condition, when, no_slot, kept_slot, lazy_slot}
use Rattle.mp_replies.specs.Limits.{max_file}
use Rattle.mp_replies.specs.Numbers.{number, columns}
use Rattle.mp_replies.specs.Shapes.{Shape, ◌&◌}
use Rattle.mp_replies.specs.State.{Files, Store, channels_at}

-- ---- its fields

-- what stands behind the columns: nothing, or `header`
abbrev pub header_of : List (List ℕ) → Option Bool
header_of [] = Some false
header_of (word ∷ []) = if same_text word (codes "header") then Some true else None
header_of others = None

-- three fields, or four, of which the last is `header`
abbrev pub load_fits : List (List ℕ) → Bool
load_fits (slot ∷ file ∷ cols ∷ others) = is_some (header_of others)
load_fits others = false

abbrev pub load_shape : Shape (ℕ × (List ℕ × (List ℕ × Bool)))
load_shape = record { fits = load_fits; read = number & Some & columns & header_of }

abbrev pub load_by : ℕ × (List ℕ × (List ℕ × Bool)) → Command
load_by (slot, (file, (cols, header))) = Load slot file cols header

-- ---- what the file holds

-- its bytes, none where there is no such file
abbrev pub file_in : Files → List ℕ → Option (List ℕ)
file_in files file = get files file

-- the series of these columns, or the first fault
abbrev pub table_in : Width → ℕ → List ℕ → Bool → List ℕ → Result (List Series) Fault
table_in width scale cols header bytes = table_of (reading width scale) cols (data_records header bytes)

-- the number of the record with a fault, where that is the fault
abbrev pub bad_record : Result (List Series) Fault → Option ℕ
bad_record (Ok series) = None
bad_record (Err (BadField number column fault)) = Some number
bad_record (Err (NoField number column)) = Some number
bad_record (Err TooManyRows) = None

abbrev pub has_too_many : Result (List Series) Fault → Bool
has_too_many (Ok series) = false
has_too_many (Err (BadField number column fault)) = false
has_too_many (Err (NoField number column)) = false
has_too_many (Err TooManyRows) = true

abbrev pub series_in : Result (List Series) Fault → List Series
series_in (Ok series) = series
series_in (Err fault) = []

-- ---- what is refused

-- what is known without the file
abbrev pub load_conditions : List Store → ℕ → List ℕ → List Condition
load_conditions stores slot cols =
    no_slot stores slot
    ∷ kept_slot stores slot
    ∷ lazy_slot stores slot
    ∷ when (not (length cols == length (channels_at stores slot))) Channel
    ∷ []

abbrev pub record_conditions : Result (List Series) Fault → List Condition
record_conditions table =
    when (not (is_none (bad_record table))) (Record (unwrap_or (bad_record table) 0))
    ∷ when (has_too_many table) Rows
    ∷ []

-- what the file is refused for
abbrev pub file_conditions : Width → ℕ → List ℕ → Bool → Option (List ℕ) → List Condition
file_conditions width scale cols header None = when true File ∷ []
file_conditions width scale cols header (Some bytes) =
    when (nat_lt max_file (length bytes)) FileSize ∷ record_conditions (table_in width scale cols header bytes)

-- ---- what is changed

abbrev pub channels_of : Width → ℕ → List ℕ → Bool → Option (List ℕ) → List Series
channels_of width scale cols header None = []
channels_of width scale cols header (Some bytes) = series_in (table_in width scale cols header bytes)

abbrev pub load_change : Width → ℕ → Files → ℕ → List ℕ → List ℕ → Bool → Change
load_change width scale files slot file cols header =
    PutChannels slot (channels_of width scale cols header (file_in files file))
