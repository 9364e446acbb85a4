-- `append S ITEM ITEM ..`: samples behind those of each channel of a slot.
use Rattle.std.specs.Prelude.{ℕ, ℤ, ◌+◌, ◌==◌, nat_lt, not, is_none, unwrap_or, List, [], ◌∷◌, length, if◌then◌else◌}
use Rattle.std.specs.Prelude.{Option, Some, None, Result, Ok, Err}
use Rattle.mp_bytes.specs.Values.{values_in}
use Rattle.mp_nums.specs.declared.widths.Width.{Width}
use Rattle.mp_defs.specs.Limits.{max_samples}
use Rattle.mp_defs.specs.Series.{Series}
use Rattle.mp_text.specs.Rows.{Row, columns_of, onto}
use Rattle.mp_text.specs.SampleText.{reading}
use Rattle.mp_text.specs.declared.refusal.SampleFault.{SampleFault}
use Rattle.mp_replies.specs.declared.causes.Cause.TheVariants.{Sample, Full}
use Rattle.mp_defs.specs.Limits.{max_appended}
use Rattle.mp_replies.specs.Change.{Change, AddSamples}
use Rattle.mp_replies.specs.Command.{Command, Append}
use Rattle.mp_replies.specs.Conditions.{Condition, when, no_slot}
use Rattle.mp_replies.specs.Numbers.{number}
use Rattle.mp_replies.specs.Shapes.{Shape, at_least, ◌&◌}
use Rattle.mp_replies.specs.State.{Store, keep_at, channels_at, samples_in}

-- a slot, and at least one item
abbrev pub append_shape : Shape (ℕ × List (List ℕ))
append_shape = record { fits = at_least 2; read = number & Some }

abbrev pub append_by : ℕ × List (List ℕ) → Command
append_by (slot, items) = Append slot items

-- ---- one item: the values of one moment, with commas between, one for each channel

abbrev pub value_of : Width → ℕ → List ℕ → Result (Option ℤ) SampleFault
value_of width scale text = reading width scale text

-- the samples of some values, where each value spells one
abbrev pub samples_of : Width → ℕ → List (List ℕ) → Result Row SampleFault
samples_of width scale [] = Ok []
samples_of width scale (text ∷ texts) = onto (value_of width scale text) (samples_of width scale texts)

abbrev pub row_with : ℕ → Result Row SampleFault → Result Row ℕ
row_with number (Ok row) = Ok row
row_with number (Err fault) = Err number

-- the samples of the item of this number, or this number where it is bad
abbrev pub item_of : Width → ℕ → ℕ → ℕ → List ℕ → Result Row ℕ
item_of width scale channels number item =
    if length (values_in item) == channels then row_with number (samples_of width scale (values_in item))
    else Err number

-- ---- the samples of some items, of which the first has this number, or the number of the first bad one

abbrev pub items_of : Width → ℕ → ℕ → ℕ → List (List ℕ) → Result (List Row) ℕ
items_of width scale channels number [] = Ok []
items_of width scale channels number (item ∷ items) =
    onto (item_of width scale channels number item) (items_of width scale channels (number + 1) items)

abbrev pub rows_in : Result (List Row) ℕ → List Row
rows_in (Ok rows) = rows
rows_in (Err bad) = []

abbrev pub bad_in : Result (List Row) ℕ → Option ℕ
bad_in (Ok rows) = None
bad_in (Err bad) = Some bad

-- the items of a line on a slot of so many channels, counted from 1
abbrev pub read_items : Width → ℕ → ℕ → List (List ℕ) → Result (List Row) ℕ
read_items width scale channels items = items_of width scale channels 1 items

-- ---- what is refused, and what is changed

abbrev pub item_condition : Result (List Row) ℕ → Condition
item_condition read = when (not (is_none (bad_in read))) (Sample (unwrap_or (bad_in read) 0))

-- the most samples of a channel, by how many of them are kept
abbrev pub most_samples : Option ℕ → ℕ
most_samples None = max_samples
most_samples (Some keep) = max_appended

-- the samples and the items together are more than a channel can have
abbrev pub is_over : Option ℕ → List Series → List (List ℕ) → Condition
is_over keep channels items = when (nat_lt (most_samples keep) (samples_in channels + length items)) Full

abbrev pub append_conditions : Width → ℕ → List Store → ℕ → List (List ℕ) → List Condition
append_conditions width scale stores slot items =
    no_slot stores slot
    ∷ item_condition (read_items width scale (length (channels_at stores slot)) items)
    ∷ is_over (keep_at stores slot) (channels_at stores slot) items
    ∷ []

abbrev pub append_change : Width → ℕ → List Store → ℕ → List (List ℕ) → Change
append_change width scale stores slot items =
    AddSamples slot
    (columns_of (length (channels_at stores slot))
    (rows_in (read_items width scale (length (channels_at stores slot)) items)))
