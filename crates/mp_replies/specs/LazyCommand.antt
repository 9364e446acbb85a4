-- `lazy S FILE COL`, or with `header` behind: a column of a file in place of what stood in a slot, whose profile is
-- made in parts.
use Rattle.std.specs.Prelude.{ℕ, Bool, nat_le, List, [], ◌∷◌, Option, Some, slice_index_or}
use Rattle.mp_nums.specs.declared.widths.Width.{Width}
use Rattle.mp_defs.specs.Series.{Series}
use Rattle.mp_replies.specs.declared.causes.Cause.TheVariants.{Slot}
use Rattle.mp_replies.specs.Change.{Change, PutLazy}
use Rattle.mp_replies.specs.Command.{Command, LoadLazy}
use Rattle.mp_replies.specs.Conditions.{Condition, when}
use Rattle.mp_replies.specs.Limits.{slot_count}
use Rattle.mp_replies.specs.LoadCommand.{channels_of, file_conditions, file_in, header_of, load_fits}
use Rattle.mp_replies.specs.Numbers.{number, column}
use Rattle.mp_replies.specs.Shapes.{Shape, ◌&◌}
use Rattle.mp_replies.specs.State.{Files}

-- ---- its fields

abbrev pub lazy_shape : Shape (ℕ × (List ℕ × (ℕ × Bool)))
lazy_shape = record { fits = load_fits; read = number & Some & column & header_of }

abbrev pub lazy_by : ℕ × (List ℕ × (ℕ × Bool)) → Command
lazy_by (slot, (file, (column, header))) = LoadLazy slot file column header

-- ---- what is refused, and what is changed

-- what is known without the file
abbrev pub lazy_conditions : ℕ → List Condition
lazy_conditions slot = when (nat_le slot_count slot) Slot ∷ []

-- what the file is refused for
abbrev pub lazy_file_conditions : Width → ℕ → ℕ → Bool → Option (List ℕ) → List Condition
lazy_file_conditions width scale column header bytes = file_conditions width scale (column ∷ []) header bytes

-- the series of the column
abbrev pub lazy_series : Width → ℕ → ℕ → Bool → Option (List ℕ) → Series
lazy_series width scale column header bytes =
    slice_index_or (channels_of width scale (column ∷ []) header bytes) 0 []

abbrev pub lazy_change : Width → ℕ → Files → ℕ → List ℕ → ℕ → Bool → Change
lazy_change width scale files slot file column header =
    PutLazy slot (lazy_series width scale column header (file_in files file))
