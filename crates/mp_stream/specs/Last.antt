-- The columns of the last windows of a series.
use Rattle.std.specs.Prelude.{ℕ, min}
use Rattle.mp_stream.specs.declared.last_columns.LastColumns.{LastColumns}

-- for how many more windows there is room
abbrev pub last_room : LastColumns → ℕ
last_room columns = min columns.left.spare columns.right.spare
