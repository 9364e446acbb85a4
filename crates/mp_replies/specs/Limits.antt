-- The limits of a run and of a line, and what a run is started with where the words say nothing.
use Rattle.std.specs.Prelude.{ℕ}

-- ---- a run

-- digits behind the point
abbrev pub max_scale : ℕ
max_scale = 9

-- diagonals in a tile
abbrev pub max_tile : ℕ
max_tile = 65536

abbrev pub max_workers : ℕ
max_workers = 32

abbrev pub default_scale : ℕ
default_scale = 0

abbrev pub default_tile : ℕ
default_tile = 256

abbrev pub default_workers : ℕ
default_workers = 4

-- the most bytes of an input
abbrev pub input_limit : ℕ
input_limit = 4294967296

-- the most digits of a value among the words
abbrev pub max_word_digits : ℕ
max_word_digits = 20

-- ---- a line

-- the most digits of a number
abbrev pub max_digits : ℕ
max_digits = 39

-- the greatest number, of 64 bits
abbrev pub max_number : ℕ
max_number = 18446744073709551615

-- the greatest column of a table, counted from 0
abbrev pub max_column : ℕ
max_column = 65535

-- the greatest squared distance, of 128 bits
abbrev pub max_square : ℕ
max_square = 340282366920938463463374607431768211455

-- the most windows that are asked for, and the most neighbours
abbrev pub max_count : ℕ
max_count = 262144

-- the most motifs, and the most matches of one
abbrev pub max_motifs : ℕ
max_motifs = 1024

-- the most nearest windows of a window
abbrev pub max_ranks : ℕ
max_ranks = 4

-- the most window lengths that are compared
abbrev pub max_lengths : ℕ
max_lengths = 256

-- the most window lengths of a regime's zone
abbrev pub max_factor : ℕ
max_factor = 100

-- the fewest and the most channels that are compared
abbrev pub min_refs : ℕ
min_refs = 2

abbrev pub max_refs : ℕ
max_refs = 64

-- ---- slots and files

-- slots, counted from 0
abbrev pub slot_count : ℕ
slot_count = 8

-- the most channels of a slot
abbrev pub max_channels : ℕ
max_channels = 8

-- the most bytes of a file
abbrev pub max_file : ℕ
max_file = 67108864
