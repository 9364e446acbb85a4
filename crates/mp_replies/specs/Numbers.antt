-- How the fields of a line are read: numbers, refs and lists of columns.
use Rattle.std.specs.Prelude.{ℕ, ◌+◌, ◌==◌, Bool, nat_le, take, drop, position, List, [], ◌∷◌, length, map}
use Rattle.std.specs.Prelude.{if◌then◌else◌, Option, Some, None, option_map, option_and_then}
use Rattle.mp_bytes.specs.Bytes.{point}
use Rattle.mp_bytes.specs.Digits.{number_of}
use Rattle.mp_bytes.specs.Values.{values_in}
use Rattle.mp_defs.specs.Limits.{max_samples, min_window}
use Rattle.mp_replies.specs.Limits.{max_digits, max_number, max_column, max_channels, max_square, max_count, max_motifs}
use Rattle.mp_replies.specs.Limits.{max_factor, max_ranks}
use Rattle.mp_replies.specs.declared.refs.Ref.{Ref}

abbrev pub number : List ℕ → Option ℕ
number field = number_of max_digits max_number field

-- a squared distance
abbrev pub squared : List ℕ → Option ℕ
squared field = number_of max_digits max_square field

-- a number that isn't 0
abbrev pub positive : Option ℕ → Option ℕ
positive read = option_and_then (λ (n : ℕ). if nat_le 1 n then Some n else None) read

-- how many windows are asked for
abbrev pub count : List ℕ → Option ℕ
count field = positive (number_of max_digits max_count field)

-- how many motifs, or matches of one
abbrev pub few : List ℕ → Option ℕ
few field = positive (number_of max_digits max_motifs field)

-- how many nearest windows
abbrev pub rank_count : List ℕ → Option ℕ
rank_count field = positive (number_of max_digits max_ranks field)

abbrev pub neighbours : List ℕ → Option ℕ
neighbours field = number_of max_digits max_count field

-- how many window lengths
abbrev pub factor : List ℕ → Option ℕ
factor field = number_of max_digits max_factor field

-- how many samples of a slot are kept
abbrev pub kept : List ℕ → Option ℕ
kept field =
    option_and_then (λ (n : ℕ). if nat_le min_window n then Some n else None)
    (number_of max_digits max_samples field)

-- what is made of one more value, where all are there
abbrev pub with_next : {A B : Type 0} → Option (A → B) → Option A → Option B
with_next None next = None
with_next (Some make) None = None
with_next (Some make) (Some next) = Some (make next)

-- ---- refs: a slot, or a slot and a channel with a point between

abbrev pub is_point : ℕ → Bool
is_point b = b == point

abbrev ref_of : ℕ → ℕ → Ref
ref_of slot channel = record { slot = slot; channel = channel }

-- both, where there are both
abbrev pub ref_with : Option ℕ → Option ℕ → Option Ref
ref_with slot channel =
    option_and_then (λ (s : ℕ). option_map (ref_of s) channel) slot

-- by the place of the first point
abbrev pub ref_at : List ℕ → Option ℕ → Option Ref
ref_at field None = ref_with (number field) (Some 0)
ref_at field (Some at) = ref_with (number (take at field)) (number (drop (at + 1) field))

abbrev pub ref : List ℕ → Option Ref
ref field = ref_at field (position is_point field)

-- ---- lists

-- one more in front of others, where there are both
abbrev pub onto_some : {A : Type 0} → Option A → Option (List A) → Option (List A)
onto_some None others = None
onto_some (Some x) None = None
onto_some (Some x) (Some xs) = Some (x ∷ xs)

-- all of them, where each is there
abbrev pub all_some : {A : Type 0} → List (Option A) → Option (List A)
all_some [] = Some []
all_some (x ∷ xs) = onto_some x (all_some xs)

abbrev pub refs : List (List ℕ) → Option (List Ref)
refs fields = all_some (map ref fields)

-- ---- columns: numbers with commas between

abbrev pub column : List ℕ → Option ℕ
column text = number_of max_digits max_column text

-- a slot has no more channels than this many columns
abbrev pub columns : List ℕ → Option (List ℕ)
columns field = if nat_le (length (values_in field)) max_channels then all_some (map column (values_in field)) else None
