-- Entries that were computed by hand, at window length 3.
use Rattle.std.specs.Prelude.{◌≡◌, ℕ, ℤ, pos, negsuc, [], ◌∷◌, Option, Some, None}
use Rattle.mp_nums.specs.declared.nearest.Near.{Near}
use Rattle.mp_nums.specs.Whole.{least_whole, greatest_whole}
use Rattle.mp_defs.specs.Series.{Series}
use Rattle.mp_defs.specs.Least.{near_at}
use Rattle.mp_defs.specs.Profile.{Columns, matrix_profile, ab_join}

abbrev found : ℕ → ℕ → Option Near
found d j = Some (near_at j d)

abbrev pub number : ℕ → Option ℤ
number n = Some (pos n)

-- 1 2 3 1 2 3
abbrev pub plain : Series
plain = number 1 ∷ number 2 ∷ number 3 ∷ number 1 ∷ number 2 ∷ number 3 ∷ []

abbrev pub PlainEntries : Type 0
PlainEntries = matrix_profile 3 plain ≡ record {
  all = found 0 3 ∷ found 6 3 ∷ found 6 0 ∷ found 0 0 ∷ [];
  left = None ∷ None ∷ found 6 0 ∷ found 0 0 ∷ [];
  right = found 0 3 ∷ found 6 3 ∷ None ∷ None ∷ [];
}

-- 5 5 5 5 5 5
abbrev pub tied : Series
tied = number 5 ∷ number 5 ∷ number 5 ∷ number 5 ∷ number 5 ∷ number 5 ∷ []

abbrev pub TiedEntries : Type 0
TiedEntries = matrix_profile 3 tied ≡ record {
  all = found 0 2 ∷ found 0 3 ∷ found 0 0 ∷ found 0 0 ∷ [];
  left = None ∷ None ∷ found 0 0 ∷ found 0 0 ∷ [];
  right = found 0 2 ∷ found 0 3 ∷ None ∷ None ∷ [];
}

abbrev pub least_number : Option ℤ
least_number = Some (negsuc 2147483647)

abbrev pub greatest_number : Option ℤ
greatest_number = number 2147483647

-- three times the least number of 32 bits, and three times the greatest
abbrev pub extreme : Series
extreme =
    least_number ∷ least_number ∷ least_number ∷ greatest_number ∷ greatest_number ∷ greatest_number ∷ []

-- twice the square of the difference of both ends
abbrev pub far : ℕ
far = 36893488130239234050

abbrev pub ExtremeEntries : Type 0
ExtremeEntries = matrix_profile 3 extreme ≡ record {
  all = found far 2 ∷ found far 3 ∷ found far 0 ∷ found far 1 ∷ [];
  left = None ∷ None ∷ found far 0 ∷ found far 1 ∷ [];
  right = found far 2 ∷ found far 3 ∷ None ∷ None ∷ [];
}

-- three times the least number of 48 bits, and three times the greatest
abbrev pub widest : Series
widest =
    Some least_whole ∷ Some least_whole ∷ Some least_whole ∷ Some greatest_whole ∷ Some greatest_whole
    ∷ Some greatest_whole ∷ []

-- twice the square of their difference
abbrev pub farthest : ℕ
farthest = 158456325028527549287181058050

abbrev pub WidestEntries : Type 0
WidestEntries = matrix_profile 3 widest ≡ record {
  all = found farthest 2 ∷ found farthest 3 ∷ found farthest 0 ∷ found farthest 1 ∷ [];
  left = None ∷ None ∷ found farthest 0 ∷ found farthest 1 ∷ [];
  right = found farthest 2 ∷ found farthest 3 ∷ None ∷ None ∷ [];
}

-- 1 2 ? 1 2 3 1 2 3
abbrev pub gapped : Series
gapped =
    number 1 ∷ number 2 ∷ None ∷ number 1 ∷ number 2 ∷ number 3 ∷ number 1 ∷ number 2 ∷ number 3 ∷ []

abbrev pub MissingEntries : Type 0
MissingEntries = matrix_profile 3 gapped ≡ record {
  all = None ∷ None ∷ None ∷ found 0 6 ∷ found 6 6 ∷ found 6 3 ∷ found 0 3 ∷ [];
  left = None ∷ None ∷ None ∷ None ∷ None ∷ found 6 3 ∷ found 0 3 ∷ [];
  right = None ∷ None ∷ None ∷ found 0 6 ∷ found 6 6 ∷ None ∷ None ∷ [];
}

abbrev pub no_columns : Columns
no_columns = record { all = []; left = []; right = [] }

abbrev pub ShortSeries : Type 0
ShortSeries = (matrix_profile 3 (number 4 ∷ number 5 ∷ []) ≡ no_columns) × (matrix_profile 3 [] ≡ no_columns)

-- 1 2 3 4
abbrev pub rising : Series
rising = number 1 ∷ number 2 ∷ number 3 ∷ number 4 ∷ []

-- joined with itself a series has each window as its own nearest. Where the other has no window, there is none
pub record JoinedEntries : Type 0 where
  pub in_itself : ab_join 3 rising rising ≡ found 0 0 ∷ found 0 1 ∷ []
  pub in_plain : ab_join 3 rising plain ≡ found 0 0 ∷ found 3 0 ∷ []
  pub in_gaps : ab_join 3 rising gapped ≡ found 0 3 ∷ found 3 3 ∷ []
  pub in_short : ab_join 3 rising (number 4 ∷ number 5 ∷ []) ≡ None ∷ None ∷ []
  pub in_none : ab_join 3 rising [] ≡ None ∷ None ∷ []
  pub of_short : ab_join 3 (number 4 ∷ number 5 ∷ []) rising ≡ []
