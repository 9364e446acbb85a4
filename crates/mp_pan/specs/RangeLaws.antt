-- Why what is found at lengths is a value of a part.
use Rattle.std.proofs.Common.{◌≡◌, ℕ, zero, suc, ◌+◌, ◌*◌, [], ◌∷◌, length, Bool, arith}
use Rattle.std.specs.Prelude.{All, if◌then◌else◌, min, None, Option}
use Rattle.mp_nums.specs.declared.nearest.Near.{Near}
use Rattle.mp_defs.specs.Series.{Series}
use Rattle.mp_defs.specs.ColumnLaws.{columns_have_places}
use Rattle.mp_partial.specs.MergeLaws.{IsMerging, columns_merge}
use Rattle.mp_partial.specs.Values.{Column, HasColumns, merged_columns}
use Rattle.mp_pan.specs.Ranges.{best_at, from_to, has_extremes, length_column, near_slot, no_extremes}
use Rattle.mp_pan.specs.Ranges.{span_value, start_slot, unusual_at}
use Rattle.mp_pan.specs.declared.limits.TheConstants.{MAX_LENGTHS}

pub extremes_merge : IsMerging has_extremes no_extremes merged_columns
extremes_merge = record {
  commutative = λ size a b h k. (columns_merge 4).commutative MAX_LENGTHS a b h k;
  associative = λ size a b c h k l. (columns_merge 4).associative MAX_LENGTHS a b c h k l;
  idempotent = λ size a h. (columns_merge 4).idempotent MAX_LENGTHS a h;
  unit_first = λ size a h. (columns_merge 4).unit_first MAX_LENGTHS a h;
  unit_last = λ size a h. (columns_merge 4).unit_last MAX_LENGTHS a h;
  unit_is_value = λ size. (columns_merge 4).unit_is_value MAX_LENGTHS;
  merged_is_value = λ size a b h k. (columns_merge 4).merged_is_value MAX_LENGTHS a b h k;
}

all_four : (P : Column → Type 0) (a b c d : Column) → P a → P b → P c → P d
    → All P (a ∷ b ∷ c ∷ d ∷ [])
all_four P a b c d p q r s zero e lt = p
all_four P a b c d p q r s (suc zero) e lt = q
all_four P a b c d p q r s (suc (suc zero)) e lt = r
all_four P a b c d p q r s (suc (suc (suc zero))) e lt = s
all_four P a b c d p q r s (suc (suc (suc (suc k)))) e lt = absurd (omega (arith, lt))

-- a column for each of the four that a value has
pub four_columns : (n : ℕ) (a b c d : Column) → length a ≡ n → length b ≡ n
    → length c ≡ n → length d ≡ n
    → HasColumns 4 n (a ∷ b ∷ c ∷ d ∷ [])
four_columns n a b c d p q r s = record {
  columns = omega arith;
  places = all_four (λ column. length column ≡ n) a b c d p q r s;
}

pub length_as_long : (test : ℕ → Bool) (f : ℕ → Option Near) → length (length_column test f) ≡ MAX_LENGTHS
length_as_long test f = columns_have_places.count (λ i. if test i then f i else None) MAX_LENGTHS

pub span_has_extremes : (lo count : ℕ) (a : Series) (n : ℕ) → HasColumns 4 MAX_LENGTHS (span_value lo count a n)
span_has_extremes lo count a n =
    let test = from_to (4 * n) (min (4 * n + 4) count) in
    four_columns MAX_LENGTHS _ _ _ _ (length_as_long test (λ i. start_slot (best_at lo a i)))
    (length_as_long test (λ i. near_slot (best_at lo a i)))
    (length_as_long test (λ i. start_slot (unusual_at lo a i)))
    (length_as_long test (λ i. near_slot (unusual_at lo a i)))
