-- Columns that are read one by one.
use Rattle.std.proofs.Common.{◌≡◌, ℕ, ◌<◌, ◌≤◌, Bool, true, false, List, [], ◌∷◌, length, refl, ap, ◌∙◌, sym, arith}
use Rattle.std.proofs.Common.{nat_le}
use Rattle.std.specs.Prelude.{Option, Some, None, is_some, unwrap_or, if◌then◌else◌}
use Rattle.std.proofs.lemmas.Bool.Decides.{nat_tests}
use Rattle.mp_bytes.specs.Values.{values_in}
use Rattle.mp_replies.specs.Limits.{max_channels}
use Rattle.mp_replies.specs.Numbers.{column, columns}
use Rattle.mp_lines.proofs.ReadLemmas.{AreCounted, AreFew, AreGoneOver, all_read, malformed, read_length, well_formed}

abbrev by_count : Bool → Option (List ℕ) → Option (List ℕ)
by_count few found = if few then found else None

none_by : (few : Bool) (found : Option (List ℕ)) → false ≡ is_some found → false ≡ is_some (by_count few found)
none_by true found h = h
none_by false found h = refl

pub bad_column : (field text : List ℕ) (left : List (List ℕ)) → column text ≡ None
    → AreGoneOver column (values_in field) (text ∷ left)
    → false ≡ is_some (columns field)
bad_column field text left bad gone =
    none_by (nat_le (length (values_in field)) max_channels) (all_read column (values_in field))
    (malformed column (values_in field) text left bad gone)

pub too_many : (field text : List ℕ) (left : List (List ℕ)) (count : ℕ) → count ≡ 8
    → AreFew 8 (values_in field) (text ∷ left) count
    → false ≡ is_some (columns field)
too_many field text left count full few =
    let many : nat_le (length (values_in field)) max_channels ≡ false = grind (arith, nat_tests, few.counted) in
    rw many refl

pub all_columns : (field : List ℕ) (count : ℕ) → AreGoneOver column (values_in field) []
    → AreFew 8 (values_in field) [] count → true ≡ is_some (columns field)
all_columns field count gone few =
    let within : nat_le (length (values_in field)) max_channels ≡ true =
    grind (arith, nat_tests, few.counted, few.few) in
    rw within (well_formed column (values_in field) gone)

-- ---- columns that were tested

whole_by : (few : Bool) (found : Option (List ℕ)) → is_some (by_count few found) ≡ true → by_count few found ≡ found
whole_by true found h = refl
whole_by false found h = cc

pub columns_whole : (field : List ℕ) → is_some (columns field) ≡ true
    → columns field ≡ all_read column (values_in field)
columns_whole field some =
    whole_by (nat_le (length (values_in field)) max_channels) (all_read column (values_in field)) some

pub some_of : (o : Option ℕ) → is_some o ≡ true → (n : ℕ) × (o ≡ Some n)
some_of None h = absurd (cc h)
some_of (Some n) h = (n, refl)

few_by : (few : Bool) (count : ℕ) (found : Option (List ℕ)) → nat_le count 8 ≡ few → is_some (by_count few found) ≡ true
    → count ≤ 8
few_by true count found h some = grind (arith, nat_tests, h)
few_by false count found h some = absurd (cc some)

few_values : (field : List ℕ) → is_some (columns field) ≡ true → length (values_in field) ≤ 8
few_values field some =
    few_by (nat_le (length (values_in field)) max_channels) (length (values_in field))
    (all_read column (values_in field)) refl some

column_total : (field : List ℕ) → is_some (columns field) ≡ true
    → length (unwrap_or (columns field) []) ≡ length (values_in field)
column_total field some =
    let whole = columns_whole field some in
    ap (λ (found : Option (List ℕ)). length (unwrap_or found [])) whole
    ∙ read_length column (values_in field) (ap is_some (sym whole) ∙ some)

pub counted_fits : (field text : List ℕ) (left : List (List ℕ)) (count : ℕ) → is_some (columns field) ≡ true
    → AreCounted (values_in field) (text ∷ left) count → count < 8
counted_fits field text left count some h = omega (arith, few_values field some, h.counted)

pub counted_all : (field : List ℕ) (count : ℕ) → is_some (columns field) ≡ true → AreCounted (values_in field) [] count
    → count ≡ length (unwrap_or (columns field) [])
counted_all field count some h = omega (arith, h.counted, column_total field some)
