-- What is put at the places of successive lengths, one by one.
use Rattle.std.proofs.Common.{◌≡◌, ℕ, ◌+◌, ◌-◌, ◌*◌, ◌<◌, ◌≤◌, [], ◌∷◌, length, List, get_or, Bool, true, false, refl, sym, ap}
use Rattle.std.proofs.Common.{◌∙◌, arith, inl, inr}
use Rattle.std.specs.Prelude.{Option, Some, None, if◌then◌else◌, min, slice_get, slice_set}
use Rattle.std.specs.Option.{option_map_or}
use Rattle.std.proofs.lemmas.Bool.{cases_eq}
use Rattle.std.proofs.lemmas.Bool.Decides.{nat_tests}
use Rattle.std.proofs.lemmas.List.{ext_get_or, get_or-set_same, get_or-set_other, length-set}
use Rattle.std.proofs.lemmas.Simd.{get_or-zip2, length-zip2}
use Rattle.mp_nums.specs.declared.finds.Discord.{Discord}
use Rattle.mp_nums.specs.declared.nearest.Near.{Near}
use Rattle.mp_nums.specs.Near.{nearer_of}
use Rattle.mp_nums.specs.NearLaws.{nearer_with_none}
use Rattle.mp_defs.specs.Series.{Series}
use Rattle.mp_defs.specs.Window.{excl}
use Rattle.mp_defs.specs.Profile.{matrix_profile}
use Rattle.mp_defs.specs.ColumnLaws.{columns_have_places}
use Rattle.mp_partial.specs.Values.{Column, HasColumns, Value, merged_column, merged_columns}
use Rattle.mp_picks.specs.Picks.{first_of, picks}
use Rattle.mp_results.specs.Best.{best_cmp, best_in, discord_in}
use Rattle.mp_results.specs.Discords.{discord_cmp, start_of, with_entry}
use Rattle.mp_tiles.specs.Scanning.{taken}
use Rattle.mp_pan.specs.Extremes.{extremes_of}
use Rattle.mp_pan.specs.RangeLaws.{four_columns, length_as_long}
use Rattle.mp_pan.specs.Ranges.{AreForLengths, FoundAt, HaveTaken, best_at, found_value, from_to, length_column}
use Rattle.mp_pan.specs.Ranges.{lengths_value, near_slot, nearest_column, span_value, start_slot, starts_column, unusual_at}
use Rattle.mp_pan.specs.declared.extremes.Extremes.{Extremes}
use Rattle.mp_pan.specs.declared.found.ByLength.{ByLength}
use Rattle.mp_pan.specs.declared.limits.TheConstants.{MAX_LENGTHS}

-- ---- one column

at_length : (test : ℕ → Bool) (f : ℕ → Option Near) (i : ℕ) → i < MAX_LENGTHS
    → get_or (length_column test f) i None ≡ (if test i then f i else None)
at_length test f i lt = columns_have_places.at_place (λ n. if test n then f n else None) MAX_LENGTHS i lt

merged_at : (test : ℕ → Bool) (f : ℕ → Option Near) (old : Column) (i : ℕ) → length old ≡ MAX_LENGTHS → i < MAX_LENGTHS
    → get_or (merged_column old (length_column test f)) i None
    ≡ nearer_of (get_or old i None) (if test i then f i else None)
merged_at test f old i long lt =
    get_or-zip2 nearer_of old (length_column test f) i None None None (omega (arith, lt, long))
    (omega (arith, lt, length_as_long test f))
    ∙ ap (nearer_of (get_or old i None)) (at_length test f i lt)

pub merged_long : (test : ℕ → Bool) (f : ℕ → Option Near) (old : Column) → length old ≡ MAX_LENGTHS
    → length (merged_column old (length_column test f)) ≡ MAX_LENGTHS
merged_long test f old long =
    length-zip2 nearer_of old (length_column test f) (long ∙ sym (length_as_long test f)) ∙ long

nothing_there : (t : Bool) (slot found : Option Near) → t ≡ false
    → nearer_of slot (if t then found else None) ≡ slot
nothing_there true slot found e = absurd (cc)
nothing_there false slot found e = (nearer_with_none slot).1

something_there : (t : Bool) (slot found : Option Near) → t ≡ true
    → nearer_of slot (if t then found else None) ≡ nearer_of slot found
something_there true slot found e = refl
something_there false slot found e = absurd (cc)

none_yet : (first k i : ℕ) → i ≡ first + k → from_to first (first + k) i ≡ false
none_yet first k i e = grind (arith, nat_tests)

now_there : (first k i : ℕ) → i ≡ first + k → from_to first (first + (k + 1)) i ≡ true
now_there first k i e = grind (arith, nat_tests)

as_before : (first k i : ℕ) → (i ≡ first + k → ⊥) → from_to first (first + k) i ≡ from_to first (first + (k + 1)) i
as_before first k i ne = grind (arith, nat_tests)

empty_range : (first i : ℕ) → from_to first (first + 0) i ≡ false
empty_range first i = grind (arith, nat_tests)

-- before the first
column_begins : (f : ℕ → Option Near) (first : ℕ) (old : Column) → length old ≡ MAX_LENGTHS
    → old ≡ merged_column old (length_column (from_to first (first + 0)) f)
column_begins f first old long =
    let test = from_to first (first + 0) in
    ext_get_or None old (merged_column old (length_column test f)) (long ∙ sym (merged_long test f old long))
    (λ i lt. sym (merged_at test f old i long (omega (arith, lt, long))
    ∙ nothing_there (test i) (get_or old i None) (f i) (empty_range first i)))

-- one more
column_next : (f : ℕ → Option Near) (first k : ℕ) (old before after : Column) (found : Option Near)
    → length old ≡ MAX_LENGTHS → first + k < MAX_LENGTHS → found ≡ f (first + k)
    → before ≡ merged_column old (length_column (from_to first (first + k)) f)
    → after ≡ taken before (first + k) found
    → after ≡ merged_column old (length_column (from_to first (first + (k + 1))) f)
column_next f first k old before after found long lt is h e =
    ext_get_or None after (merged_column old (length_column more f)) (as_long ∙ sym (merged_long more f old long))
    (λ i below. let within : i < MAX_LENGTHS = omega (arith, below, as_long) in elim (cases_eq i (first + k)) [
      | inl same ↦
          ap (λ c. get_or c i None) e
          ∙ ap (λ n. get_or (slice_set before (first + k) slot) n None) same
          ∙ get_or-set_same before (first + k) slot None (omega (arith, lt, before_long))
          ∙ ap (λ n. nearer_of (get_or before n None) found) (sym same)
          ∙ ap (λ s. nearer_of s found) (ap (λ c. get_or c i None) h ∙ merged_at test f old i long within
          ∙ nothing_there (test i) (get_or old i None) (f i) (none_yet first k i same))
          ∙ ap (nearer_of (get_or old i None)) (is ∙ ap f (sym same))
          ∙ sym (merged_at more f old i long within
          ∙ something_there (more i) (get_or old i None) (f i) (now_there first k i same))
      | inr ne ↦
          ap (λ c. get_or c i None) e
          ∙ get_or-set_other before (first + k) i slot None ne
          ∙ ap (λ c. get_or c i None) h ∙ merged_at test f old i long within
          ∙ ap (λ t. nearer_of (get_or old i None) (if t then f i else None)) (as_before first k i ne)
          ∙ sym (merged_at more f old i long within)
    ])
  where
    test : ℕ → Bool
    test = from_to first (first + k)

    more : ℕ → Bool
    more = from_to first (first + (k + 1))

    slot : Option Near
    slot = nearer_of (get_or before (first + k) None) found

    before_long : length before ≡ MAX_LENGTHS
    before_long = ap length h ∙ merged_long test f old long

    as_long : length after ≡ MAX_LENGTHS
    as_long = ap length e ∙ length-set before (first + k) slot ∙ before_long

-- ---- the windows of lengths

pub still_for_lengths : (test : ℕ → Bool) (f : ℕ → Option Discord) (old new : ByLength) → AreForLengths old
    → HaveTaken test f old new → AreForLengths new
still_for_lengths test f old new places h = record {
  starts = ap length h.starts ∙ merged_long test (λ i. start_slot (f i)) old.starts.items places.starts;
  nearest = ap length h.nearest ∙ merged_long test (λ i. near_slot (f i)) old.nearest.items places.nearest;
}

pub taking_begins : (f : ℕ → Option Discord) (first : ℕ) (old : ByLength) → AreForLengths old
    → HaveTaken (from_to first (first + 0)) f old old
taking_begins f first old places = record {
  starts = column_begins (λ i. start_slot (f i)) first old.starts.items places.starts;
  nearest = column_begins (λ i. near_slot (f i)) first old.nearest.items places.nearest;
  starts_spare = refl;
  nearest_spare = refl;
}

-- what is put at a place
pub record IsPut (place : ℕ) (found : Option Discord) (old new : ByLength) : Type 0 where
  pub starts : new.starts.items ≡ taken old.starts.items place (start_slot found)
  pub nearest : new.nearest.items ≡ taken old.nearest.items place (near_slot found)
  pub starts_spare : new.starts.spare ≡ old.starts.spare
  pub nearest_spare : new.nearest.spare ≡ old.nearest.spare

pub taking_goes_on : (f : ℕ → Option Discord) (first k : ℕ) (found : Option Discord) (old before after : ByLength)
    → AreForLengths old → first + k < MAX_LENGTHS → found ≡ f (first + k)
    → HaveTaken (from_to first (first + k)) f old before → IsPut (first + k) found before after
    → HaveTaken (from_to first (first + (k + 1))) f old after
taking_goes_on f first k found old before after places lt is h put = record {
  starts = column_next (λ i. start_slot (f i)) first k old.starts.items before.starts.items after.starts.items
      (start_slot found) places.starts lt (ap start_slot is) h.starts put.starts;
  nearest = column_next (λ i. near_slot (f i)) first k old.nearest.items before.nearest.items after.nearest.items
      (near_slot found) places.nearest lt (ap near_slot is) h.nearest put.nearest;
  starts_spare = put.starts_spare ∙ h.starts_spare;
  nearest_spare = put.nearest_spare ∙ h.nearest_spare;
}

-- ---- the windows of a profile

first_discord : (zone : ℕ) (windows : List Discord)
    → slice_get (picks discord_cmp start_of zone 1 windows) 0 ≡ first_of discord_cmp windows
unfolding picks
first_discord zone windows = by_first (first_of discord_cmp windows)
  where
    by_first : (first : Option Discord)
        → slice_get (option_map_or (λ x. x ∷ []) first []) 0 ≡ first
    by_first None = refl
    by_first (Some x) = refl

pub discord_is : (column : Column) (zone : ℕ) → discord_in column zone ≡ first_of discord_cmp (with_entry column)
discord_is column zone = first_discord zone (with_entry column)

-- what is found in slots of a length is what there is at that length
pub best_is : (lo least k : ℕ) (a : Series) (column : Column) (found : Extremes) → lo ≤ least
    → found ≡ extremes_of column → with_entry column ≡ with_entry (matrix_profile (least + k) a).all
    → found.best ≡ best_at lo a (least - lo + k)
best_is lo least k a column found le is e =
    let same : least + k ≡ lo + (least - lo + k) = omega (arith, le) in
    ap (λ (x : Extremes). x.best) is ∙ ap (first_of best_cmp) e
    ∙ ap (λ n. best_in (matrix_profile n a).all) same

pub unusual_is : (lo least k : ℕ) (a : Series) (column : Column) (found : Extremes) → lo ≤ least
    → found ≡ extremes_of column → with_entry column ≡ with_entry (matrix_profile (least + k) a).all
    → found.discord ≡ unusual_at lo a (least - lo + k)
unusual_is lo least k a column found le is e =
    let same : least + k ≡ lo + (least - lo + k) = omega (arith, le) in
    ap (λ (x : Extremes). x.discord) is ∙ ap (first_of discord_cmp) e
    ∙ sym (discord_is (matrix_profile (least + k) a).all (excl (least + k)))
    ∙ ap (λ n. discord_in (matrix_profile n a).all (excl n)) same

-- ---- both kinds

pub merged_for_lengths : (old other new : ByLength) → AreForLengths old → AreForLengths other
    → new.starts.items ≡ merged_column old.starts.items other.starts.items
    → new.nearest.items ≡ merged_column old.nearest.items other.nearest.items → AreForLengths new
merged_for_lengths old other new places others e f = record {
  starts = ap length e
      ∙ length-zip2 nearer_of old.starts.items other.starts.items (places.starts ∙ sym others.starts) ∙ places.starts;
  nearest = ap length f
      ∙ length-zip2 nearer_of old.nearest.items other.nearest.items (places.nearest ∙ sym others.nearest)
      ∙ places.nearest;
}

-- the columns of a part
pub columns_are : (best discord : ByLength) → AreForLengths best → AreForLengths discord
    → HasColumns 4 MAX_LENGTHS
    (best.starts.items ∷ best.nearest.items ∷ discord.starts.items ∷ discord.nearest.items ∷ [])
columns_are best discord h k =
    four_columns MAX_LENGTHS best.starts.items best.nearest.items discord.starts.items discord.nearest.items h.starts
    h.nearest k.starts k.nearest

pub all_taken : (test : ℕ → Bool) (lo : ℕ) (a : Series) (best best' discord discord' : ByLength) (seen : FoundAt)
    → best.starts.items ≡ seen.best_starts → best.nearest.items ≡ seen.best_nearest
    → discord.starts.items ≡ seen.discord_starts → discord.nearest.items ≡ seen.discord_nearest
    → HaveTaken test (best_at lo a) best best' → HaveTaken test (unusual_at lo a) discord discord'
    → ◌≡◌ {A = Value}
    (best'.starts.items ∷ best'.nearest.items ∷ discord'.starts.items ∷ discord'.nearest.items ∷ [])
    (merged_columns (found_value seen) (lengths_value test lo a))
all_taken test lo a best best' discord discord' seen e f g h b d =
    four_same _ _ _ _ _ _ _ _
    (b.starts ∙ ap (λ c. merged_column c (starts_column test (best_at lo a))) e)
    (b.nearest ∙ ap (λ c. merged_column c (nearest_column test (best_at lo a))) f)
    (d.starts ∙ ap (λ c. merged_column c (starts_column test (unusual_at lo a))) g)
    (d.nearest ∙ ap (λ c. merged_column c (nearest_column test (unusual_at lo a))) h)
  where
    four_same : (a b c d e f g h : Column) → a ≡ e → b ≡ f → c ≡ g → d ≡ h
        → ◌≡◌ {A = Value} (a ∷ b ∷ c ∷ d ∷ []) (e ∷ f ∷ g ∷ h ∷ [])
    four_same a b c d e f g h p q r s = cc

-- what is taken of a piece is its value
pub span_taken : (lo count first end piece : ℕ) (a b : Series) (old new : Value) → first ≡ 4 * piece
    → end ≡ min (4 * piece + 4) count → a ≡ b → new ≡ merged_columns old (lengths_value (from_to first end) lo a)
    → new ≡ merged_columns old (span_value lo count b piece)
span_taken lo count first end piece a b old new e f g h =
    h ∙ ap (λ n. merged_columns old (lengths_value (from_to n end) lo a)) e
    ∙ ap (λ n. merged_columns old (lengths_value (from_to (4 * piece) n) lo a)) f
    ∙ ap (λ (x : Series). merged_columns old (span_value lo count x piece)) g
