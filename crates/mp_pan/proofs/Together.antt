-- What the pieces have together.
use Rattle.std.proofs.Common.{◌≡◌, ℕ, zero, suc, ◌+◌, ◌*◌, ◌≤◌, List, [], ◌∷◌, length, Bool, true, false, map, replicate, refl, sym}
use Rattle.std.proofs.Common.{ap, ◌∙◌, arith, inl, inr}
use Rattle.std.specs.Prelude.{Option, None, ◌||◌, if◌then◌else◌, min}
use Rattle.std.specs.Int.{div_ceil}
use Rattle.std.specs.List.{range_with_len}
use Rattle.std.proofs.lemmas.Bool.Decides.{nat_tests}
use Rattle.std.proofs.lemmas.Grind.{div_ceil_times}
use Rattle.std.proofs.lemmas.List.{length-map}
use Rattle.std.proofs.lemmas.List.FromFn.{length-map-range_with_len}
use Rattle.std.proofs.lemmas.Simd.{zip2-map}
use Rattle.mp_nums.specs.declared.nearest.Near.{Near}
use Rattle.mp_nums.specs.Near.{nearer_of}
use Rattle.mp_nums.specs.NearLaws.{nearer_repeats, nearer_with_none}
use Rattle.mp_defs.specs.Series.{Series}
use Rattle.mp_partial.specs.PatchingLaws.{either_below}
use Rattle.mp_partial.specs.Values.{Value, merged_below, merged_column, merged_columns, merged_over}
use Rattle.mp_pan.specs.Ranges.{best_at, from_to, length_column, lengths_value, near_slot, no_extremes}
use Rattle.mp_pan.specs.Ranges.{span_value, start_slot, unusual_at}
use Rattle.mp_pan.specs.declared.limits.TheConstants.{MAX_LENGTHS}

-- ---- one column

map_same : (f g : ℕ → Option Near) (xs : List ℕ) → ((i : ℕ) → f i ≡ g i) → map f xs ≡ map g xs
map_same f g [] h = refl
map_same f g (x ∷ xs) h = cc (h x, map_same f g xs h)

either_there : (s t : Bool) (x : Option Near)
    → nearer_of (if s then x else None) (if t then x else None) ≡ (if s || t then x else None)
either_there true true x = nearer_repeats x
either_there true false x = (nearer_with_none x).1
either_there false t x = refl

column_either : (p q : ℕ → Bool) (f : ℕ → Option Near)
    → merged_column (length_column p f) (length_column q f) ≡ length_column (λ i. p i || q i) f
column_either p q f =
    zip2-map nearer_of (λ i. if p i then f i else None) (λ i. if q i then f i else None) (range_with_len 0 MAX_LENGTHS)
    ∙ map_same (λ i. nearer_of (if p i then f i else None) (if q i then f i else None))
    (λ i. if p i || q i then f i else None) (range_with_len 0 MAX_LENGTHS) (λ i. either_there (p i) (q i) (f i))

column_same : (p q : ℕ → Bool) (f : ℕ → Option Near) → ((i : ℕ) → p i ≡ q i) → length_column p f ≡ length_column q f
column_same p q f h =
    map_same (λ i. if p i then f i else None) (λ i. if q i then f i else None) (range_with_len 0 MAX_LENGTHS)
    (λ i. ap (λ t. if t then f i else None) (h i))

all_none : (f : ℕ → Option Near) (xs : List ℕ) → ((i : ℕ) → f i ≡ None)
    → map f xs ≡ replicate (length xs) None
all_none f [] h = refl
all_none f (x ∷ xs) h = cc (h x, all_none f xs h)

column_none : (p : ℕ → Bool) (f : ℕ → Option Near) → ((i : ℕ) → p i ≡ false)
    → length_column p f ≡ replicate MAX_LENGTHS None
column_none p f h =
    all_none (λ i. if p i then f i else None) (range_with_len 0 MAX_LENGTHS)
    (λ i. ap (λ t. if t then f i else None) (h i))
    ∙ ap (λ n. replicate n None)
    (sym (length-map (range_with_len 0 MAX_LENGTHS) f) ∙ length-map-range_with_len f 0 MAX_LENGTHS)

-- ---- values

four : (a b c d e f g h : List (Option Near)) → a ≡ e → b ≡ f → c ≡ g → d ≡ h
    → ◌≡◌ {A = Value} (a ∷ b ∷ c ∷ d ∷ []) (e ∷ f ∷ g ∷ h ∷ [])
four a b c d e f g h p q r s = cc

value_either : (p q : ℕ → Bool) (lo : ℕ) (a : Series)
    → merged_columns (lengths_value p lo a) (lengths_value q lo a) ≡ lengths_value (λ i. p i || q i) lo a
value_either p q lo a =
    four _ _ _ _ _ _ _ _ (column_either p q (λ i. start_slot (best_at lo a i)))
    (column_either p q (λ i. near_slot (best_at lo a i)))
    (column_either p q (λ i. start_slot (unusual_at lo a i)))
    (column_either p q (λ i. near_slot (unusual_at lo a i)))

value_same : (p q : ℕ → Bool) (lo : ℕ) (a : Series) → ((i : ℕ) → p i ≡ q i)
    → lengths_value p lo a ≡ lengths_value q lo a
value_same p q lo a h =
    four _ _ _ _ _ _ _ _ (column_same p q (λ i. start_slot (best_at lo a i)) h)
    (column_same p q (λ i. near_slot (best_at lo a i)) h)
    (column_same p q (λ i. start_slot (unusual_at lo a i)) h)
    (column_same p q (λ i. near_slot (unusual_at lo a i)) h)

value_none : (p : ℕ → Bool) (lo size : ℕ) (a : Series) → ((i : ℕ) → p i ≡ false)
    → lengths_value p lo a ≡ no_extremes size
value_none p lo size a h =
    four _ _ _ _ _ _ _ _ (column_none p (λ i. start_slot (best_at lo a i)) h)
    (column_none p (λ i. near_slot (best_at lo a i)) h)
    (column_none p (λ i. start_slot (unusual_at lo a i)) h)
    (column_none p (λ i. near_slot (unusual_at lo a i)) h)

-- ---- successive pieces

no_lengths : (first end i : ℕ) → end ≤ first → from_to first end i ≡ false
no_lengths first end i le = grind (arith, nat_tests)

joined : (first mid end i : ℕ) → first ≤ mid → mid ≤ end
    → (from_to first mid i || from_to mid end i) ≡ from_to first end i
joined first mid end i le le' = grind (arith, nat_tests)

past_end : (first mid end i : ℕ) → end ≤ mid → (from_to first end i || from_to mid end i) ≡ from_to first end i
past_end first mid end i le = grind (arith, nat_tests)

-- a piece, and those behind it, where there are as many lengths
joined_within : (first mid end count i : ℕ) → first ≤ mid → mid ≤ end
    → (from_to first (min mid count) i || from_to mid (min end count) i) ≡ from_to first (min end count) i
joined_within first mid end count i le le' = elim (either_below mid count) [
  | inl lt ↦
      let here : min mid count ≡ mid = omega (arith, lt) in
      ap (λ m. from_to first m i || from_to mid (min end count) i) here
      ∙ joined first mid (min end count) i le (omega (arith, lt, le'))
  | inr past ↦
      let here : min mid count ≡ count = omega (arith, past) in
      let there : min end count ≡ count = omega (arith, past, le') in
      ap (λ m. from_to first m i || from_to mid (min end count) i) here
      ∙ ap (λ e. from_to first count i || from_to mid e i) there
      ∙ past_end first mid count i past ∙ ap (λ e. from_to first e i) (sym there)
]

spans_from : (lo count : ℕ) (a : Series) (size g n : ℕ)
    → merged_over merged_columns (no_extremes size) (span_value lo count a) (range_with_len g n)
    ≡ lengths_value (from_to (4 * g) (min (4 * (g + n)) count)) lo a
spans_from lo count a size g zero =
    sym (value_none (from_to (4 * g) (min (4 * (g + zero)) count)) lo size a
    (λ i. no_lengths (4 * g) (min (4 * (g + zero)) count) i (omega arith)))
spans_from lo count a size g (suc n) =
    let here = from_to (4 * g) (min (4 * g + 4) count) in
    let later = from_to (4 * (g + 1)) (min (4 * (g + 1 + n)) count) in
    ap (merged_columns (span_value lo count a g)) (spans_from lo count a size (g + 1) n)
    ∙ value_either here later lo a
    ∙ value_same (λ i. here i || later i) (from_to (4 * g) (min (4 * (g + suc n)) count)) lo a
    (λ i. let next : 4 * (g + 1) ≡ 4 * g + 4 = omega arith in
    let end : 4 * (g + 1 + n) ≡ 4 * (g + suc n) = omega arith in
    ap (λ m. here i || from_to m (min (4 * (g + 1 + n)) count) i) next
    ∙ ap (λ e. here i || from_to (4 * g + 4) (min e count) i) end
    ∙ joined_within (4 * g) (4 * g + 4) (4 * (g + suc n)) count i (omega arith) (omega arith))

-- all pieces have what there is at all lengths
pub all_spans : (lo count size : ℕ) (a : Series)
    → merged_below merged_columns (no_extremes size) (span_value lo count a) (div_ceil count 4)
    ≡ lengths_value (from_to 0 count) lo a
all_spans lo count size a =
    let end : min (4 * (0 + div_ceil count 4)) count ≡ count =
    omega (arith, (div_ceil_times count 4 (omega arith)).0) in
    spans_from lo count a size 0 (div_ceil count 4)
    ∙ ap (λ e. lengths_value (from_to 0 e) lo a) end
