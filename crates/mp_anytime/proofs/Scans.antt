-- The scan along a diagonal, pair by pair.
use Rattle.std.proofs.Common.{◌≡◌, ℕ, zero, suc, List, [], ◌∷◌, length, Bool}
use Rattle.std.proofs.Common.{refl, subst, sym, ap, ◌∙◌, arith}
use Rattle.std.specs.List.{range_with_len}
use Rattle.std.specs.Prelude.{slice_index, Result, Ok, Err, IfOk, ◌==◌}
use Rattle.std.specs.Int.{abs_diff}
use Rattle.std.specs.List.Sorted.{IsPermutation}
use Rattle.std.proofs.lemmas.List.Sorted.{list_any-IsPermutation}
use Rattle.std.proofs.lemmas.Bool.Decides.{nat_tests}
use Rattle.mp_nums.specs.declared.nearest.Near.{Near}
use Rattle.mp_nums.specs.declared.samples.Sample.{Sample}
use Rattle.mp_defs.specs.Series.{Series, series_of}
use Rattle.mp_defs.specs.Window.{windows}
use Rattle.mp_defs.specs.Profile.{windows_of}
use Rattle.mp_partial.specs.Profiled.{Profiled}
use Rattle.mp_defs.specs.SeriesLaws.{series_are_of_samples}
use Rattle.mp_partial.specs.MergeLaws.{columns_merge}
use Rattle.mp_partial.specs.Values.{HasColumns, Value, empty_columns, merged_below, merged_columns, merged_over}
use Rattle.mp_tiles.specs.Among.{either_way}
use Rattle.mp_tiles.specs.Scanning.{HasPlaces, IsScanned}
use Rattle.mp_tiles.specs.OfferingLaws.{each_to_other}
use Rattle.mp_anytime.specs.DiagonalLaws.{all_three, kept_have_places}
use Rattle.mp_anytime.specs.Bounds.{KeptPieces, columns_of, kept_sides}
use Rattle.mp_anytime.specs.Diagonals.{Along, along_size, along_value}
use Rattle.mp_anytime.specs.Scanning.{lie_along, lie_apart, starts_behind}
use Rattle.mp_anytime.proofs.LazyLemmas.{pieces_together, three, value_by, value_same}

pub still_places : (pairs : ℕ → ℕ → Bool) (m : ℕ) (a : Series) (old new : Profiled)
    → HasPlaces (windows_of m a) old
    → IsScanned pairs m a old new → HasPlaces (windows_of m a) new
still_places pairs m a old new places s = (each_to_other.still_fits m a a pairs old new (places, refl) s).0

-- ---- the value of a piece

either_apart : (offset i j : ℕ) → either_way (starts_behind offset) i j ≡ lie_apart offset i j
either_apart offset i j = grind (arith, nat_tests)

pub scanned_value : (offset m : ℕ) (a : Series) (old new : Profiled) → IsScanned (starts_behind offset) m a old new
    → ◌≡◌ {A = Value} (new.all ∷ new.left ∷ new.right ∷ [])
    (merged_columns (old.all ∷ old.left ∷ old.right ∷ []) (value_by (lie_apart offset) m a))
scanned_value offset m a old new s =
    three _ _ _ _ _ _ s.all s.sides.left s.sides.right
    ∙ ap (merged_columns (old.all ∷ old.left ∷ old.right ∷ []))
    (value_same (either_way (starts_behind offset)) (lie_apart offset) m a (λ i j _ _. either_apart offset i j))

pub piece_taken : (own seen : Along) (piece offset : ℕ) (old new : Profiled) → own ≡ seen
    → offset ≡ slice_index own.offsets piece
    → IsScanned (starts_behind offset) own.m (series_of own.samples) old new
    → ◌≡◌ {A = Value} (new.all ∷ new.left ∷ new.right ∷ [])
    (merged_columns (old.all ∷ old.left ∷ old.right ∷ []) (along_value seen piece))
piece_taken own seen piece offset old new view e s =
    scanned_value offset own.m (series_of own.samples) old new s
    ∙ ap (λ d. merged_columns (old.all ∷ old.left ∷ old.right ∷ [])
    (value_by (lie_apart d) own.m (series_of own.samples))) e
    ∙ ap (λ (x : Along). merged_columns (old.all ∷ old.left ∷ old.right ∷ []) (along_value x piece)) view

pub part_places : (own seen : Along) (p : Profiled) → own ≡ seen → length p.all ≡ along_size seen
    → length p.all ≡ length p.left
    → length p.all ≡ length p.right → HasPlaces (windows_of own.m (series_of own.samples)) p
part_places own seen p view size left right =
    let all : length p.all ≡ windows_of own.m (series_of own.samples) =
    size ∙ ap along_size (sym view) ∙ sym (series_are_of_samples.windows_are own.m own.samples) in
    record { all = all; sides = record { left = sym left ∙ all; right = sym right ∙ all } }

pub piece_columns : (w : ℕ) (p : Profiled) → HasPlaces w p
    → HasColumns 3 (length p.all) (p.all ∷ p.left ∷ p.right ∷ [])
piece_columns w p h = record {
  columns = refl;
  places = all_three (λ column. length column ≡ length p.all) p.all p.left p.right refl (h.sides.left ∙ sym h.all)
      (h.sides.right ∙ sym h.all);
}

-- all pieces together
pub pieces_are : (along : Along) (offsets : List ℕ) (m : ℕ) (items : List Sample) (count : ℕ)
    → along.offsets ≡ offsets
    → along.m ≡ m → along.samples ≡ items → count ≡ length along.offsets
    → merged_below merged_columns (empty_columns 3 (along_size along)) (along_value along) count
    ≡ value_by (lie_along offsets) m (series_of items)
pieces_are along offsets m items count e f g all =
    let a = series_of along.samples in
    ap (merged_below merged_columns (empty_columns 3 (along_size along)) (along_value along)) all
    ∙ ap (λ w. merged_below merged_columns (empty_columns 3 w) (along_value along) (length along.offsets))
    (sym (series_are_of_samples.windows_are along.m along.samples))
    ∙ pieces_together along.m a (along_value along) along.offsets (λ k lt. refl)
    ∙ ap (λ ds. value_by (lie_along ds) along.m a) e
    ∙ ap (λ n. value_by (lie_along offsets) n a) f
    ∙ ap (λ (x : List Sample). value_by (lie_along offsets) m (series_of x)) g

-- ---- with what is kept

-- what is kept, any number of times
kept_over : (fits : Near → Bool) (kept : Profiled) (k : ℕ) (ks : List ℕ)
    → merged_over merged_columns (empty_columns 3 (length kept.all)) (λ _. columns_of (kept_sides fits kept)) (k ∷ ks)
    ≡ columns_of (kept_sides fits kept)
kept_over fits kept k [] =
    (columns_merge 3).unit_last (length kept.all) (columns_of (kept_sides fits kept)) (kept_have_places fits kept)
kept_over fits kept k (j ∷ js) =
    ap (merged_columns (columns_of (kept_sides fits kept))) (kept_over fits kept j js)
    ∙ (columns_merge 3).idempotent (length kept.all) (columns_of (kept_sides fits kept)) (kept_have_places fits kept)

kept_first : (fits : Near → Bool) (kept : Profiled) (pieces : ℕ)
    → (pieces ≡ 0 → columns_of (kept_sides fits kept) ≡ empty_columns 3 (length kept.all))
    → merged_below merged_columns (empty_columns 3 (length kept.all)) (λ _. columns_of (kept_sides fits kept)) pieces
    ≡ columns_of (kept_sides fits kept)
kept_first fits kept zero nothing = sym (nothing refl)
kept_first fits kept (suc n) nothing = kept_over fits kept 0 (range_with_len 1 n)

-- the pieces of both kernels
pub both_are : (fits : Near → Bool) (first : KeptPieces) (kept : Profiled) (along : Along) (offsets : List ℕ) (m : ℕ)
    (items : List Sample)
    (found : Value) → (first.pieces ≡ 0 → columns_of (kept_sides fits kept) ≡ empty_columns 3 (length kept.all))
    → first.profile ≡ kept → length kept.all ≡ along_size along
    → along.offsets ≡ offsets → along.m ≡ m → along.samples ≡ items
    → found ≡ merged_columns
    (merged_below merged_columns (empty_columns 3 (length first.profile.all))
    (λ _. columns_of (kept_sides fits first.profile)) first.pieces)
    (merged_below merged_columns (empty_columns 3 (length first.profile.all)) (along_value along)
    (length along.offsets))
    → found ≡ merged_columns (columns_of (kept_sides fits kept)) (value_by (lie_along offsets) m (series_of items))
both_are fits first kept along offsets m items found nothing is size e f g h =
    let rest = merged_below merged_columns (empty_columns 3 (length first.profile.all)) (along_value along)
    (length along.offsets) in
    h ∙ ap (λ v. merged_columns v rest)
    (kept_first fits first.profile first.pieces (subst (λ (p : Profiled). first.pieces ≡ 0
    → columns_of (kept_sides fits p)
    ≡ empty_columns 3 (length p.all)) (sym is) nothing) ∙ ap (λ (p : Profiled). columns_of (kept_sides fits p)) is)
    ∙ ap (merged_columns (columns_of (kept_sides fits kept)))
    (ap (λ w. merged_below merged_columns (empty_columns 3 w) (along_value along) (length along.offsets))
    (ap (λ (p : Profiled). length p.all) is ∙ size)
    ∙ pieces_are along offsets m items (length along.offsets) e f g refl)

-- as many windows
pub same_windows : (along : Along) (samples : List Sample) (m : ℕ) → along.samples ≡ samples → along.m ≡ m
    → windows (length samples) m ≡ along_size along
same_windows along samples m e f =
    sym (ap (λ (xs : List Sample). windows (length xs) along.m) e ∙ ap (windows (length samples)) f)

-- the pairs along them are the same in any order
pub in_any_order : (offsets order : List ℕ) (m : ℕ) (a : Series) → IsPermutation offsets order
    → value_by (lie_along order) m a ≡ value_by (lie_along offsets) m a
in_any_order offsets order m a moved =
    value_same (lie_along order) (lie_along offsets) m a
    (λ i j _ _. sym (list_any-IsPermutation (λ other. other == abs_diff i j) offsets order moved))

pub found_same : (fits : Near → Bool) (found kept : Profiled) (offsets order : List ℕ) (m m' : ℕ)
    (items items' : List Sample) → IsPermutation offsets order → m' ≡ m → items' ≡ items
    → columns_of found
    ≡ merged_columns (columns_of (kept_sides fits kept)) (value_by (lie_along order) m' (series_of items'))
    → columns_of found
    ≡ merged_columns (columns_of (kept_sides fits kept)) (value_by (lie_along offsets) m (series_of items))
found_same fits found kept offsets order m m' items items' moved same_m same_items h =
    h ∙ ap (merged_columns (columns_of (kept_sides fits kept)))
    (ap (λ n. value_by (lie_along order) n (series_of items')) same_m
    ∙ ap (λ (xs : List Sample). value_by (lie_along order) m (series_of xs)) same_items
    ∙ in_any_order offsets order m (series_of items) moved)

pub found_by : {E F : Type 0} (of : F → Profiled) (fits : Near → Bool) (r : Result F E) (first : KeptPieces)
    (kept : Profiled) (along : Along)
    (offsets : List ℕ) (m : ℕ) (items : List Sample)
    → (first.pieces ≡ 0 → columns_of (kept_sides fits kept) ≡ empty_columns 3 (length kept.all))
    → first.profile ≡ kept
    → length kept.all ≡ along_size along → along.offsets ≡ offsets → along.m ≡ m
    → along.samples ≡ items
    → IfOk r (λ found. columns_of (of found) ≡ merged_columns
    (merged_below merged_columns (empty_columns 3 (length first.profile.all))
    (λ _. columns_of (kept_sides fits first.profile)) first.pieces)
    (merged_below merged_columns (empty_columns 3 (length first.profile.all)) (along_value along)
    (length along.offsets)))
    → IfOk r (λ found. columns_of (of found)
    ≡ merged_columns (columns_of (kept_sides fits kept)) (value_by (lie_along offsets) m (series_of items)))
found_by of fits (Ok found) first kept along offsets m items nothing is size e f g h =
    both_are fits first kept along offsets m items (columns_of (of found)) nothing is size e f g h
found_by of fits (Err e) first kept along offsets m items nothing is size d f g h = tt
