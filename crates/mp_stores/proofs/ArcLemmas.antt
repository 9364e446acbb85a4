-- What the windows of a profile name, and a board that is changed to it window by window.
use Rattle.std.proofs.Common.{◌≡◌, ◌≢◌, ℕ, zero, suc, ◌+◌, ◌*◌, ◌/◌, ◌<◌, ◌≤◌, List, [], ◌∷◌, true, false, refl, length}
use Rattle.std.proofs.Common.{get_or, set, Option, None, Some, IfSome}
use Rattle.std.proofs.Common.{length-set, get_or-set_same, get_or-set_other, sym, ap, subst, ◌∙◌, arith, ⊎_elim}
use Rattle.std.specs.Prelude.{slice_get, Bool, ◌++◌, min}
use Rattle.std.proofs.Math.ListN.{get_or-eq_default}
use Rattle.std.proofs.lemmas.Bool.{cases_eq, cases_lt}
use Rattle.std.proofs.lemmas.List.{ext_get_or, get_or-map, length-append, length-map, set-get_or}
use Rattle.std.proofs.lemmas.Option.{get_or_from_slice_get, slice_get-get_or}
use Rattle.mp_nums.specs.declared.nearest.Near.{Near}
use Rattle.mp_nums.specs.declared.samples.Sample.{Sample}
use Rattle.mp_defs.specs.Limits.{max_samples}
use Rattle.mp_defs.specs.Series.{reading_of, series_of}
use Rattle.mp_defs.specs.Window.{is_allowed, windows}
use Rattle.mp_defs.specs.Profile.{entry, matrix_profile, windows_of}
use Rattle.mp_defs.specs.ColumnLaws.{columns_have_places}
use Rattle.mp_results.specs.Arcs.{index_of, indices_of, NameWithin}
use Rattle.mp_replies.specs.ArcLaws.{name_windows}
use Rattle.mp_stream.specs.Blocks.{AreKnown, block_count}
use Rattle.mp_stores.specs.Channels.{IsNamed, NameNearest, NameUnmarked}

-- ---- the windows of a profile

-- a profile has an entry for each window
pub entries : (m : ℕ) (items : List Sample)
    → length (matrix_profile m (series_of items)).all ≡ windows (length items) m
entries m items =
    columns_have_places.count (entry (is_allowed m) m (series_of items)) (windows_of m (series_of items))
    ∙ ap (λ n. windows n m) (length-map items reading_of)

index_there : (column : List (Option Near)) (k : ℕ) → k < length column
    → get_or (indices_of column) k None ≡ index_of (get_or column k None)
index_there column k inside = get_or-map index_of column k None None inside

-- ---- one by one

named_at : (x : Option ℕ) (indices : List (Option ℕ)) (k : ℕ) → NameWithin indices → slice_get indices k ≡ Some x
    → IfSome x (λ j. j < length indices)
named_at None indices k named is = tt
named_at (Some j) indices k named is = named k j is

-- what a column names is one of its windows
pub names_window : (column : List (Option Near)) (k : ℕ) → k < length column → NameWithin (indices_of column)
    → IfSome (index_of (get_or column k None)) (λ j. j < length column)
names_window column k inside named =
    let within : k < length (indices_of column) = omega (arith, inside, length-map column index_of) in
    let there : slice_get (indices_of column) k ≡ Some (index_of (get_or column k None)) =
    slice_get-get_or (indices_of column) k None within ∙ ap Some (index_there column k inside) in
    rw length-map at (named_at (index_of (get_or column k None)) (indices_of column) k named there)

-- no window is named yet
pub named_none : (column : List (Option Near)) (first : ℕ) (items : List (Option ℕ))
    → IsNamed column first first items items
named_none column first items = record {
  as_long = refl;
  within = λ i low high. absurd (omega (arith, low, high));
  before = λ i lt. refl;
  behind = λ i ge. refl;
}

pub named_next : (column : List (Option Near)) (first place : ℕ) (old items new : List (Option ℕ)) → first ≤ place
    → place < length items → new ≡ set items place (index_of (get_or column place None))
    → IsNamed column first place old items → IsNamed column first (place + 1) old new
named_next column first place old items new low inside is h =
    let named = index_of (get_or column place None) in
    let other : (k : ℕ) → k ≢ place → get_or new k None ≡ get_or items k None = λ k ne.
    ap (λ (xs : List (Option ℕ)). get_or xs k None) is ∙ get_or-set_other items place k named None ne in
    record {
      as_long = ap length is ∙ (length-set items place named ∙ h.as_long);
      within = λ k from before. ⊎_elim
          (λ (e : k ≡ place).
          ap (λ (xs : List (Option ℕ)). get_or xs k None) is
          ∙ (ap (λ n. get_or (set items place named) n None) e
          ∙ (get_or-set_same items place named None inside
          ∙ ap (λ n. index_of (get_or column n None)) (sym e))))
          (λ (ne : k ≢ place). other k ne ∙ h.within k from (omega (arith, before, ne)))
          (cases_eq k place);
      before = λ k lt. other k (λ e. omega (arith, e, lt, low)) ∙ h.before k lt;
      behind = λ k ge. other k (λ e. omega (arith, e, ge)) ∙ h.behind k (omega (arith, ge));
    }

-- what each window names, at places that aren't there too
pub index_at : (column : List (Option Near)) (k : ℕ)
    → get_or (indices_of column) k None ≡ index_of (get_or column k None)
index_at [] k = refl
index_at (x ∷ column) zero = refl
index_at (x ∷ column) (suc k) = index_at column k

pub each_named : (column : List (Option Near)) (items : List (Option ℕ)) → length items ≡ length column
    → ((k : ℕ) → k < length column → get_or items k None ≡ index_of (get_or column k None))
    → items ≡ indices_of column
each_named column items long each =
    ext_get_or None items (indices_of column) (long ∙ sym (length-map column index_of))
    (λ k inside. each k (omega (arith, inside, long)) ∙ sym (index_at column k))

-- ---- block by block

-- the windows of the blocks before one, and of those that aren't marked, name their nearest ones
pub record AreNamed (column : List (Option Near)) (changed : List Bool) (block : ℕ) (items : List (Option ℕ))
    : Type 0 where
  pub as_long : length items ≡ length column
  pub named : (i : ℕ) → (block ≤ i / 32 → get_or changed (i / 32) false ≡ false)
      → get_or items i None ≡ index_of (get_or column i None)

-- a place behind the last window
none_behind : (column : List (Option Near)) (items : List (Option ℕ)) (i : ℕ) → length items ≡ length column
    → length column ≤ i → get_or items i None ≡ index_of (get_or column i None)
none_behind column items i long ge =
    get_or-eq_default items None (omega (arith, long, ge)) ∙ sym (ap index_of (get_or-eq_default column None ge))

pub block_named : (column : List (Option Near)) (changed : List Bool) (block : ℕ) (is_marked : Bool)
    (items new : List (Option ℕ)) → is_marked ≡ get_or changed block false
    → (is_marked ≡ true → IsNamed column (block * 32) (min (length column) (block * 32 + 32)) items new)
    → (is_marked ≡ false → new ≡ items) → AreNamed column changed block items
    → AreNamed column changed (block + 1) new
block_named column changed block true items new flag marked unmarked h =
    let is = marked refl in
    let long = is.as_long ∙ h.as_long in
    record {
      as_long = long;
      named = λ i clear. ⊎_elim
          (λ (e : i / 32 ≡ block). ⊎_elim
          (λ (lt : i < length column). is.within i (omega (arith, e)) (omega (arith, e, lt)))
          (λ (ge : length column ≤ i). none_behind column new i long ge)
          (cases_lt i (length column)))
          (λ (ne : i / 32 ≢ block). ⊎_elim
          (λ (lt : i < block * 32). is.before i lt ∙ h.named i (λ le. clear (omega (arith, le, ne))))
          (λ (ge : block * 32 ≤ i).
          is.behind i (omega (arith, ge, ne)) ∙ h.named i (λ le. clear (omega (arith, le, ne))))
          (cases_lt i (block * 32)))
          (cases_eq (i / 32) block);
    }
block_named column changed block false items new flag marked unmarked h =
    let is = unmarked refl in
    record {
      as_long = ap length is ∙ h.as_long;
      named = λ i clear. ap (λ (xs : List (Option ℕ)). get_or xs i None) is ∙ h.named i (λ le. ⊎_elim
          (λ (e : i / 32 ≡ block). ap (λ b. get_or changed b false) e ∙ sym flag)
          (λ (ne : i / 32 ≢ block). clear (omega (arith, le, ne)))
          (cases_eq (i / 32) block));
    }

pub all_named : (column : List (Option Near)) (changed : List Bool) (block : ℕ) (items : List (Option ℕ))
    → block ≡ block_count (length column) → AreNamed column changed block items → items ≡ indices_of column
all_named column changed block items all h =
    each_named column items h.as_long (λ k lt. h.named k (λ le. absurd (omega (arith, le, lt, all))))

-- windows named what is known of them
pub known_named : (known column : List (Option Near)) (changed : List Bool) (indices : List (Option ℕ))
    → indices ≡ indices_of known → AreKnown known column changed → NameUnmarked column changed indices
known_named known column changed indices is h = λ i clear.
    ap (λ (xs : List (Option ℕ)). get_or xs i None) is ∙ (index_at known i ∙ ap index_of (sym (h.each i clear)))

-- a window that names none is pushed behind the others
pub same_behind : (items : List (Option ℕ)) (i : ℕ) → get_or (items ++ None ∷ []) i None ≡ get_or items i None
same_behind [] zero = refl
same_behind [] (suc i) = refl
same_behind (x ∷ items) zero = refl
same_behind (x ∷ items) (suc i) = same_behind items i

-- a window that names already what it is to name
pub named_already : (items : List (Option ℕ)) (i : ℕ) (x : Option ℕ) → slice_get items i ≡ Some x
    → items ≡ set items i x
named_already items i x is =
    sym (ap (λ y. set items i y) (sym (get_or_from_slice_get items i x None is)) ∙ set-get_or items i None)

-- ---- a board that follows a profile

pub record CanFollow (column : List (Option Near)) (items : List (Option ℕ)) (spare : ℕ) : Type 0 where
  pub fewer : length items ≤ length column
  pub room : length column ≤ length items + spare
  pub few : length column ≤ max_samples
  pub named : NameWithin (indices_of column)

-- the profile of no more samples than there is room for
pub can_follow : (m n : ℕ) (old added new : List Sample) (indices : List (Option ℕ)) (spare : ℕ)
    (column : List (Option Near)) → NameNearest m old indices → new ≡ old ++ added → n ≡ m → length added ≤ spare
    → length old + length added ≤ max_samples → column ≡ (matrix_profile n (series_of new)).all
    → CanFollow column indices spare
can_follow m n old added new indices spare column nearest grown same room fits is =
    let long : length column ≡ windows (length new) n = ap length is ∙ entries n new in
    let samples = ap length grown ∙ length-append old added in
    let before : length indices ≡ windows (length old) m =
    ap length nearest.named
    ∙ (length-map (matrix_profile m (series_of old)).all index_of ∙ entries m old) in
    let least = nearest.shortest in
    record {
      fewer = omega (arith, long, before, samples, same);
      room = omega (arith, long, before, samples, same, room);
      few = omega (arith, long, samples, same, fits, least);
      named =
          subst (λ (xs : List (Option Near)). NameWithin (indices_of xs)) (sym is) (name_windows n (series_of new));
    }
