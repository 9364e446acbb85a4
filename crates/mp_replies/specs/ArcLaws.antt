-- The windows that a profile names are its own, few arcs pass over each, and regimes lie on their curve.
use Rattle.std.proofs.Common.{◌≡◌, ℕ, ◌+◌, ◌<◌, ◌≤◌, ◌∙◌, List, [], ◌∷◌, length, get_or, map, refl, ap, sym, subst}
use Rattle.std.proofs.Common.{arith}
use Rattle.std.specs.Prelude.{All, Bool, Contains, Option, Some, None, filter_map, option_map}
use Rattle.std.specs.List.{cons_option, enumerate_from}
use Rattle.std.proofs.lemmas.List.{get_or-map, length-map}
use Rattle.std.proofs.lemmas.List.Elements.{All-cons, All-contains, All-map, All-nil, All-same, All-weaker}
use Rattle.std.proofs.lemmas.List.FromFn.{length-map-range_with_len}
use Rattle.std.proofs.lemmas.Option.{get_or_from_slice_get, slice_get_within}
use Rattle.mp_nums.specs.declared.nearest.Near.{Near}
use Rattle.mp_nums.specs.declared.ratios.Ratio.{Ratio}
use Rattle.mp_results.specs.Arcs.{arc_count, arcs_of, index_of, indices_of, NameWithin, ArcsAreFew}
use Rattle.mp_results.specs.Regimes.{AreRegimes, below_one, low_places}
use Rattle.mp_defs.specs.ColumnLaws.{columns_have_places}
use Rattle.mp_defs.specs.Laws.{IsNearest}
use Rattle.mp_defs.specs.Limits.{max_samples, min_window}
use Rattle.mp_defs.specs.NearestLaws.{entries_are_nearest}
use Rattle.mp_defs.specs.Profile.{entry, matrix_profile, windows_of}
use Rattle.mp_defs.specs.Series.{Series}
use Rattle.mp_defs.specs.Window.{is_allowed}

-- ---- the windows that a profile names

index_there : (column : List (Option Near)) (k : ℕ) → k < length column
    → get_or (indices_of column) k None ≡ index_of (get_or column k None)
index_there column k inside = get_or-map index_of column k None None inside

none_some : (j : ℕ) → None ≡ Some j → ⊥
none_some j e = cc

nearest_below : (m : ℕ) (may : ℕ → Bool) (a : Series) (i j : ℕ) (found : Option Near) → IsNearest m may a i a found
    → index_of found ≡ Some j → j < windows_of m a
nearest_below m may a i j None is named = absurd (none_some j named)
nearest_below m may a i j (Some found) is named =
    let same : found.index ≡ j = cc in subst (λ k. k < windows_of m a) same is.window

-- each window that has a nearest one names a window
pub name_windows : (m : ℕ) (a : Series) → NameWithin (indices_of (matrix_profile m a).all)
name_windows m a i j is =
    let column = (matrix_profile m a).all in
    let long = columns_have_places.count (entry (is_allowed m) m a) (windows_of m a) in
    let as_long = length-map column index_of in
    let within = slice_get_within (indices_of column) i (Some j) is in
    let inside : i < length column = omega (arith, within, as_long) in
    let there : get_or (indices_of column) i None ≡ Some j =
    get_or_from_slice_get (indices_of column) i (Some j) None is in
    let here : get_or column i None ≡ entry (is_allowed m) m a i =
    columns_have_places.at_place (entry (is_allowed m) m a) (windows_of m a) i (omega (arith, inside, long)) in
    let below =
    nearest_below m (is_allowed m i) a i j (entry (is_allowed m) m a i) (entries_are_nearest.all (is_allowed m) m a i)
    (ap index_of (sym here) ∙ (sym (index_there column i inside) ∙ there)) in
    omega (arith, below, as_long, long)

-- ---- arcs

indices_long : (m : ℕ) (a : Series) → length (indices_of (matrix_profile m a).all) ≡ windows_of m a
indices_long m a =
    length-map (matrix_profile m a).all index_of ∙ columns_have_places.count (entry (is_allowed m) m a) (windows_of m a)

-- over no more places than a channel may have samples
pub arcs_within : (m : ℕ) (a : Series) (arcs : List ℕ) → min_window ≤ m → length a ≤ max_samples
    → arcs ≡ arcs_of (indices_of (matrix_profile m a).all) → length arcs ≤ max_samples
arcs_within m a arcs shortest within is =
    let indices = indices_of (matrix_profile m a).all in
    omega (
      arith,
      shortest,
      within,
      ap length is,
      length-map-range_with_len (arc_count indices) 0 (length indices),
      indices_long m a,
    )

-- no more than so many pass over a place
pub arcs_few : (m : ℕ) (a : Series) (arcs : List ℕ) → ArcsAreFew → min_window ≤ m → length a ≤ max_samples
    → arcs ≡ arcs_of (indices_of (matrix_profile m a).all) → All (λ count. count ≤ max_samples) arcs
arcs_few m a arcs few shortest within is =
    let indices = indices_of (matrix_profile m a).all in
    let no_more = All-same (λ (count : ℕ). count ≤ length indices) arcs (arcs_of indices) is (few indices) in
    All-weaker (λ (count : ℕ). count ≤ length indices) (λ (count : ℕ). count ≤ max_samples)
    (λ count below. omega (arith, below, shortest, within, indices_long m a)) arcs no_more

-- ---- regimes

-- each of these lies at a place below n
abbrev AreBelow : {C : Type 0} → List C → (C → ℕ) → ℕ → Type 0
AreBelow list place n = All (λ c. place c < n) list

kept_below : {C : Type 0} (found : Option C) (others : List C) (place : C → ℕ) (n : ℕ)
    → ((c : C) → found ≡ Some c → place c < n) → AreBelow others place n → AreBelow (cons_option found others) place n
kept_below None others place n here later = later
kept_below (Some c) others place n here later = All-cons (λ d. place d < n) c others (here c refl) later

-- what is made of the items of a list from their places on
made_below : {A C : Type 0} (make : ℕ × A → Option C) (place : C → ℕ)
    → ((i : ℕ) (x : A) (c : C) → make (i, x) ≡ Some c → place c ≡ i)
    → (i : ℕ) (xs : List A) → AreBelow (filter_map make (enumerate_from i xs)) place (i + length xs)
made_below make place placed i [] = All-nil (λ c. place c < i + 0)
made_below make place placed i (x ∷ xs) =
    let n = i + length (x ∷ xs) in
    let others = filter_map make (enumerate_from (i + 1) xs) in
    let later : AreBelow others place n =
    All-weaker (λ c. place c < i + 1 + length xs) (λ c. place c < n) (λ c below. omega (arith, below)) others
    (made_below make place placed (i + 1) xs) in
    kept_below (make (i, x)) others place n (λ c is. let at = placed i x c is in omega (arith, at)) later

told_at : {C : Type 0} (tell : Ratio → C) (place : C → ℕ) (i : ℕ) (value : Option Ratio) (c : C)
    → ((v : Ratio) → place (tell v) ≡ i) → option_map tell value ≡ Some c → place c ≡ i
told_at tell place i None c all h = absurd (cc h)
told_at tell place i (Some v) c all h = let same : tell v ≡ c = cc in ap place (sym same) ∙ all v

-- the places with a value below one are those of the curve
low_below : (curve : List Ratio) → AreBelow (low_places curve) (λ c. c.place) (length curve)
low_below curve k d inside =
    let below =
    made_below (λ p. option_map (λ (v : Ratio). record d { key = v; place = p.0 }) p.1) (λ c. c.place)
    (λ i value c is.
    told_at (λ (v : Ratio). record d { key = v; place = i }) (λ c. c.place) i value c (λ v. refl) is)
    0 (map below_one curve) k d inside in
    omega (arith, below, length-map curve below_one)

chosen_below : {C : Type 0} (low chosen : List C) (place : C → ℕ) (n : ℕ) (places read : List ℕ)
    → AreBelow low place n → All (Contains low) chosen → places ≡ map place chosen → read ≡ places
    → All (λ at. at < n) read
chosen_below low chosen place n places read below among is lent =
    All-same (λ (at : ℕ). at < n) read (map place chosen) (lent ∙ is)
    (All-map (λ (at : ℕ). at < n) place chosen
    (All-weaker (Contains low) (λ c. place c < n)
    (λ c has. All-contains (λ d. place d < n) low c below has) chosen among))

-- each is a place of the curve
pub regimes_within : (curve : List Ratio) (zone count n : ℕ) (places read : List ℕ)
    → AreRegimes curve zone count places → read ≡ places → length curve ≡ n → All (λ at. at < n) read
regimes_within curve zone count n places read regimes lent long =
    subst (λ (m : ℕ). All (λ at. at < m) read) long
    (chosen_below (low_places curve) regimes.0 (λ c. c.place) (length curve) places read (low_below curve)
    regimes.2.among regimes.1 lent)
