-- What more pairs make of slots of nearest windows: of windows from one on, and of all windows.
use Rattle.std.proofs.Common.{◌≡◌, ◌≢◌, ℕ, zero, suc, ◌+◌, ◌-◌, ◌<◌, ◌≤◌, inl, inr, length, get_or, set, Bool, true}
use Rattle.std.proofs.Common.{false, refl, sym, ap, ◌∙◌, arith, subst}
use Rattle.std.specs.Prelude.{Option, Some, None, ◌||◌, if◌then◌else◌}
use Rattle.std.proofs.Math.ListN.{get_or-eq_default}
use Rattle.std.proofs.lemmas.Bool.{cases_eq}
use Rattle.std.proofs.lemmas.Bool.Decides.{nat_tests}
use Rattle.std.proofs.lemmas.List.{ext_get_or, length-set, get_or-set_same, get_or-set_other, set-get_or}
use Rattle.std.proofs.lemmas.Simd.{length-zip2, get_or-zip2}
use Rattle.mp_nums.specs.declared.nearest.Near.{Near}
use Rattle.mp_nums.specs.Near.{nearer_of}
use Rattle.mp_nums.specs.NearLaws.{nearer_commutes, nearer_associates, nearer_with_none}
use Rattle.mp_defs.specs.Series.{Series, series_of}
use Rattle.mp_defs.specs.Distance.{distance}
use Rattle.mp_defs.specs.Least.{near_at, at_distance, candidate, near}
use Rattle.mp_defs.specs.LeastLaws.{grows_by_one_candidate}
use Rattle.mp_defs.specs.Profile.{nearest, nearest_column, windows_of}
use Rattle.mp_defs.specs.NearestLaws.{nearest_by_choice}
use Rattle.mp_defs.specs.ColumnLaws.{columns_have_places, columns_by_choice}
use Rattle.mp_partial.specs.Values.{Column, merged_column}
use Rattle.mp_partial.specs.MergeLaws.{zip_associates}
use Rattle.mp_partial.specs.Patching.{slots_from}
use Rattle.mp_partial.specs.PatchingLaws.{either_below, length_slots_from, at_slots_from, are_slots_from}
use Rattle.mp_sums.specs.declared.distances.Grid.{Grid}
use Rattle.mp_scans.specs.Offering.{only}
use Rattle.mp_scans.specs.Slots.{Covers}
use Rattle.mp_tiles.specs.Scanning.{taken}
use Rattle.mp_tiles.specs.PatchScanning.{HasTakenFrom}

-- ---- one slot

pub covers_more : (s x : Option Near) (j d : ℕ) → Covers s j d → Covers (nearer_of s x) j d
covers_more s x j d h =
    let c : Option Near = Some (near_at j d) in
    nearer_associates s x c ∙ ap (nearer_of s) (nearer_commutes x c) ∙ sym (nearer_associates s c x)
    ∙ ap (λ y. nearer_of y x) h

near_quiet : (slot : Option Near) (c : ℕ → Option Near) (n : ℕ) → ((j : ℕ) → j < n → nearer_of slot (c j) ≡ slot)
    → nearer_of slot (near c n) ≡ slot
near_quiet slot c zero h = ap (nearer_of slot) (grows_by_one_candidate.no_candidates c) ∙ (nearer_with_none slot).1
near_quiet slot c (suc n) h =
    let one : n + 1 ≡ suc n = omega arith in
    subst (λ k. nearer_of slot (near c k) ≡ slot) one
    (ap (nearer_of slot) (grows_by_one_candidate.one_more c n) ∙ sym (nearer_associates slot (near c n) (c n))
    ∙ ap (λ s. nearer_of s (c n)) (near_quiet slot c n (λ j lt. h j (omega (arith, lt)))) ∙ h n (omega arith))

by_test : (t : Bool) (j : ℕ) (dist : Option ℕ) (slot : Option Near)
    → ((d : ℕ) → t ≡ true → dist ≡ Some d → Covers slot j d)
    → nearer_of slot (if t then at_distance j dist else None) ≡ slot
by_test true j None slot h = (nearer_with_none slot).1
by_test true j (Some d) slot h = h d refl refl
by_test false j dist slot h = (nearer_with_none slot).1

nearest_quiet : (slot : Option Near) (p : ℕ → Bool) (m : ℕ) (a : Series) (i : ℕ) (b : Series)
    → ((j d : ℕ) → j < windows_of m b → p j ≡ true → distance m a i b j ≡ Some d → Covers slot j d)
    → nearer_of slot (nearest m p a i b) ≡ slot
nearest_quiet slot p m a i b h =
    near_quiet slot (candidate p (λ j. distance m a i b j)) (windows_of m b)
    (λ j lt. by_test (p j) j (distance m a i b j) slot (λ d is found. h j d lt is found))

-- ---- slots from a window on

as_long : (p : ℕ → ℕ → Bool) (m : ℕ) (a b : Series) → length (nearest_column p m a b) ≡ windows_of m a
as_long p m a b = columns_have_places.count (λ i. nearest m (p i) a i b) (windows_of m a)

-- what the pairs give window i
at_window : (p : ℕ → ℕ → Bool) (m : ℕ) (a b : Series) (i : ℕ) → i < windows_of m a
    → get_or (nearest_column p m a b) i None ≡ nearest m (p i) a i b
at_window p m a b i lt = columns_have_places.at_place (λ x. nearest m (p x) a x b) (windows_of m a) i lt

no_window : (p : ℕ → ℕ → Bool) (m : ℕ) (a b : Series) (i : ℕ) → windows_of m a ≤ i
    → get_or (nearest_column p m a b) i None ≡ None
no_window p m a b i le = get_or-eq_default (nearest_column p m a b) None (omega (arith, le, as_long p m a b))

pub same_places : (p : ℕ → ℕ → Bool) (m : ℕ) (a b : Series) (first : ℕ) (old new : Column)
    → HasTakenFrom p m a b first old new → length new ≡ length old
same_places p m a b first old new h =
    ap length h ∙ length-zip2 nearer_of old (slots_from (nearest_column p m a b) first (length old))
    (sym (length_slots_from (nearest_column p m a b) first (length old)))

pub at_taken_from : (p : ℕ → ℕ → Bool) (m : ℕ) (a b : Series) (first : ℕ) (old new : Column) (k : ℕ) → k < length old
    → HasTakenFrom p m a b first old new
    → get_or new k None ≡ nearer_of (get_or old k None) (get_or (nearest_column p m a b) (first + k) None)
at_taken_from p m a b first old new k lt h =
    let part : Column = slots_from (nearest_column p m a b) first (length old) in
    ap (λ (c : Column). get_or c k None) h
    ∙ get_or-zip2 nearer_of old part k None None None lt
    (omega (arith, lt, length_slots_from (nearest_column p m a b) first (length old)))
    ∙ ap (nearer_of (get_or old k None)) (at_slots_from (nearest_column p m a b) first (length old) k lt)

-- slots have taken what the pairs give where each of them has
are_taken_from : (p : ℕ → ℕ → Bool) (m : ℕ) (a b : Series) (first : ℕ) (old new : Column) → length new ≡ length old
    → ((k : ℕ) → k < length old
    → get_or new k None ≡ nearer_of (get_or old k None) (get_or (nearest_column p m a b) (first + k) None))
    → HasTakenFrom p m a b first old new
are_taken_from p m a b first old new l h =
    let part : Column = slots_from (nearest_column p m a b) first (length old) in
    let long : length part ≡ length old = length_slots_from (nearest_column p m a b) first (length old) in
    ext_get_or None new (merged_column old part) (l ∙ sym (length-zip2 nearer_of old part (sym long)))
    (λ k lt. h k (omega (arith, lt, l))
    ∙ ap (nearer_of (get_or old k None))
    (sym (at_slots_from (nearest_column p m a b) first (length old) k (omega (arith, lt, l))))
    ∙ sym (get_or-zip2 nearer_of old part k None None None (omega (arith, lt, l)) (omega (arith, lt, l, long))))

pub taken_quiet_from : (p : ℕ → ℕ → Bool) (m : ℕ) (a b : Series) (first : ℕ) (old : Column)
    → ((i j d : ℕ) → first ≤ i → i < first + length old → i < windows_of m a → j < windows_of m b → p i j ≡ true
    → distance m a i b j ≡ Some d → Covers (get_or old (i - first) None) j d)
    → HasTakenFrom p m a b first old old
taken_quiet_from p m a b first old h =
    are_taken_from p m a b first old old refl
    (λ k lt. elim (either_below (first + k) (windows_of m a)) [
      | inl below ↦ let here : first + k - first ≡ k = omega arith in
          sym (ap (nearer_of (get_or old k None)) (at_window p m a b (first + k) below)
          ∙ nearest_quiet (get_or old k None) (p (first + k)) m a (first + k) b
          (λ j d within is found. subst (λ n. Covers (get_or old n None) j d) here
          (h (first + k) j d (omega arith) (omega (arith, lt)) below within is found)))
      | inr behind ↦ sym (ap (nearer_of (get_or old k None)) (no_window p m a b (first + k) behind)
          ∙ (nearer_with_none (get_or old k None)).1)
    ])

pub taken_same_from : (p q : ℕ → ℕ → Bool) (m : ℕ) (a b : Series) (first : ℕ) (old new : Column)
    → HasTakenFrom p m a b first old new
    → ((i j : ℕ) → i < windows_of m a → j < windows_of m b → p i j ≡ q i j) → HasTakenFrom q m a b first old new
taken_same_from p q m a b first old new h same =
    h ∙ ap (λ c. merged_column old (slots_from c first (length old))) (columns_by_choice.same m p q a b same)

at_either : (p q : ℕ → ℕ → Bool) (m : ℕ) (a b : Series) (i : ℕ)
    → nearer_of (get_or (nearest_column p m a b) i None) (get_or (nearest_column q m a b) i None)
    ≡ get_or (nearest_column (λ r c. p r c || q r c) m a b) i None
at_either p q m a b i = elim (either_below i (windows_of m a)) [
  | inl below ↦ ap (λ s. nearer_of s (get_or (nearest_column q m a b) i None)) (at_window p m a b i below)
      ∙ ap (nearer_of (nearest m (p i) a i b)) (at_window q m a b i below)
      ∙ sym (at_window (λ r c. p r c || q r c) m a b i below ∙ nearest_by_choice.either m (p i) (q i) a i b)
  | inr behind ↦ ap (λ s. nearer_of s (get_or (nearest_column q m a b) i None)) (no_window p m a b i behind)
      ∙ no_window q m a b i behind ∙ sym (no_window (λ r c. p r c || q r c) m a b i behind)
]

pub taken_then_from : (p q : ℕ → ℕ → Bool) (m : ℕ) (a b : Series) (first : ℕ) (old mid new : Column)
    → HasTakenFrom p m a b first old mid → HasTakenFrom q m a b first mid new
    → HasTakenFrom (λ i j. p i j || q i j) m a b first old new
taken_then_from p q m a b first old mid new h k =
    let l : length mid ≡ length old = same_places p m a b first old mid h in
    are_taken_from (λ i j. p i j || q i j) m a b first old new (same_places q m a b first mid new k ∙ l)
    (λ n lt. at_taken_from q m a b first mid new n (omega (arith, lt, l)) k
    ∙ ap (λ s. nearer_of s (get_or (nearest_column q m a b) (first + n) None))
    (at_taken_from p m a b first old mid n lt h)
    ∙ nearer_associates (get_or old n None) (get_or (nearest_column p m a b) (first + n) None)
    (get_or (nearest_column q m a b) (first + n) None)
    ∙ ap (nearer_of (get_or old n None)) (at_either p q m a b (first + n)))

-- ---- one pair

no_other_column : (i j c : ℕ) → c ≢ j → only i j i c ≡ false
no_other_column i j c ne = grind (arith, nat_tests)

no_other_row : (i j r c : ℕ) → r ≢ i → only i j r c ≡ false
no_other_row i j r c ne = grind (arith, nat_tests)

pair_is : (i j : ℕ) → only i j i j ≡ true
pair_is i j = grind (arith, nat_tests)

only_here : (i j m : ℕ) (a b : Series) (d : Option ℕ) → i < windows_of m a → j < windows_of m b
    → d ≡ distance m a i b j → get_or (nearest_column (only i j) m a b) i None ≡ at_distance j d
only_here i j m a b d lt lt' is =
    at_window (only i j) m a b i lt
    ∙ nearest_by_choice.only m (only i j i) a i b j lt' (pair_is i j) (λ c ne. no_other_column i j c ne)
    ∙ ap (at_distance j) (sym is)

only_elsewhere : (i j m : ℕ) (a b : Series) (r : ℕ) → r ≢ i → get_or (nearest_column (only i j) m a b) r None ≡ None
only_elsewhere i j m a b r ne = elim (either_below r (windows_of m a)) [
  | inl below ↦ at_window (only i j) m a b r below
      ∙ nearest_by_choice.none m (only i j r) a r b (λ c within. no_other_row i j r c ne)
  | inr behind ↦ no_window (only i j) m a b r behind
]

-- the window takes the other, where it has a slot
pub taken_one_from : (i j m : ℕ) (a b : Series) (first : ℕ) (old new : Column) (d : Option ℕ) → i < windows_of m a
    → j < windows_of m b → d ≡ distance m a i b j → first ≤ i → i < first + length old
    → new ≡ taken old (i - first) (at_distance j d) → HasTakenFrom (only i j) m a b first old new
taken_one_from i j m a b first old new d lt lt' is le within e =
    let slot : Option Near = nearer_of (get_or old (i - first) None) (at_distance j d) in
    are_taken_from (only i j) m a b first old new (ap length e ∙ length-set old (i - first) slot)
    (λ k below. elim (cases_eq k (i - first)) [
      | inl same ↦
          let here : first + k ≡ i = omega (arith, same, le) in
          ap (λ (c : Column). get_or c k None) e
          ∙ ap (λ n. get_or (set old (i - first) slot) n None) same
          ∙ get_or-set_same old (i - first) slot None (omega (arith, le, within))
          ∙ ap (λ n. nearer_of (get_or old n None) (at_distance j d)) (sym same)
          ∙ ap (nearer_of (get_or old k None)) (sym (ap (λ n. get_or (nearest_column (only i j) m a b) n None) here
          ∙ only_here i j m a b d lt lt' is))
      | inr ne ↦
          let other : first + k ≢ i = λ same. ne (omega (arith, same)) in
          ap (λ (c : Column). get_or c k None) e ∙ get_or-set_other old (i - first) k slot None ne
          ∙ sym (ap (nearer_of (get_or old k None)) (only_elsewhere i j m a b (first + k) other)
          ∙ (nearer_with_none (get_or old k None)).1)
    ])

-- a window without a slot takes nothing
pub taken_outside : (i j m : ℕ) (a b : Series) (first : ℕ) (old : Column)
    → (first ≤ i → i < first + length old → ⊥) → HasTakenFrom (only i j) m a b first old old
taken_outside i j m a b first old h =
    are_taken_from (only i j) m a b first old old refl
    (λ k lt. let other : first + k ≢ i =
    λ same. h (omega (arith, same)) (omega (arith, same, lt)) in
    sym (ap (nearer_of (get_or old k None)) (only_elsewhere i j m a b (first + k) other)
    ∙ (nearer_with_none (get_or old k None)).1))

-- ---- slots of all windows

-- the column has taken what the pairs give
abbrev pub HasTaken : (ℕ → ℕ → Bool) → ℕ → Series → Series → Column → Column → Type 0
HasTaken pairs m a b old new = new ≡ merged_column old (nearest_column pairs m a b)

-- the same of the windows of a grid's rows
abbrev pub HasTakenIn : (ℕ → ℕ → Bool) → Grid → Column → Column → Type 0
HasTakenIn pairs grid old new = HasTaken pairs grid.m (series_of grid.rows.now) (series_of grid.columns.now) old new

whole : (p : ℕ → ℕ → Bool) (m : ℕ) (a b : Series) (old : Column) → length old ≡ windows_of m a
    → nearest_column p m a b ≡ slots_from (nearest_column p m a b) 0 (length old)
whole p m a b old l =
    let all = nearest_column p m a b in
    are_slots_from all all 0 (length old) (as_long p m a b ∙ sym l) (λ k _. ap (λ n. get_or all n None) (omega arith))

of_all : (p : ℕ → ℕ → Bool) (m : ℕ) (a b : Series) (old new : Column) → length old ≡ windows_of m a
    → HasTakenFrom p m a b 0 old new → HasTaken p m a b old new
of_all p m a b old new l h = h ∙ ap (merged_column old) (sym (whole p m a b old l))

pub taken_places : (p : ℕ → ℕ → Bool) (m : ℕ) (a b : Series) (old new : Column) → length old ≡ windows_of m a
    → HasTaken p m a b old new → length new ≡ windows_of m a
taken_places p m a b old new l h =
    same_places p m a b 0 old new (h ∙ ap (merged_column old) (whole p m a b old l)) ∙ l

-- the same pairs
pub taken_same : (p q : ℕ → ℕ → Bool) (m : ℕ) (a b : Series) (old new : Column) → HasTaken p m a b old new
    → ((i j : ℕ) → i < windows_of m a → j < windows_of m b → p i j ≡ q i j) → HasTaken q m a b old new
taken_same p q m a b old new h same = h ∙ ap (merged_column old) (columns_by_choice.same m p q a b same)

-- pairs that give nothing
pub taken_quiet : (p : ℕ → ℕ → Bool) (m : ℕ) (a b : Series) (old : Column) → length old ≡ windows_of m a
    → ((i j d : ℕ) → i < windows_of m a → j < windows_of m b → p i j ≡ true → distance m a i b j ≡ Some d
    → Covers (get_or old i None) j d)
    → HasTaken p m a b old old
taken_quiet p m a b old l h =
    of_all p m a b old old l (taken_quiet_from p m a b 0 old
    (λ i j d _ _ lt lt' is found. subst (λ n. Covers (get_or old n None) j d) (omega arith) (h i j d lt lt' is found)))

pub both_ways : (t : Bool) → t ≡ true → t ≡ false → ⊥
both_ways t e f = absurd (cc)

-- no pairs
pub taken_none : (p : ℕ → ℕ → Bool) (m : ℕ) (a b : Series) (old : Column) → length old ≡ windows_of m a
    → ((i j : ℕ) → i < windows_of m a → j < windows_of m b → p i j ≡ false) → HasTaken p m a b old old
taken_none p m a b old l none =
    taken_quiet p m a b old l (λ i j d lt lt' is _. absurd (both_ways (p i j) is (none i j lt lt')))

-- these pairs, and then those
pub taken_then : (p q : ℕ → ℕ → Bool) (m : ℕ) (a b : Series) (old mid new : Column) → HasTaken p m a b old mid
    → HasTaken q m a b mid new → HasTaken (λ i j. p i j || q i j) m a b old new
taken_then p q m a b old mid new h k =
    k ∙ ap (λ c. merged_column c (nearest_column q m a b)) h
    ∙ zip_associates nearer_of nearer_associates old (nearest_column p m a b) (nearest_column q m a b)
    ∙ ap (merged_column old) (sym (columns_by_choice.either m p q a b))

-- one pair
pub taken_one : (i j m : ℕ) (a b : Series) (old new : Column) (d : Option ℕ) → length old ≡ windows_of m a
    → i < windows_of m a → j < windows_of m b → d ≡ distance m a i b j → new ≡ taken old i (at_distance j d)
    → HasTaken (only i j) m a b old new
taken_one i j m a b old new d l lt lt' is e =
    of_all (only i j) m a b old new l (taken_one_from i j m a b 0 old new d lt lt' is (omega arith)
    (omega (arith, l, lt)) (e ∙ ap (λ n. taken old n (at_distance j d)) (omega arith)))

-- nothing is taken where there is nothing
pub taken_nothing : (old : Column) (i : ℕ) → taken old i None ≡ old
taken_nothing old i = ap (set old i) (nearer_with_none (get_or old i None)).1 ∙ set-get_or old i None

-- ---- place by place

here : (p : ℕ → ℕ → Bool) (m : ℕ) (a b : Series) (i : ℕ) → i < windows_of m a
    → get_or (nearest_column p m a b) (0 + i) None ≡ nearest m (p i) a i b
here p m a b i lt = ap (λ n. get_or (nearest_column p m a b) n None) (omega arith) ∙ at_window p m a b i lt

pub at_taken : (p : ℕ → ℕ → Bool) (m : ℕ) (a b : Series) (old new : Column) (i : ℕ) → length old ≡ windows_of m a
    → i < windows_of m a → HasTaken p m a b old new
    → get_or new i None ≡ nearer_of (get_or old i None) (nearest m (p i) a i b)
at_taken p m a b old new i l lt h =
    at_taken_from p m a b 0 old new i (omega (arith, l, lt)) (h ∙ ap (merged_column old) (whole p m a b old l))
    ∙ ap (nearer_of (get_or old i None)) (here p m a b i lt)

pub are_taken : (p : ℕ → ℕ → Bool) (m : ℕ) (a b : Series) (old new : Column) → length old ≡ windows_of m a
    → length new ≡ windows_of m a
    → ((i : ℕ) → i < windows_of m a → get_or new i None ≡ nearer_of (get_or old i None) (nearest m (p i) a i b))
    → HasTaken p m a b old new
are_taken p m a b old new l l' h =
    of_all p m a b old new l (are_taken_from p m a b 0 old new (l' ∙ sym l)
    (λ k lt. let below : k < windows_of m a = omega (arith, lt, l) in
    h k below ∙ ap (nearer_of (get_or old k None)) (sym (here p m a b k below))))

pub taken_stays : (p : ℕ → ℕ → Bool) (m : ℕ) (a b : Series) (old new : Column) (i j d : ℕ) → length old ≡ windows_of m a
    → i < windows_of m a → HasTaken p m a b old new → Covers (get_or old i None) j d → Covers (get_or new i None) j d
taken_stays p m a b old new i j d l lt h covers =
    subst (λ s. Covers s j d) (sym (at_taken p m a b old new i l lt h))
    (covers_more (get_or old i None) (nearest m (p i) a i b) j d covers)
