-- Blocks of successive pairs of a diagonal, which both sides take at once, by residues that tell distances.
use Rattle.std.proofs.Common.{◌≡◌, ℕ, zero, suc, ◌+◌, ◌^◌, ◌<◌, ◌≤◌, inl, inr, List, length, get_or, set, refl, sym}
use Rattle.std.proofs.Common.{ap, ◌∙◌, arith, subst, Bool, true, false, ℤ, pos}
use Rattle.std.specs.Prelude.{Option, Some, None, IsSome, ◌⊎◌, ◌&&◌, if◌then◌else◌, ◌-ℤ◌}
use Rattle.std.proofs.lemmas.Bool.Decides.{nat_tests}
use Rattle.std.proofs.lemmas.Int.{ints}
use Rattle.std.proofs.lemmas.List.{length-set, set-get_or}
use Rattle.mp_nums.specs.declared.nearest.Near.{Near}
use Rattle.mp_nums.specs.NearLaws.{nearer_with_none}
use Rattle.mp_defs.specs.Distance.{distance}
use Rattle.mp_defs.specs.Least.{near_at}
use Rattle.mp_defs.specs.Profile.{windows_of}
use Rattle.mp_defs.specs.SeriesLaws.{series_are_of_samples}
use Rattle.mp_defs.specs.Window.{windows}
use Rattle.mp_partial.specs.Profiled.{Profiled}
use Rattle.mp_partial.specs.Values.{Column, merged_column}
use Rattle.mp_scans.specs.Offering.{only}
use Rattle.mp_scans.specs.declared.plans.Plan.{Plan}
use Rattle.mp_sums.specs.Residues.{item, residue}
use Rattle.mp_sums.specs.ResidueLaws.{residues_tell, small_residue}
use Rattle.mp_sums.specs.declared.residues.TheConstants.{ALWAYS}
use Rattle.mp_tiles.specs.OfferingLaws.{each_to_other}
use Rattle.mp_tiles.specs.Scanning.{HasPlaces, IsScanned, taken}
use Rattle.mp_anytime.specs.Bounds.{AreTaken, IsFor, both_sides, Bounded}
use Rattle.mp_anytime.specs.declared.narrow.Narrow.{Narrow}
use Rattle.mp_anytime.specs.Rounded.{rounded_sum, series_in, whole_in}
use Rattle.mp_anytime.specs.Scanning.{AreFree, is_pair_from}
use Rattle.mp_anytime.specs.Narrow.{HaveFree}
use Rattle.mp_anytime.specs.Told.{IsTold, bounded_by, lanes_taken, slot_at, slot_by, told}
use Rattle.mp_anytime.proofs.Free.{in_one, no_distance, some_distance}
use Rattle.mp_anytime.proofs.Quiet.{is_from, none_taken, one_taken, quiet_pairs, still_for, taken_on}
use Rattle.mp_anytime.proofs.SlotLemmas.{both_long, sides_offered}
use Rattle.mp_anytime.proofs.Told.{told_is}

-- ---- sides

-- both sides of a plan's windows
pub record AreSides (plan : Plan) (left right : Column) : Type 0 where
  pub left_long : length left ≡ windows_of plan.grid.m (series_in plan)
  pub right_long : length right ≡ windows_of plan.grid.m (series_in plan)

pub sides_placed : (plan : Plan) (left right : Column) → AreSides plan left right
    → HasPlaces (windows_of plan.grid.m (series_in plan)) (both_sides left right 0)
sides_placed plan left right h = record {
  all = both_long left right (h.right_long ∙ sym h.left_long) ∙ h.left_long;
  sides = record { left = h.left_long; right = h.right_long };
}

pub sides_for : (plan : Plan) (found : Profiled) → HasPlaces (windows_of plan.grid.m (series_in plan)) found
    → IsFor plan (bounded_by plan found)
sides_for plan found places = record { m_is = refl; shift_is = refl; places = places }

pub placed : (plan : Plan) (w : ℕ) (found : Profiled) → w ≡ windows_of plan.grid.m (series_in plan)
    → HasPlaces w found → HasPlaces (windows_of plan.grid.m (series_in plan)) found
placed plan w found count h = subst (λ n. HasPlaces n found) count h

pub for_these : (narrow : Narrow) (found : Profiled) → HasPlaces (length narrow.free.now) found
    → IsFor narrow.plan (bounded_by narrow.plan found)
for_these narrow found h =
    sides_for narrow.plan found (placed narrow.plan (length narrow.free.now) found narrow.lists.marks.places h)

-- as many as there were
pub still_placed : (plan : Plan) (w : ℕ) (pairs : ℕ → ℕ → Bool) (old new : Profiled)
    → w ≡ windows_of plan.grid.m (series_in plan) → HasPlaces w old
    → AreTaken plan pairs (bounded_by plan old) (bounded_by plan new) → HasPlaces w new
still_placed plan w pairs old new count h t =
    subst (λ n. HasPlaces n new) (sym count)
    (still_for plan pairs (bounded_by plan old) (bounded_by plan new)
    (sides_for plan old (placed plan w old count h)) t).places

-- as many places as there were
pub lanes_long : (slots : Column) (place : ℕ) (found : ℕ → Option Near) (k : ℕ)
    → length (lanes_taken slots place found k) ≡ length slots
lanes_long slots place found zero = refl
lanes_long slots place found (suc k) =
    length-set (lanes_taken slots place found k) (place + k) _ ∙ lanes_long slots place found k

nothing_there : (slots : Column) (place : ℕ) → taken slots place None ≡ slots
nothing_there slots place =
    ap (λ s. set slots place s) (nearer_with_none (get_or slots place None)).1 ∙ set-get_or slots place None

-- ---- a pair

-- of a pair of windows it is known what each gives the other: itself at their distance, or nothing where they have none
abbrev pub IsKnown : Plan → ℕ → ℕ → Option Near → Option Near → Type 0
IsKnown plan i j later earlier =
    ((d : ℕ) × (distance plan.grid.m (series_in plan) i (series_in plan) j ≡ Some d)
    × (later ≡ Some (near_at j d)) × (earlier ≡ Some (near_at i d)))
    ⊎ ((distance plan.grid.m (series_in plan) i (series_in plan) j ≡ None) × (later ≡ None) × (earlier ≡ None))

pair_known : (plan : Plan) (i j : ℕ) (left right : Column) (later earlier : Option Near) → i < j
    → j < windows_of plan.grid.m (series_in plan) → AreSides plan left right → IsKnown plan i j later earlier
    → AreTaken plan (only i j) (bounded_by plan (both_sides left right 0))
    (bounded_by plan (both_sides (taken left j earlier) (taken right i later) 0))
pair_known plan i j left right later earlier order lt h known = record {
  scanned = elim known [
    | inl near ↦
        sides_offered i j near.0 (both_sides left right 0)
        (both_sides (taken left j earlier) (taken right i later) 0) order refl refl
        (ap (taken left j) near.3) (ap (taken right i) near.2) refl refl plan.grid.m (series_in plan)
        (sides_placed plan left right h) lt near.1
    | inr none ↦
        subst (λ (p : Profiled). IsScanned (only i j) plan.grid.m (series_in plan) (both_sides left right 0) p)
        (same (sym (ap (taken left j) none.2 ∙ nothing_there left j))
        (sym (ap (taken right i) none.1 ∙ nothing_there right i)))
        (each_to_other.skipped plan.grid.m (series_in plan) (series_in plan) i j (both_sides left right 0)
        (sides_placed plan left right h, refl) (omega (arith, order, lt)) lt (omega (arith, order)) none.0)
  ];
  same_m = refl;
  same_shift = refl;
}
  where
    same : {l l' r r' : Column} → l ≡ l' → r ≡ r' → both_sides l r 0 ≡ both_sides l' r' 0
    same e f = cc

-- ---- successive pairs of a diagonal

pub block_known : (plan : Plan) (offset row n : ℕ) (left right : Column) (later earlier : ℕ → Option Near)
    → 1 ≤ offset → row + offset + n ≤ windows_of plan.grid.m (series_in plan) → AreSides plan left right
    → ((k : ℕ) → k < n → IsKnown plan (row + k) (row + offset + k) (later k) (earlier k))
    → AreTaken plan (is_pair_from offset row (row + n)) (bounded_by plan (both_sides left right 0))
    (bounded_by plan (both_sides (lanes_taken left (row + offset) earlier n) (lanes_taken right row later n) 0))
block_known plan offset row zero left right later earlier apart within h known =
    let old = bounded_by plan (both_sides left right 0) in
    let first : row ≡ row + 0 = omega arith in
    subst (λ q. AreTaken plan (is_pair_from offset row q) old old) first
    (none_taken plan offset row old (sides_for plan (both_sides left right 0) (sides_placed plan left right h)))
block_known plan offset row (suc n) left right later earlier apart within h known =
    let old = bounded_by plan (both_sides left right 0) in
    let l = lanes_taken left (row + offset) earlier n in
    let r = lanes_taken right row later n in
    let mid = bounded_by plan (both_sides l r 0) in
    let sides : AreSides plan l r = record {
      left_long = lanes_long left (row + offset) earlier n ∙ h.left_long;
      right_long = lanes_long right row later n ∙ h.right_long;
    } in
    let new = bounded_by plan (both_sides (taken l (row + offset + n) (earlier n)) (taken r (row + n) (later n)) 0) in
    let next : row + n + 1 ≡ row + suc n = omega arith in
    taken_on plan offset row (row + n) (row + suc n) old mid new
    (sides_for plan (both_sides left right 0) (sides_placed plan left right h)) (omega arith) (omega arith)
    (block_known plan offset row n left right later earlier apart (omega (arith, within)) h
    (λ k lt. known k (omega (arith, lt))))
    (subst (λ q. AreTaken plan (is_pair_from offset (row + n) q) mid new) next
    (one_taken plan offset (row + n) (row + offset + n) mid new
    (sides_for plan (both_sides l r 0) (sides_placed plan l r sides)) (omega arith)
    (pair_known plan (row + n) (row + offset + n) l r (later n) (earlier n) (omega (arith, apart))
    (omega (arith, within)) sides (known n (omega arith)))))

-- ---- residues that tell

pub is_told : (d : ℕ) → d < 2 ^ 31 → IsTold (residue d)
is_told d lt =
    let small : residue d ≡ pos d -ℤ pos 2147483647 = small_residue d (omega (arith, lt)) in
    record { least = omega (arith, ints, small, lt); most = omega (arith, ints, small, lt) }

told_of : (d : ℕ) → d < 2 ^ 31 → told (residue d) ≡ d
told_of d lt =
    let small : residue d ≡ pos d -ℤ pos 2147483647 = small_residue d (omega (arith, lt)) in
    let is = told_is (residue d) (is_told d lt) in
    pos_same (told (residue d)) d (omega (arith, ints, small, is))
  where
    pos_same : (x y : ℕ) → pos x ≡ pos y → x ≡ y
    pos_same x y e = omega (arith, ints, e)

always_is_told : IsTold ALWAYS
always_is_told = record { least = omega (arith, ints); most = omega (arith, ints) }

near_told : (d start : ℕ) → d < 2 ^ 31 → slot_by (residue d) start ≡ Some (near_at start d)
near_told d start lt = ap (λ s. slot_at s start) (told_of d lt) ∙ there d start lt
  where
    there : (d s : ℕ) → d < 2 ^ 31 → slot_at d s ≡ Some (near_at s d)
    there d s lt = grind (arith, nat_tests)

named : (x : Option ℕ) → IsSome x → (d : ℕ) × (x ≡ Some d)
named None h = absurd (cc)
named (Some d) h = (d, refl)

-- of a pair's residue, or the greatest one where a sample is missing
pub residue_known : (plan : Plan) (free : List Bool) (i j : ℕ) (r : ℤ) → plan.is_exact ≡ true
    → plan.grid.columns.now ≡ plan.grid.rows.now → AreFree plan.grid.m (series_in plan) free → i < j
    → j < windows_of plan.grid.m (series_in plan)
    → r ≡ (if get_or free i false && get_or free j false then residue (whole_in plan i j) else ALWAYS)
    → IsTold r × IsKnown plan i j (slot_by r j) (slot_by r i)
residue_known plan free i j r exact own frees order lt is =
    by_test (get_or free i false && get_or free j false) refl is
  where
    by_test : (t : Bool) → (get_or free i false && get_or free j false) ≡ t
        → r ≡ (if t then residue (whole_in plan i j) else ALWAYS)
        → IsTold r × IsKnown plan i j (slot_by r j) (slot_by r i)
    by_test true both at =
        let m = plan.grid.m in
        let rows = plan.grid.rows.now in
        let a = series_in plan in
        let there = named (distance m a i a j) (some_distance m a free i j frees (omega (arith, order, lt)) lt both) in
        let d = there.0 in
        let tells = plan.exact exact in
        let count : windows_of m a ≡ windows (length rows) m = series_are_of_samples.windows_are m rows in
        let small : d < 2 ^ 31 =
        tells.few_bits.each i j d (omega (arith, count, order, lt, plan.some_samples))
        (omega (arith, count, lt, plan.some_samples, ap length own))
        (in_one m i j rows plan.grid.columns.now (Some d) own there.1) in
        let same : r ≡ residue d =
        at ∙ ap (λ s. residue (rounded_sum m s a i j)) tells.unrounded
        ∙ residues_tell.unrounded m a i a j d there.1 in (
          subst IsTold (sym same) (is_told d small),
          inl (
            d,
            there.1,
            ap (λ z. slot_by z j) same ∙ near_told d j small,
            ap (λ z. slot_by z i) same ∙ near_told d i small,
          ),
        )
    by_test false both at = (
      subst IsTold (sym at) always_is_told,
      inr (
        no_distance plan.grid.m (series_in plan) free i j frees (omega (arith, order, lt)) lt both,
        ap (λ z. slot_by z j) at,
        ap (λ z. slot_by z i) at,
      ),
    )

-- the same of successive pairs that lack no sample
pub free_known : (plan : Plan) (free : List Bool) (row offset : ℕ) (rs : List ℤ) → plan.is_exact ≡ true
    → plan.grid.columns.now ≡ plan.grid.rows.now → AreFree plan.grid.m (series_in plan) free → 1 ≤ offset
    → row + offset + length rs ≤ length free → HaveFree free offset row (row + length rs)
    → ((k : ℕ) → k < length rs → item rs k ≡ residue (whole_in plan (row + k) (row + k + offset)))
    → (k : ℕ) → k < length rs
    → IsTold (item rs k)
    × IsKnown plan (row + k) (row + offset + k) (slot_by (item rs k) (row + offset + k)) (slot_by (item rs k) (row + k))
free_known plan free row offset rs exact own frees apart within have are k lt =
    let there : row + k + offset ≡ row + offset + k = omega arith in
    let both = have (row + k) (omega arith) (omega (arith, lt)) in
    residue_known plan free (row + k) (row + offset + k) (item rs k) exact own frees (omega (arith, apart))
    (omega (arith, lt, within, frees.places))
    (subst (λ q. item rs k
    ≡ (if get_or free (row + k) false && get_or free q false then residue (whole_in plan (row + k) q) else ALWAYS))
    there
    (by_both (get_or free (row + k) false) (get_or free (row + k + offset) false) (item rs k)
    (residue (whole_in plan (row + k) (row + k + offset))) both.0 both.1 (are k lt)))
  where
    by_both : (s t : Bool) (x y : ℤ) → s ≡ true → t ≡ true → x ≡ y → x ≡ (if s && t then y else ALWAYS)
    by_both true true x y e f same = same
    by_both true false x y e f same = absurd (cc)
    by_both false t x y e f same = absurd (cc)

-- a stretch of pairs that lack samples gives nothing
pub stretch_without : (plan : Plan) (free : List Bool) (row turn offset : ℕ) (found : Bounded) → IsFor plan found
    → AreFree plan.grid.m (series_in plan) free → 1 ≤ offset → turn + offset ≤ length free
    → ((k : ℕ) → row ≤ k → k < turn → get_or free k false ≡ get_or free row false)
    → ((k : ℕ) → row ≤ k → k < turn → get_or free (k + offset) false ≡ get_or free (row + offset) false)
    → (get_or free row false && get_or free (row + offset) false) ≡ false
    → found.profile.all ≡ merged_column found.profile.left found.profile.right
    → AreTaken plan (is_pair_from offset row turn) found found
stretch_without plan free row turn offset found is frees apart within rows columns lack lesser = record {
  scanned = quiet_pairs (is_pair_from offset row turn) plan.grid.m (series_in plan) found.profile is.places lesser
      (λ i j e. let at = is_from offset row turn i j e in omega (arith, at.column, apart))
      (λ i j d e there.
      let at = is_from offset row turn i j e in
      let none = no_distance plan.grid.m (series_in plan) free i j frees
      (omega (arith, at.before, at.column, within, frees.places, apart))
      (omega (arith, at.before, at.column, within, frees.places))
      (subst (λ q. (get_or free i false && get_or free q false) ≡ false) at.column
      (alike (get_or free i false) (get_or free row false) (get_or free (i + offset) false)
      (get_or free (row + offset) false) (rows i at.behind at.before) (columns i at.behind at.before) lack)) in
      absurd (clash d (sym there ∙ none)));
  same_m = refl;
  same_shift = refl;
}
  where
    alike : (s s' t t' : Bool) → s ≡ s' → t ≡ t' → (s' && t') ≡ false → (s && t) ≡ false
    alike s s' t t' e f h = cc

    clash : (d : ℕ) → Some d ≡ None → ⊥
    clash d e = absurd (cc)
