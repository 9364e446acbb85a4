-- Pairs that give nothing, and pairs of a diagonal one after another.
use Rattle.std.proofs.Common.{◌≡◌, ℕ, ◌+◌, ◌-◌, ◌<◌, ◌≤◌, inl, inr, List, length, get_or, set}
use Rattle.std.proofs.Common.{refl, sym, ap, ◌∙◌}
use Rattle.std.proofs.Common.{arith, subst, Bool, true, false, ℤ, pos, replicate}
use Rattle.std.specs.Prelude.{◌<ℤ◌, ◌≤ℤ◌, Option, Some, None, ◌||◌, ◌⊎◌}
use Rattle.std.specs.Int.{bit_at}
use Rattle.std.proofs.lemmas.Bool.{cases_eq, cases_lt}
use Rattle.std.proofs.lemmas.Bool.Decides.{nat_tests}
use Rattle.std.proofs.lemmas.Int.{ints}
use Rattle.std.proofs.lemmas.List.{get_or-replicate, get_or-set_same, get_or-set_other, length-set, length-replicate}
use Rattle.std.proofs.lemmas.Simd.{length-zip2, get_or-zip2}
use Rattle.mp_nums.specs.declared.nearest.Near.{Near}
use Rattle.mp_nums.specs.Near.{nearer_of}
use Rattle.mp_nums.specs.NearLaws.{nearer_commutes}
use Rattle.mp_defs.specs.Series.{Series}
use Rattle.mp_defs.specs.Distance.{distance}
use Rattle.mp_defs.specs.Least.{near_at}
use Rattle.mp_defs.specs.Profile.{windows_of}
use Rattle.mp_sums.specs.Sums.{numbers_of}
use Rattle.mp_sums.specs.Rounding.{threshold}
use Rattle.mp_sums.specs.Residues.{item, limit_within, residue}
use Rattle.mp_sums.specs.ResidueLaws.{above_and_within, no_residue_above, up_to}
use Rattle.mp_sums.specs.RoundingLaws.{rounded_sums_are_near}
use Rattle.mp_sums.specs.SumLaws.{distances_are_sums}
use Rattle.mp_partial.specs.Profiled.{Profiled}
use Rattle.mp_partial.specs.Values.{Column, merged_column, offered}
use Rattle.mp_scans.specs.Offering.{only}
use Rattle.mp_scans.specs.Slots.{Covers}
use Rattle.mp_scans.specs.declared.plans.Plan.{Plan}
use Rattle.mp_tiles.specs.LimitLaws.{each_limits}
use Rattle.mp_tiles.specs.OfferingLaws.{each_to_other, scanned_pair}
use Rattle.mp_tiles.specs.Scanning.{HasPlaces, IsScanned}
use Rattle.mp_tiles.specs.TakenLaws.{covers_more}
use Rattle.mp_anytime.specs.Scanning.{IsPairTaken, is_pair_done, is_pair_from, starts_behind}
use Rattle.mp_anytime.specs.Rounded.{core_in, rounded_sum, series_in, whole_in}
use Rattle.mp_anytime.specs.Bounds.{AreBounds, AreTaken, Bounded, IsBound, IsFor, IsQuiet}
use Rattle.mp_anytime.proofs.Moves.{core_within}

-- ---- bounds

far : (near : Near) (index d : ℕ) → near.dist.0 < d → Covers (Some near) index d
far near index d lt = grind (arith, nat_tests)

-- the limit of what stands in a slot
pub limit_is_bound : (m shift : ℕ) (near : Near) (bound : ℤ) → bound ≡ limit_within m shift near.dist.0
    → IsBound m shift (Some near) bound
limit_is_bound m shift near bound e = record {
  above = λ r above. record {
    nothing = λ a i j d sum index there part is. far near index d (farther r above a i j d sum there part is);
  };
}
  where
    farther : (r : ℤ) → bound <ℤ r → (a : Series) (i j d sum : ℕ) → distance m a i a j ≡ Some d
        → sum ≤ rounded_sum m shift a i j → r ≡ residue sum → near.dist.0 < d
    farther r above a i j d sum there part is = elim (cases_lt near.dist.0 d) [
      | inl lt ↦ lt
      | inr le ↦
          let whole : rounded_sum m shift a i j ≤ threshold m shift near.dist.0 =
          rounded_sums_are_near m shift near.dist.0 (numbers_of a) i (numbers_of a) j
          (omega (arith, le, distances_are_sums m a i a j d there)) in
          absurd (above_and_within (residue sum) bound (subst (λ z. bound <ℤ z) is above)
          (subst (λ z. residue sum ≤ℤ z) (sym e)
          (up_to sum (threshold m shift near.dist.0) (omega (arith, part, whole)))))
    ]

-- no residue exceeds the greatest number
pub always_bound : (m shift : ℕ) (slot : Option Near) (bound : ℤ) → bound ≡ pos 2147483647
    → IsBound m shift slot bound
always_bound m shift slot bound e = record {
  above = λ r above. record {
    nothing = λ a i j d sum index there part is. absurd (above_and_within (residue sum) (pos 2147483647)
        (subst (λ z. z <ℤ residue sum) e (subst (λ z. bound <ℤ z) is above)) (no_residue_above sum));
  };
}

-- a nearer window keeps to it
pub bound_stays : (m shift : ℕ) (slot found : Option Near) (bound : ℤ) → IsBound m shift slot bound
    → IsBound m shift (nearer_of slot found) bound
bound_stays m shift slot found bound h = record {
  above = λ r above. record {
    nothing = λ a i j d sum index there part is.
        covers_more slot found index d ((h.above r above).nothing a i j d sum index there part is);
  };
}

pub always_bounds : (m shift : ℕ) (slots : Column) (n : ℕ) → n ≡ length slots
    → AreBounds m shift slots (replicate n (pos 2147483647))
always_bounds m shift slots n e = record {
  places = length-replicate {A = ℤ} n (pos 2147483647) ∙ e;
  each = λ k lt. always_bound m shift (get_or slots k None) (item (replicate n (pos 2147483647)) k)
      (get_or-replicate n k (pos 2147483647) (pos 0) (omega (arith, lt, e)));
}

pub merged_bounds : (m shift : ℕ) (slots others : Column) (bounds : List ℤ) → length others ≡ length slots
    → AreBounds m shift slots bounds → AreBounds m shift (merged_column slots others) bounds
merged_bounds m shift slots others bounds long h =
    let same : length (merged_column slots others) ≡ length slots = length-zip2 nearer_of slots others (sym long) in
    record {
      places = h.places ∙ sym same;
      each = λ k lt.
          subst (λ s. IsBound m shift s (item bounds k))
          (sym (get_or-zip2 nearer_of slots others k None None None (omega (arith, lt, same))
          (omega (arith, lt, same, long))))
          (bound_stays m shift (get_or slots k None) (get_or others k None) (item bounds k)
          (h.each k (omega (arith, lt, same))));
    }

-- a slot and its bound are put
pub bounds_put : (m shift at : ℕ) (slots : Column) (bounds : List ℤ) (slot : Option Near) (bound : ℤ)
    → at < length slots → AreBounds m shift slots bounds → IsBound m shift slot bound
    → AreBounds m shift (set slots at slot) (set bounds at bound)
bounds_put m shift at slots bounds slot bound lt h is = record {
  places = length-set bounds at bound ∙ h.places ∙ sym (length-set slots at slot);
  each = λ k within. elim (cases_eq k at) [
    | inl same ↦
        subst (λ q. IsBound m shift (get_or (set slots at slot) q None) (item (set bounds at bound) q)) (sym same)
        (subst (λ s. IsBound m shift s (item (set bounds at bound) at)) (sym (get_or-set_same slots at slot None lt))
        (subst (IsBound m shift slot)
        (sym (get_or-set_same bounds at bound (pos 0) (omega (arith, lt, h.places)))) is))
    | inr other ↦
        subst (λ s. IsBound m shift s (item (set bounds at bound) k))
        (sym (get_or-set_other slots at k slot None other))
        (subst (IsBound m shift (get_or slots k None)) (sym (get_or-set_other bounds at k bound (pos 0) other))
        (h.each k (omega (arith, within, length-set slots at slot))))
  ];
}

-- a window is offered, and the slot's bound is found anew
pub bounds_offered : (m shift at : ℕ) (slots new : Column) (bounds changed : List ℤ) (near : Near)
    (slot : Option Near)
    (bound : ℤ) → at < length slots → AreBounds m shift slots bounds → new ≡ offered slots at near
    → slot ≡ get_or new at None → IsBound m shift slot bound → changed ≡ set bounds at bound
    → AreBounds m shift new changed
bounds_offered m shift at slots new bounds changed near slot bound lt h new_is slot_is is changed_is =
    let nearer = nearer_of (get_or slots at None) (Some near) in
    subst (AreBounds m shift new) (sym changed_is)
    (subst (λ (v : Column). AreBounds m shift v (set bounds at bound)) (sym new_is)
    (bounds_put m shift at slots bounds nearer bound lt h
    (subst (λ s. IsBound m shift s bound)
    (slot_is ∙ ap (λ (v : Column). get_or v at None) new_is ∙ get_or-set_same slots at nearer None lt) is)))

-- two windows are offered to each other
pub pair_offered : (i j dist : ℕ) (old new : Profiled) → i < j
    → new.all ≡ offered (offered old.all i (near_at j dist)) j (near_at i dist)
    → new.left ≡ offered old.left j (near_at i dist) → new.right ≡ offered old.right i (near_at j dist)
    → new.room ≡ old.room → new.spare ≡ old.spare → IsPairTaken i j true dist old new
pair_offered i j dist old new order all left right room spare = λ m a places within is.
    scanned_pair i j m a old new (Some dist) places order within (sym is) all left right room spare

-- ---- residues that tell of slots

pub quiet_at : (m shift : ℕ) (slots : Column) (bounds : List ℤ) (place : ℕ) (bound r : ℤ)
    → AreBounds m shift slots bounds
    → place < length slots → item bounds place ≤ℤ bound → bound <ℤ r
    → IsQuiet m shift (get_or slots place None) r
quiet_at m shift slots bounds place bound r h lt le below =
    (h.each place lt).above r (below_then (item bounds place) bound r le below)
  where
    below_then : (x y z : ℤ) → x ≤ℤ y → y <ℤ z → x <ℤ z
    below_then x y z le lt = omega (arith, ints, le, lt)

pub quiet_from : (m shift : ℕ) (slots : Column) (bounds : List ℤ) (place : ℕ) (bound r : ℤ)
    → AreBounds m shift slots bounds → place + 32 ≤ length slots
    → ((k : ℕ) → k < 32 → item bounds (place + k) ≤ℤ bound) → bound <ℤ r
    → (k : ℕ) → k < 32 → IsQuiet m shift (get_or slots (place + k) None) r
quiet_from m shift slots bounds place bound r h within most below k lt =
    quiet_at m shift slots bounds (place + k) bound r h (omega (arith, within, lt)) (most k lt) below

-- the same by another name of the number
pub below_by : (x x' r r' : ℤ) → x' ≡ x → r' ≡ r → x' <ℤ r' → x <ℤ r
below_by x x' r r' e f lt = subst (λ z. z <ℤ r) e (subst (λ z. x' <ℤ z) f lt)

pub at_most : (x y z z' : ℤ) → x ≡ y → y ≤ℤ z → z ≡ z' → x ≤ℤ z'
at_most x y z z' e le f = omega (arith, ints, e, le, f)

pub at_most_same : (x y : ℤ) → x ≡ y → y ≤ℤ x
at_most_same x y e = omega (arith, ints, e)

-- ---- pairs that give nothing

pub quiet_pairs : (pairs : ℕ → ℕ → Bool) (m : ℕ) (a : Series) (p : Profiled) → HasPlaces (windows_of m a) p
    → p.all ≡ merged_column p.left p.right → ((i j : ℕ) → pairs i j ≡ true → i < j)
    → ((i j d : ℕ) → pairs i j ≡ true → distance m a i a j ≡ Some d
    → Covers (get_or p.right i None) j d × Covers (get_or p.left j None) i d)
    → IsScanned pairs m a p p
quiet_pairs pairs m a p places lesser order quiet =
    each_limits.quiet m a a pairs p (places, refl) (λ i j is. let lt = order i j is in omega (arith, lt))
    (λ i j d lt lt' is there.
    let both = quiet i j d is there in (
      (both.0, of_right i j d lt both.0),
      (both.1, of_left j i d lt' both.1),
    ))
  where
    at_all : (i : ℕ) → i < windows_of m a
        → get_or p.all i None ≡ nearer_of (get_or p.left i None) (get_or p.right i None)
    at_all i lt =
        ap (λ (c : Column). get_or c i None) lesser
        ∙ get_or-zip2 nearer_of p.left p.right i None None None (omega (arith, lt, places.sides.left))
        (omega (arith, lt, places.sides.right))

    of_left : (i j d : ℕ) → i < windows_of m a → Covers (get_or p.left i None) j d
        → Covers (get_or p.all i None) j d
    of_left i j d lt h =
        subst (λ s. Covers s j d) (sym (at_all i lt))
        (covers_more (get_or p.left i None) (get_or p.right i None) j d h)

    of_right : (i j d : ℕ) → i < windows_of m a → Covers (get_or p.right i None) j d
        → Covers (get_or p.all i None) j d
    of_right i j d lt h =
        subst (λ s. Covers s j d)
        (sym (at_all i lt ∙ nearer_commutes (get_or p.left i None) (get_or p.right i None)))
        (covers_more (get_or p.right i None) (get_or p.left i None) j d h)

-- where they lie
pub record IsFrom (offset first end i j : ℕ) : Type 0 where
  pub column : i + offset ≡ j
  pub behind : first ≤ i
  pub before : i < end

pub is_from : (offset first end i j : ℕ) → is_pair_from offset first end i j ≡ true → IsFrom offset first end i j
is_from offset first end i j e = record {
  column = grind (arith, nat_tests);
  behind = grind (arith, nat_tests);
  before = grind (arith, nat_tests);
}

record IsOnly (i j r c : ℕ) : Type 0 where
  row : r ≡ i
  column : c ≡ j

is_only : (i j r c : ℕ) → only i j r c ≡ true → IsOnly i j r c
is_only i j r c e = record {
  row = grind (arith, nat_tests);
  column = grind (arith, nat_tests);
}

-- a pair
pub quiet_pair : (plan : Plan) (row column : ℕ) (r : ℤ) (found : Bounded) → IsFor plan found → row < column
    → column < windows_of plan.grid.m (series_in plan) → r ≡ residue (whole_in plan row column)
    → IsQuiet found.m found.shift (get_or found.profile.right row None) r
    → IsQuiet found.m found.shift (get_or found.profile.left column None) r
    → found.profile.all ≡ merged_column found.profile.left found.profile.right
    → AreTaken plan (only row column) found found
quiet_pair plan row column r found is order lt here right left lesser = record {
  scanned = quiet_pairs (only row column) plan.grid.m (series_in plan) found.profile is.places lesser
      (λ i j e. let at = is_only row column i j e in omega (arith, at.row, at.column, order))
      (λ i j d e there.
      let at = is_only row column i j e in
      let found_there : distance plan.grid.m (series_in plan) row (series_in plan) column ≡ Some d =
      subst (λ q. distance plan.grid.m (series_in plan) row (series_in plan) q ≡ Some d) at.column
      (subst (λ q. distance plan.grid.m (series_in plan) q (series_in plan) j ≡ Some d) at.row there) in (
        subst (λ q. Covers (get_or found.profile.right i None) q d) (sym at.column)
            (subst (λ q. Covers (get_or found.profile.right q None) column d) (sym at.row)
            ((quiet_by (get_or found.profile.right row None) right).nothing (series_in plan) row column d
            (whole_in plan row column) column found_there (omega arith) here)),
        subst (λ q. Covers (get_or found.profile.left j None) q d) (sym at.row)
            (subst (λ q. Covers (get_or found.profile.left q None) row d) (sym at.column)
            ((quiet_by (get_or found.profile.left column None) left).nothing (series_in plan) row column d
            (whole_in plan row column) row found_there (omega arith) here)),
      ));
  same_m = refl;
  same_shift = refl;
}
  where
    quiet_by : (slot : Option Near) → IsQuiet found.m found.shift slot r
        → IsQuiet plan.grid.m plan.rounding.shift slot r
    quiet_by slot q =
        subst (λ n. IsQuiet n plan.rounding.shift slot r) is.m_is
        (subst (λ n. IsQuiet found.m n slot r) is.shift_is q)

-- successive pairs of a diagonal, each by the residue of a part of its sum
quiet_parts : (plan : Plan) (row offset : ℕ) (part : ℕ → ℕ) (r : ℕ → ℤ) (found : Bounded) → IsFor plan found
    → 1 ≤ offset → ((k : ℕ) → k < 32 → part k ≤ whole_in plan (row + k) (row + offset + k))
    → ((k : ℕ) → k < 32 → r k ≡ residue (part k))
    → ((k : ℕ) → k < 32 → IsQuiet found.m found.shift (get_or found.profile.right (row + k) None) (r k))
    → ((k : ℕ) → k < 32 → IsQuiet found.m found.shift (get_or found.profile.left (row + offset + k) None) (r k))
    → found.profile.all ≡ merged_column found.profile.left found.profile.right
    → AreTaken plan (is_pair_from offset row (row + 32)) found found
quiet_parts plan row offset part r found is apart within here right left lesser = record {
  scanned = quiet_pairs (is_pair_from offset row (row + 32)) plan.grid.m a found.profile is.places lesser
      (λ i j e. let at = is_from offset row (row + 32) i j e in omega (arith, at.column, apart))
      (λ i j d e there.
      let at = is_from offset row (row + 32) i j e in
      let k = i - row in
      let lt : k < 32 = omega (arith, at.before, at.behind) in
      let i_is : row + k ≡ i = omega (arith, at.behind) in
      let j_is : row + offset + k ≡ j = omega (arith, at.behind, at.column) in
      let less : part k ≤ whole_in plan i j =
      subst (λ q. part k ≤ whole_in plan i q) j_is
      (subst (λ q. part k ≤ whole_in plan q (row + offset + k)) i_is (within k lt)) in (
        subst (λ q. Covers (get_or found.profile.right q None) j d) i_is
            ((quiet_by (get_or found.profile.right (row + k) None) (r k) (right k lt)).nothing a i j d
            (part k) j there less (here k lt)),
        subst (λ q. Covers (get_or found.profile.left q None) i d) j_is
            ((quiet_by (get_or found.profile.left (row + offset + k) None) (r k) (left k lt)).nothing a i j d
            (part k) i there less (here k lt)),
      ));
  same_m = refl;
  same_shift = refl;
}
  where
    a : Series
    a = series_in plan

    quiet_by : (slot : Option Near) (r : ℤ) → IsQuiet found.m found.shift slot r
        → IsQuiet plan.grid.m plan.rounding.shift slot r
    quiet_by slot r q =
        subst (λ n. IsQuiet n plan.rounding.shift slot r) is.m_is
        (subst (λ n. IsQuiet found.m n slot r) is.shift_is q)

-- a block, by the residue of its core
pub quiet_block : (plan : Plan) (row offset : ℕ) (r : ℤ) (found : Bounded) → IsFor plan found → 1 ≤ offset
    → r ≡ residue (core_in plan row (row + offset))
    → ((k : ℕ) → k < 32 → IsQuiet found.m found.shift (get_or found.profile.right (row + k) None) r)
    → ((k : ℕ) → k < 32 → IsQuiet found.m found.shift (get_or found.profile.left (row + offset + k) None) r)
    → found.profile.all ≡ merged_column found.profile.left found.profile.right
    → AreTaken plan (is_pair_from offset row (row + 32)) found found
quiet_block plan row offset r found is apart here right left lesser =
    quiet_parts plan row offset (λ _. core_in plan row (row + offset)) (λ _. r) found is apart
    (λ k lt. core_within plan.grid.m plan.rounding.shift (series_in plan) row (row + offset) k lt) (λ _ _. here) right
    left lesser

-- the same by the residues of its pairs
pub quiet_lanes : (plan : Plan) (row offset : ℕ) (rs : List ℤ) (found : Bounded) → IsFor plan found → 1 ≤ offset
    → ((k : ℕ) → k < 32 → item rs k ≡ residue (whole_in plan (row + k) (row + k + offset)))
    → ((k : ℕ) → k < 32 → IsQuiet found.m found.shift (get_or found.profile.right (row + k) None) (item rs k))
    → ((k : ℕ) → k < 32 → IsQuiet found.m found.shift (get_or found.profile.left (row + offset + k) None) (item rs k))
    → found.profile.all ≡ merged_column found.profile.left found.profile.right
    → AreTaken plan (is_pair_from offset row (row + 32)) found found
quiet_lanes plan row offset rs found is apart are right left lesser =
    quiet_parts plan row offset (λ k. whole_in plan (row + k) (row + offset + k)) (item rs) found is apart
    (λ k lt. omega arith) (λ k lt. are k lt ∙ ap (λ q. residue (whole_in plan (row + k) q)) (omega arith)) right left
    lesser

some_same : (x y : ℕ) → Some x ≡ Some y → x ≡ y
some_same x y e = cc

-- a pair at a distance that is known
pub pair_quiet : (i j dist : ℕ) (p : Profiled) → i < j → p.all ≡ merged_column p.left p.right
    → Covers (get_or p.right i None) j dist → Covers (get_or p.left j None) i dist → IsPairTaken i j true dist p p
pair_quiet i j dist p order lesser right left = λ m a places within is.
    quiet_pairs (only i j) m a p places lesser
    (λ r c e. let at = is_only i j r c e in omega (arith, at.row, at.column, order))
    (λ r c d e there.
    let at = is_only i j r c e in
    let here : distance m a i a j ≡ Some d =
    subst (λ q. distance m a i a q ≡ Some d) at.column (subst (λ q. distance m a q a c ≡ Some d) at.row there) in
    let same : dist ≡ d = some_same dist d (sym is ∙ here) in (
      subst (λ q. Covers (get_or p.right r None) c q) same
          (subst (λ q. Covers (get_or p.right r None) q dist) (sym at.column)
          (subst (λ q. Covers (get_or p.right q None) j dist) (sym at.row) right)),
      subst (λ q. Covers (get_or p.left c None) r q) same
          (subst (λ q. Covers (get_or p.left c None) q dist) (sym at.row)
          (subst (λ q. Covers (get_or p.left q None) i dist) (sym at.column) left)),
    ))

-- ---- pairs one after another

pub still_for : (plan : Plan) (pairs : ℕ → ℕ → Bool) (old new : Bounded) → IsFor plan old
    → AreTaken plan pairs old new
    → IsFor plan new
still_for plan pairs old new is t = record {
  m_is = t.same_m ∙ is.m_is;
  shift_is = t.same_shift ∙ is.shift_is;
  places = (each_to_other.still_fits plan.grid.m (series_in plan) (series_in plan) pairs old.profile new.profile
      (is.places, refl) t.scanned).0;
}

pub none_taken : (plan : Plan) (offset first : ℕ) (found : Bounded) → IsFor plan found
    → AreTaken plan (is_pair_from offset first first) found found
none_taken plan offset first found is = record {
  scanned = each_to_other.none plan.grid.m (series_in plan) (series_in plan) (is_pair_from offset first first)
      found.profile (is.places, refl) (λ i j. never offset first i j);
  same_m = refl;
  same_shift = refl;
}
  where
    never : (offset first i j : ℕ) → is_pair_from offset first first i j ≡ false
    never offset first i j = grind (arith, nat_tests)

-- these, and then those behind them
pub taken_on : (plan : Plan) (offset first end last : ℕ) (old mid new : Bounded) → IsFor plan old → first ≤ end
    → end ≤ last → AreTaken plan (is_pair_from offset first end) old mid
    → AreTaken plan (is_pair_from offset end last) mid new → AreTaken plan (is_pair_from offset first last) old new
taken_on plan offset first end last old mid new is le le' s t = record {
  scanned = each_to_other.same plan.grid.m (series_in plan) (series_in plan)
      (λ i j. is_pair_from offset first end i j || is_pair_from offset end last i j) (is_pair_from offset first last)
      old.profile new.profile (is.places, refl)
      (each_to_other.both plan.grid.m (series_in plan) (series_in plan) (is_pair_from offset first end)
      (is_pair_from offset end last) old.profile mid.profile new.profile s.scanned t.scanned)
      (λ i j _ _. joined offset first end last i j le le');
  same_m = t.same_m ∙ s.same_m;
  same_shift = t.same_shift ∙ s.same_shift;
}
  where
    joined : (offset first end last i j : ℕ) → first ≤ end → end ≤ last
        → (is_pair_from offset first end i j || is_pair_from offset end last i j)
        ≡ is_pair_from offset first last i j
    joined offset first end last i j le le' = grind (arith, nat_tests)

-- a pair alone
pub one_taken : (plan : Plan) (offset row column : ℕ) (old new : Bounded) → IsFor plan old
    → row + offset ≡ column
    → AreTaken plan (only row column) old new → AreTaken plan (is_pair_from offset row (row + 1)) old new
one_taken plan offset row column old new is e t = record {
  scanned = each_to_other.same plan.grid.m (series_in plan) (series_in plan) (only row column)
      (is_pair_from offset row (row + 1)) old.profile new.profile (is.places, refl) t.scanned
      (λ i j _ _. alone offset row column i j e);
  same_m = t.same_m;
  same_shift = t.same_shift;
}
  where
    alone : (offset row column i j : ℕ) → row + offset ≡ column
        → only row column i j ≡ is_pair_from offset row (row + 1) i j
    alone offset row column i j e = grind (arith, nat_tests)

-- all that start so far apart
pub all_taken : (plan : Plan) (offset end : ℕ) (old new : Bounded) → IsFor plan old
    → windows_of plan.grid.m (series_in plan) ≡ end + offset → AreTaken plan (is_pair_from offset 0 end) old new
    → IsScanned (starts_behind offset) plan.grid.m (series_in plan) old.profile new.profile
all_taken plan offset end old new is count t =
    each_to_other.same plan.grid.m (series_in plan) (series_in plan) (is_pair_from offset 0 end) (starts_behind offset)
    old.profile new.profile (is.places, refl) t.scanned
    (λ i j lt lt'. whole offset end i j (omega (arith, lt', count)))
  where
    whole : (offset end i j : ℕ) → j < end + offset → is_pair_from offset 0 end i j ≡ starts_behind offset i j
    whole offset end i j lt = grind (arith, nat_tests)

pub behind : (row k offset : ℕ) → row + k + offset - (row + k) ≡ offset
behind row k offset = omega arith

-- ---- pairs of a block, of which some are known to give nothing

-- some pairs, and then others
pub then_taken : (plan : Plan) (first second both : ℕ → ℕ → Bool) (old mid new : Bounded) → IsFor plan old
    → AreTaken plan first old mid → AreTaken plan second mid new
    → ((i j : ℕ) → (first i j || second i j) ≡ both i j) → AreTaken plan both old new
then_taken plan first second both old mid new is s t same = record {
  scanned = each_to_other.same plan.grid.m (series_in plan) (series_in plan) (λ i j. first i j || second i j) both
      old.profile new.profile (is.places, refl)
      (each_to_other.both plan.grid.m (series_in plan) (series_in plan) first second old.profile mid.profile
      new.profile s.scanned t.scanned)
      (λ i j _ _. same i j);
  same_m = t.same_m ∙ s.same_m;
  same_shift = t.same_shift ∙ s.same_shift;
}

-- the same pairs
pub same_taken : (plan : Plan) (pairs others : ℕ → ℕ → Bool) (old new : Bounded) → IsFor plan old
    → AreTaken plan pairs old new → ((i j : ℕ) → pairs i j ≡ others i j) → AreTaken plan others old new
same_taken plan pairs others old new is t same = record {
  scanned = each_to_other.same plan.grid.m (series_in plan) (series_in plan) pairs others old.profile new.profile
      (is.places, refl) t.scanned (λ i j _ _. same i j);
  same_m = t.same_m;
  same_shift = t.same_shift;
}

-- one more, and those behind it whose bits are set
pub done_next : (offset first bits k k' i j : ℕ) → k < 32 → k + 1 ≤ k' → k' ≤ 32
    → ((t : ℕ) → k + 1 ≤ t → t < k' → bit_at bits t ≡ 1)
    → (is_pair_done offset first bits k i j || only (first + k) (first + k + offset) i j)
    ≡ is_pair_done offset first bits k' i j
done_next offset first bits k k' i j small le within set = elim (cases_lt i (first + k + 1)) [
  | inl lt ↦ before offset first bits k k' i j small le lt
  | inr behind ↦ elim (cases_lt i (first + k')) [
    | inl lt ↦
        is_set offset first bits k k' i j small behind lt
        (set (i - first) (omega (arith, behind)) (omega (arith, lt, behind)))
    | inr ge ↦ left offset first bits k k' i j le ge
  ]
]
  where
    before : (offset first bits k k' i j : ℕ) → k < 32 → k + 1 ≤ k' → i < first + k + 1
        → (is_pair_done offset first bits k i j || only (first + k) (first + k + offset) i j)
        ≡ is_pair_done offset first bits k' i j
    before offset first bits k k' i j small le lt = grind (arith, nat_tests)

    is_set : (offset first bits k k' i j : ℕ) → k < 32 → first + k + 1 ≤ i → i < first + k'
        → bit_at bits (i - first) ≡ 1
        → (is_pair_done offset first bits k i j || only (first + k) (first + k + offset) i j)
        ≡ is_pair_done offset first bits k' i j
    is_set offset first bits k k' i j small ge lt e = grind (arith, nat_tests)

    left : (offset first bits k k' i j : ℕ) → k + 1 ≤ k' → first + k' ≤ i
        → (is_pair_done offset first bits k i j || only (first + k) (first + k + offset) i j)
        ≡ is_pair_done offset first bits k' i j
    left offset first bits k k' i j le ge = grind (arith, nat_tests)

-- all of them
pub all_done : (offset first bits k i j : ℕ) → 32 ≤ k
    → is_pair_done offset first bits k i j ≡ is_pair_from offset first (first + 32) i j
all_done offset first bits k i j le = grind (arith, nat_tests)

record IsDone (offset first bits k i j : ℕ) : Type 0 where
  from : IsFrom offset first (first + 32) i j
  is_set : (i < first + k) ⊎ (bit_at bits (i - first) ≡ 1)

is_done : (offset first bits k i j : ℕ) → is_pair_done offset first bits k i j ≡ true
    → IsDone offset first bits k i j
is_done offset first bits k i j e = record {
  from = is_from offset first (first + 32) i j (pair offset first bits k i j e);
  is_set = elim (cases_lt i (first + k)) [
    | inl lt ↦ inl lt
    | inr ge ↦ inr (bit offset first bits k i j ge e)
  ];
}
  where
    pair : (offset first bits k i j : ℕ) → is_pair_done offset first bits k i j ≡ true
        → is_pair_from offset first (first + 32) i j ≡ true
    pair offset first bits k i j e = grind (arith, nat_tests)

    bit : (offset first bits k i j : ℕ) → first + k ≤ i → is_pair_done offset first bits k i j ≡ true
        → bit_at bits (i - first) ≡ 1
    bit offset first bits k i j ge e = grind (arith, nat_tests)

-- those whose bits are set, and the first ones, whose bits are set too
pub quiet_done : (plan : Plan) (row offset bits k : ℕ) (residues : List ℤ) (found : Bounded) → IsFor plan found
    → 1 ≤ offset
    → ((t : ℕ) → t < 32 → item residues t ≡ residue (whole_in plan (row + t) (row + t + offset)))
    → ((t : ℕ) → t < 32 → bit_at bits t ≡ 1
    → IsQuiet found.m found.shift (get_or found.profile.right (row + t) None) (item residues t))
    → ((t : ℕ) → t < 32 → bit_at bits t ≡ 1
    → IsQuiet found.m found.shift (get_or found.profile.left (row + offset + t) None) (item residues t))
    → found.profile.all ≡ merged_column found.profile.left found.profile.right
    → ((t : ℕ) → 0 ≤ t → t < k → bit_at bits t ≡ 1)
    → AreTaken plan (is_pair_done offset row bits k) found found
quiet_done plan row offset bits k residues found is apart here right left lesser set = record {
  scanned = quiet_pairs (is_pair_done offset row bits k) plan.grid.m a found.profile is.places lesser
      (λ i j e. let at = (is_done offset row bits k i j e).from in omega (arith, at.column, apart))
      (λ i j d e there.
      let done = is_done offset row bits k i j e in
      let at = done.from in
      let t = i - row in
      let lt : t < 32 = omega (arith, at.behind, at.before) in
      let bit : bit_at bits t ≡ 1 = elim done.is_set [
        | inl first ↦ set t (omega arith) (omega (arith, first, at.behind))
        | inr one ↦ one
      ] in
      let i_is : row + t ≡ i = omega (arith, at.behind) in
      let j_is : row + offset + t ≡ j = omega (arith, at.behind, at.column) in
      let r_is : item residues t ≡ residue (whole_in plan i j) =
      here t lt ∙ ap (λ q. residue (whole_in plan q (q + offset))) i_is
      ∙ ap (λ q. residue (whole_in plan i q)) at.column in (
        (quiet_by (get_or found.profile.right i None) (item residues t)
            (subst (λ q. IsQuiet found.m found.shift (get_or found.profile.right q None) (item residues t)) i_is
            (right t lt bit))).nothing a i j d (whole_in plan i j) j there (omega arith) r_is,
        (quiet_by (get_or found.profile.left j None) (item residues t)
            (subst (λ q. IsQuiet found.m found.shift (get_or found.profile.left q None) (item residues t)) j_is
            (left t lt bit))).nothing a i j d (whole_in plan i j) i there (omega arith) r_is,
      ));
  same_m = refl;
  same_shift = refl;
}
  where
    a : Series
    a = series_in plan

    quiet_by : (slot : Option Near) (r : ℤ) → IsQuiet found.m found.shift slot r
        → IsQuiet plan.grid.m plan.rounding.shift slot r
    quiet_by slot r q =
        subst (λ n. IsQuiet n plan.rounding.shift slot r) is.m_is
        (subst (λ n. IsQuiet found.m n slot r) is.shift_is q)
