-- Why a patch keeps to the laws of offering windows, and why limits hold of it.
use Rattle.std.proofs.Common.{◌≡◌, ℕ, ◌+◌, ◌-◌, ◌<◌, length, get_or, Bool, true, false, refl, sym, ◌∙◌, arith}
use Rattle.std.proofs.Common.{subst}
use Rattle.std.specs.Prelude.{Some, None, ◌&&◌, ◌||◌, nat_lt}
use Rattle.std.proofs.lemmas.Bool.Decides.{nat_tests}
use Rattle.mp_defs.specs.Series.{Series}
use Rattle.mp_defs.specs.Distance.{distance}
use Rattle.mp_defs.specs.Profile.{nearest_column}
use Rattle.mp_defs.specs.DistanceLaws.{symmetric}
use Rattle.mp_partial.specs.Values.{Column}
use Rattle.mp_scans.specs.Offering.{only, IsOffering, IsLimiting}
use Rattle.mp_scans.specs.Slots.{Covers}
use Rattle.mp_tiles.specs.Among.{either_way}
use Rattle.mp_tiles.specs.TakenLaws.{covers_more, same_places, at_taken_from, taken_quiet_from, taken_same_from}
use Rattle.mp_tiles.specs.TakenLaws.{taken_then_from, both_ways}
use Rattle.mp_tiles.specs.PatchScanning.{HasTakenFrom, fits_patch, may_patch, is_scanned_patch, KeepsFrom}
use Rattle.mp_tiles.specs.PatchScanning.{keeps_row_patch, keeps_column_patch}

-- ---- one pair

row_is : (i j r c : ℕ) → only i j r c ≡ true → r ≡ i
row_is i j r c is = grind (arith, nat_tests)

column_is : (i j r c : ℕ) → only i j r c ≡ true → c ≡ j
column_is i j r c is = grind (arith, nat_tests)

turned_only : (i j r c : ℕ) → only j i c r ≡ only i j r c
turned_only i j r c = grind (arith, nat_tests)

-- the same of the column
pub taken_turned : (i j m : ℕ) (a b : Series) (first : ℕ) (old new : Column)
    → HasTakenFrom (only j i) m b a first old new
    → HasTakenFrom (λ c r. only i j r c) m b a first old new
taken_turned i j m a b first old new h =
    taken_same_from (only j i) (λ c r. only i j r c) m b a first old new h (λ c r _ _. turned_only i j r c)

-- ---- the laws

pub patch_offers : IsOffering 0 fits_patch may_patch is_scanned_patch
patch_offers = record {
  may = λ m a b p row column dist h lt lt' apart known. tt;
  still_fits = λ m a b pairs old new h s. tt;
  none = λ m a b pairs p h none. record {
    first_row = refl;
    rows = taken_quiet_from pairs m a b p.first_row p.rows
        (λ i j d _ _ _ _ is _. absurd (both_ways (pairs i j) is (none i j)));
    first_column = refl;
    columns = taken_quiet_from (λ j i. pairs i j) m b a p.first_column p.columns
        (λ j i d _ _ _ _ is _. absurd (both_ways (pairs i j) is (none i j)));
  };
  skipped = λ m a b row column p h lt lt' _ missing. record {
    first_row = refl;
    rows = taken_quiet_from (only row column) m a b p.first_row p.rows
        (λ i j d _ _ _ _ is found. absurd (no_distance row column m a b i j d missing is found));
    first_column = refl;
    columns = taken_quiet_from (λ c r. only row column r c) m b a p.first_column p.columns
        (λ j i d _ _ _ _ is found.
        absurd (no_distance row column m a b i j d missing is (symmetric m a i b j ∙ found)));
  };
  both = λ m a b p q old mid new h k. record {
    first_row = k.first_row ∙ h.first_row;
    rows = taken_then_from p q m a b old.first_row old.rows mid.rows new.rows h.rows
        (subst (λ n. HasTakenFrom q m a b n mid.rows new.rows) h.first_row k.rows);
    first_column = k.first_column ∙ h.first_column;
    columns = taken_then_from (λ j i. p i j) (λ j i. q i j) m b a old.first_column old.columns mid.columns new.columns
        h.columns
        (subst (λ n. HasTakenFrom (λ j i. q i j) m b a n mid.columns new.columns) h.first_column k.columns);
  };
  same = λ m a b p q old new h s same. record {
    first_row = s.first_row;
    rows = taken_same_from p q m a b old.first_row old.rows new.rows s.rows same;
    first_column = s.first_column;
    columns = taken_same_from (λ j i. p i j) (λ j i. q i j) m b a old.first_column old.columns new.columns s.columns
        (λ j i lt lt'. same i j lt' lt);
  };
}
  where
    no_distance : (row column m : ℕ) (a b : Series) (i j d : ℕ) → distance m a row b column ≡ None
        → only row column i j ≡ true → distance m a i b j ≡ Some d → ⊥
    no_distance row column m a b i j d missing is found =
        let here : distance m a row b column ≡ Some d = subst (λ x. distance m a x b column ≡ Some d)
        (row_is row column i j is) (subst (λ y. distance m a i b y ≡ Some d) (column_is row column i j is) found) in
        absurd (cc)

-- ---- limits

taken_stays : (p : ℕ → ℕ → Bool) (m : ℕ) (a b : Series) (first first' : ℕ) (old new : Column) (i j d : ℕ)
    → first' ≡ first → HasTakenFrom p m a b first old new → KeepsFrom first old i j d → KeepsFrom first' new i j d
taken_stays p m a b first first' old new i j d e h keeps le lt =
    let l : length new ≡ length old = same_places p m a b first old new h in
    let same : i - first' ≡ i - first = omega (arith, e) in
    subst (λ n. Covers (get_or new n None) j d) (sym same)
    (subst (λ s. Covers s j d) (sym (at_taken_from p m a b first old new (i - first) (omega (arith, e, le, lt, l)) h))
    (covers_more (get_or old (i - first) None) (get_or (nearest_column p m a b) (first + (i - first)) None) j d
    (keeps (omega (arith, e, le)) (omega (arith, e, lt, l)))))

pub patch_limits : IsLimiting 0 fits_patch is_scanned_patch keeps_row_patch keeps_column_patch
patch_limits = record {
  quiet = λ m a b pairs p h order q. record {
    first_row = refl;
    rows = taken_quiet_from pairs m a b p.first_row p.rows
        (λ i j d le lt below below' is found. (q i j d below below' is found).0 le lt);
    first_column = refl;
    columns = taken_quiet_from (λ j i. pairs i j) m b a p.first_column p.columns
        (λ j i d le lt below' below is found. (q i j d below below' is (symmetric m a i b j ∙ found)).1 le lt);
  };
  row_stays = λ m a b pairs old new h s i j d lt keeps.
      taken_stays pairs m a b old.first_row new.first_row old.rows new.rows i j d s.first_row s.rows keeps;
  column_stays = λ m a b pairs old new h s j i d lt keeps.
      taken_stays (λ c r. pairs r c) m b a old.first_column new.first_column old.columns new.columns j i d
      s.first_column s.columns keeps;
}

-- ---- pairs of a series whose row starts earlier

is_right : (t u : Bool) (i j : ℕ) → (t ≡ true → i < j) → (u ≡ true → j < i) → t ≡ ((t || u) && nat_lt i j)
is_right true u i j h k = grind (arith, nat_tests)
is_right false true i j h k = grind (arith, nat_tests)
is_right false false i j h k = refl

-- they give the rows what is nearest on the right
pub rows_alone : (pairs : ℕ → ℕ → Bool) (m : ℕ) (a : Series) (first : ℕ) (old new : Column)
    → ((i j : ℕ) → pairs i j ≡ true → i < j) → HasTakenFrom pairs m a a first old new
    → HasTakenFrom (λ i j. either_way pairs i j && nat_lt i j) m a a first old new
rows_alone pairs m a first old new order h =
    taken_same_from pairs (λ i j. either_way pairs i j && nat_lt i j) m a a first old new h
    (λ i j _ _. is_right (pairs i j) (pairs j i) i j (order i j) (order j i))

is_left : (t u : Bool) (i j : ℕ) → (t ≡ true → i < j) → (u ≡ true → j < i) → u ≡ ((t || u) && nat_lt j i)
is_left true true i j h k = absurd (omega (arith, h refl, k refl))
is_left true false i j h k = grind (arith, nat_tests)
is_left false u i j h k = grind (arith, nat_tests)

-- and the columns what is nearest on the left
pub columns_alone : (pairs : ℕ → ℕ → Bool) (m : ℕ) (a : Series) (first : ℕ) (old new : Column)
    → ((i j : ℕ) → pairs i j ≡ true → i < j) → HasTakenFrom (λ j i. pairs i j) m a a first old new
    → HasTakenFrom (λ i j. either_way pairs i j && nat_lt j i) m a a first old new
columns_alone pairs m a first old new order h =
    taken_same_from (λ j i. pairs i j) (λ i j. either_way pairs i j && nat_lt j i) m a a first old new h
    (λ i j _ _. is_left (pairs i j) (pairs j i) i j (order i j) (order j i))
