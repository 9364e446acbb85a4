-- Why each way of offering windows keeps to its laws.
use Rattle.std.proofs.Common.{◌≡◌, ℕ, ◌<◌, length, Bool, true, false, refl, sym, ap, ◌∙◌, arith, subst}
use Rattle.std.specs.Prelude.{Option, None, ◌&&◌, ◌||◌, nat_lt}
use Rattle.std.specs.Borrow.{MutBor}
use Rattle.std.proofs.lemmas.Bool.Decides.{nat_tests}
use Rattle.mp_defs.specs.Series.{Series}
use Rattle.mp_defs.specs.Distance.{distance}
use Rattle.mp_defs.specs.Least.{at_distance}
use Rattle.mp_defs.specs.Profile.{windows_of}
use Rattle.mp_defs.specs.DistanceLaws.{symmetric}
use Rattle.mp_partial.specs.Values.{Column}
use Rattle.mp_partial.specs.Profiled.{Profiled}
use Rattle.mp_scans.specs.Offering.{only, IsOffering}
use Rattle.mp_tiles.specs.declared.offers.ColumnToRow.{ColumnToRow}
use Rattle.mp_tiles.specs.declared.offers.RowToColumn.{RowToColumn}
use Rattle.mp_tiles.specs.Among.{either_way}
use Rattle.mp_tiles.specs.Sides.{Sided, HaveSides, sides_of}
use Rattle.mp_tiles.specs.Scanning.{HasPlaces, AreSided, IsScanned, taken}
use Rattle.mp_tiles.specs.TakenLaws.{HasTaken, taken_places, taken_same, taken_none, taken_then, taken_one}
use Rattle.mp_tiles.specs.TakenLaws.{taken_nothing}

-- ---- each of two windows of a series to the other, on its side

-- both sides have the places of the one series that is meant
abbrev pub fits_sides : ℕ → Series → Series → Sided → Type 0
fits_sides m a b s = HaveSides (windows_of m a) s × (a ≡ b)

abbrev pub may_sides : Sided → ℕ → ℕ → ℕ → Type 0
may_sides s row column dist = (row < column) × (row < length s.right) × (column < length s.left)

abbrev pub is_scanned_sides : ℕ → Series → Series → (ℕ → ℕ → Bool) → Sided → Sided → Type 0
is_scanned_sides m a b pairs old new = AreSided pairs m a old new

pub sides_stay : (pairs : ℕ → ℕ → Bool) (m : ℕ) (a : Series) (old new : Sided) → HaveSides (windows_of m a) old
    → AreSided pairs m a old new → HaveSides (windows_of m a) new
sides_stay pairs m a old new h s = record {
  left = taken_places (λ i j. either_way pairs i j && nat_lt j i) m a a old.left new.left h.left s.left;
  right = taken_places (λ i j. either_way pairs i j && nat_lt i j) m a a old.right new.right h.right s.right;
}

either_same : (p q : ℕ → ℕ → Bool) (w : ℕ) → ((i j : ℕ) → i < w → j < w → p i j ≡ q i j)
    → (i j : ℕ) → i < w → j < w → either_way p i j ≡ either_way q i j
either_same p q w same i j lt lt' = ap (λ t. t || p j i) (same i j lt lt') ∙ ap (λ t. q i j || t) (same j i lt' lt)

-- the same pairs
sided_same : (p q : ℕ → ℕ → Bool) (m : ℕ) (a : Series) (old new : Sided) → AreSided p m a old new
    → ((i j : ℕ) → i < windows_of m a → j < windows_of m a → p i j ≡ q i j) → AreSided q m a old new
sided_same p q m a old new h same = record {
  left = taken_same (λ i j. either_way p i j && nat_lt j i)
      (λ i j. either_way q i j && nat_lt j i) m a a old.left new.left h.left
      (λ i j lt lt'. ap (λ t. t && nat_lt j i) (either_same p q (windows_of m a) same i j lt lt'));
  right = taken_same (λ i j. either_way p i j && nat_lt i j)
      (λ i j. either_way q i j && nat_lt i j) m a a old.right new.right h.right
      (λ i j lt lt'. ap (λ t. t && nat_lt i j) (either_same p q (windows_of m a) same i j lt lt'));
  room = h.room;
}

either_none : (p : ℕ → ℕ → Bool) → ((i j : ℕ) → p i j ≡ false) → (i j : ℕ) → either_way p i j ≡ false
either_none p none i j = ap (λ t. t || p j i) (none i j) ∙ none j i

-- no pairs
sided_none : (p : ℕ → ℕ → Bool) (m : ℕ) (a : Series) (old : Sided) → HaveSides (windows_of m a) old
    → ((i j : ℕ) → p i j ≡ false) → AreSided p m a old old
sided_none p m a old h none = record {
  left = taken_none (λ i j. either_way p i j && nat_lt j i) m a a old.left h.left
      (λ i j _ _. ap (λ t. t && nat_lt j i) (either_none p none i j));
  right = taken_none (λ i j. either_way p i j && nat_lt i j) m a a old.right h.right
      (λ i j _ _. ap (λ t. t && nat_lt i j) (either_none p none i j));
  room = refl;
}

pub or_pairs : (p q r s : Bool) → ((p || r) || (q || s)) ≡ ((p || q) || (r || s))
or_pairs true q r s = refl
or_pairs false true true s = refl
or_pairs false true false s = refl
or_pairs false false r s = refl

pub and_either : (p q t : Bool) → ((p && t) || (q && t)) ≡ ((p || q) && t)
and_either true true true = refl
and_either true true false = refl
and_either true false true = refl
and_either true false false = refl
and_either false q t = refl

either_both : (p q : ℕ → ℕ → Bool) (i j : ℕ)
    → (either_way p i j || either_way q i j) ≡ either_way (λ r c. p r c || q r c) i j
either_both p q i j = or_pairs (p i j) (q i j) (p j i) (q j i)

-- these pairs, and then those
sided_then : (p q : ℕ → ℕ → Bool) (m : ℕ) (a : Series) (old mid new : Sided) → AreSided p m a old mid
    → AreSided q m a mid new → AreSided (λ i j. p i j || q i j) m a old new
sided_then p q m a old mid new h k = record {
  left = taken_same (λ i j. (either_way p i j && nat_lt j i) || (either_way q i j && nat_lt j i))
      (λ i j. either_way (λ r c. p r c || q r c) i j && nat_lt j i) m a a old.left new.left
      (taken_then (λ i j. either_way p i j && nat_lt j i)
      (λ i j. either_way q i j && nat_lt j i) m a a old.left mid.left new.left h.left k.left)
      (λ i j _ _. and_either (either_way p i j) (either_way q i j) (nat_lt j i)
      ∙ ap (λ t. t && nat_lt j i) (either_both p q i j));
  right = taken_same (λ i j. (either_way p i j && nat_lt i j) || (either_way q i j && nat_lt i j))
      (λ i j. either_way (λ r c. p r c || q r c) i j && nat_lt i j) m a a old.right new.right
      (taken_then (λ i j. either_way p i j && nat_lt i j)
      (λ i j. either_way q i j && nat_lt i j) m a a old.right mid.right new.right h.right k.right)
      (λ i j _ _. and_either (either_way p i j) (either_way q i j) (nat_lt i j)
      ∙ ap (λ t. t && nat_lt i j) (either_both p q i j));
  room = k.room ∙ h.room;
}

only_later : (i j r c : ℕ) → i < j → only i j r c ≡ (either_way (only i j) r c && nat_lt r c)
only_later i j r c lt = grind (arith, nat_tests)

only_earlier : (i j r c : ℕ) → i < j → only j i r c ≡ (either_way (only i j) r c && nat_lt c r)
only_earlier i j r c lt = grind (arith, nat_tests)

-- one pair: the row takes the column on its right, and the column the row on its left
pub sided_pair : (i j m : ℕ) (a : Series) (old new : Sided) (d : Option ℕ) → HaveSides (windows_of m a) old
    → i < j → j < windows_of m a → d ≡ distance m a i a j → new.left ≡ taken old.left j (at_distance i d)
    → new.right ≡ taken old.right i (at_distance j d) → new.room ≡ old.room → AreSided (only i j) m a old new
sided_pair i j m a old new d h order lt is left right room =
    let lt' : i < windows_of m a = omega arith in
    record {
      left = taken_same (only j i) (λ r c. either_way (only i j) r c && nat_lt c r) m a a old.left new.left
          (taken_one j i m a a old.left new.left d h.left lt lt' (is ∙ symmetric m a i a j) left)
          (λ r c _ _. only_earlier i j r c order);
      right = taken_same (only i j) (λ r c. either_way (only i j) r c && nat_lt r c) m a a old.right new.right
          (taken_one i j m a a old.right new.right d h.right lt' lt is right) (λ r c _ _. only_later i j r c order);
      room = room;
    }

-- a pair without a distance gives nothing
sided_skipped : (i j m : ℕ) (a : Series) (s : Sided) → HaveSides (windows_of m a) s → i < j → j < windows_of m a
    → distance m a i a j ≡ None → AreSided (only i j) m a s s
sided_skipped i j m a s h order lt missing =
    sided_pair i j m a s s None h order lt (sym missing) (sym (taken_nothing s.left j)) (sym (taken_nothing s.right i))
    refl

-- both windows are of one series
pub same_series : (m : ℕ) (a b : Series) (i j : ℕ) (d : Option ℕ) → a ≡ b → distance m a i b j ≡ d
    → distance m a i a j ≡ d
same_series m a b i j d e h = subst (λ (x : Series). distance m a i x j ≡ d) (sym e) h

pub on_both_sides : IsOffering 1 fits_sides may_sides is_scanned_sides
on_both_sides = record {
  may = λ m a b s row column dist h lt lt' apart known.
      let same : windows_of m b ≡ windows_of m a = ap (windows_of m) (sym h.1) in
      (omega (arith, apart), omega (arith, lt, h.0.right), omega (arith, lt', same, h.0.left));
  still_fits = λ m a b pairs old new h s. (sides_stay pairs m a old new h.0 s, h.1);
  none = λ m a b pairs s h none. sided_none pairs m a s h.0 none;
  skipped = λ m a b row column s h lt lt' apart missing.
      let same : windows_of m b ≡ windows_of m a = ap (windows_of m) (sym h.1) in
      sided_skipped row column m a s h.0 (omega (arith, apart)) (omega (arith, lt', same))
      (same_series m a b row column None h.1 missing);
  both = λ m a b p q old mid new h k. sided_then p q m a old mid new h k;
  same = λ m a b p q old new h s same.
      let wide : windows_of m a ≡ windows_of m b = ap (windows_of m) h.1 in
      sided_same p q m a old new s (λ i j lt lt'. same i j lt (omega (arith, lt', wide)));
}

-- ---- the same, in a profile

abbrev pub fits_each : ℕ → Series → Series → Profiled → Type 0
fits_each m a b p = HasPlaces (windows_of m a) p × (a ≡ b)

abbrev pub may_each : Profiled → ℕ → ℕ → ℕ → Type 0
may_each p row column dist = (row < column) × (column < length p.all)

abbrev pub is_scanned_each : ℕ → Series → Series → (ℕ → ℕ → Bool) → Profiled → Profiled → Type 0
is_scanned_each m a b pairs old new = IsScanned pairs m a old new

places_stay : (pairs : ℕ → ℕ → Bool) (m : ℕ) (a : Series) (old new : Profiled) → HasPlaces (windows_of m a) old
    → IsScanned pairs m a old new → HasPlaces (windows_of m a) new
places_stay pairs m a old new h s = record {
  all = taken_places (either_way pairs) m a a old.all new.all h.all s.all;
  sides = sides_stay pairs m a (sides_of old) (sides_of new) h.sides s.sides;
}

only_either : (i j r c : ℕ) → (only i j r c || only j i r c) ≡ either_way (only i j) r c
only_either i j r c = grind (arith, nat_tests)

-- one pair: the two windows are offered to each other
pub scanned_pair : (i j m : ℕ) (a : Series) (old new : Profiled) (d : Option ℕ) → HasPlaces (windows_of m a) old
    → i < j → j < windows_of m a → d ≡ distance m a i a j
    → new.all ≡ taken (taken old.all i (at_distance j d)) j (at_distance i d)
    → new.left ≡ taken old.left j (at_distance i d) → new.right ≡ taken old.right i (at_distance j d)
    → new.room ≡ old.room → new.spare ≡ old.spare
    → IsScanned (only i j) m a old new
scanned_pair i j m a old new d h order lt is all left right room spare =
    let lt' : i < windows_of m a = omega arith in
    let mid : Column = taken old.all i (at_distance j d) in
    let first : HasTaken (only i j) m a a old.all mid = taken_one i j m a a old.all mid d h.all lt' lt is refl in
    record {
      all = taken_same (λ r c. only i j r c || only j i r c) (either_way (only i j)) m a a old.all new.all
          (taken_then (only i j) (only j i) m a a old.all mid new.all first
          (taken_one j i m a a mid new.all d (taken_places (only i j) m a a old.all mid h.all first) lt lt'
          (is ∙ symmetric m a i a j) all))
          (λ r c _ _. only_either i j r c);
      sides = sided_pair i j m a (sides_of old) (sides_of new) d h.sides order lt is left right room;
      spare = spare;
    }

nothing_twice : (old : Column) (i j : ℕ) → old ≡ taken (taken old i None) j None
nothing_twice old i j = sym (taken_nothing (taken old i None) j ∙ taken_nothing old i)

pub each_to_other : IsOffering 1 fits_each may_each is_scanned_each
each_to_other = record {
  may = λ m a b p row column dist h lt lt' apart known.
      let same : windows_of m b ≡ length p.all = ap (windows_of m) (sym h.1) ∙ sym h.0.all in
      (omega arith, omega arith);
  still_fits = λ m a b pairs old new h s. (places_stay pairs m a old new h.0 s, h.1);
  none = λ m a b pairs p h none. record {
    all = taken_none (either_way pairs) m a a p.all h.0.all (λ i j _ _. either_none pairs none i j);
    sides = sided_none pairs m a (sides_of p) h.0.sides none;
    spare = refl;
  };
  skipped = λ m a b row column p h lt lt' apart missing.
      let same : windows_of m b ≡ windows_of m a = ap (windows_of m) (sym h.1) in
      scanned_pair row column m a p p None h.0 (omega arith) (omega arith)
      (sym (same_series m a b row column None h.1 missing))
      (nothing_twice p.all row column) (sym (taken_nothing p.left column)) (sym (taken_nothing p.right row)) refl refl;
  both = λ m a b p q old mid new h k. record {
    all = taken_same (λ i j. either_way p i j || either_way q i j) (either_way (λ r c. p r c || q r c)) m a a old.all
        new.all (taken_then (either_way p) (either_way q) m a a old.all mid.all new.all h.all k.all)
        (λ i j _ _. either_both p q i j);
    sides = sided_then p q m a (sides_of old) (sides_of mid) (sides_of new) h.sides k.sides;
    spare = k.spare ∙ h.spare;
  };
  same = λ m a b p q old new h s same.
      let wide : windows_of m a ≡ windows_of m b = ap (windows_of m) h.1 in
      let agree : (i j : ℕ) → i < windows_of m a → j < windows_of m a → p i j ≡ q i j =
      λ i j lt lt'. same i j lt (omega (arith, lt', wide)) in
      record {
        all = taken_same (either_way p) (either_way q) m a a old.all new.all s.all
            (either_same p q (windows_of m a) agree);
        sides = sided_same p q m a (sides_of old) (sides_of new) s.sides agree;
        spare = s.spare;
      };
}

-- ---- from one series to another

-- slots have taken what these pairs give, and are where they were
pub record HaveTaken (pairs : ℕ → ℕ → Bool) (m : ℕ) (a b : Series) (old new : MutBor Column) : Type 0 where
  pub slots : HasTaken pairs m a b old.now new.now
  pub same_slots : new.ghost_name ≡ old.ghost_name

-- of the rows
abbrev pub fits_rows : ℕ → Series → Series → ColumnToRow → Type 0
fits_rows m a b into = length into.slots.now ≡ windows_of m a

abbrev pub may_row : ColumnToRow → ℕ → ℕ → ℕ → Type 0
may_row into row column dist = row < length into.slots.now

abbrev pub is_scanned_rows : ℕ → Series → Series → (ℕ → ℕ → Bool) → ColumnToRow → ColumnToRow → Type 0
is_scanned_rows m a b pairs old new = HaveTaken pairs m a b old.slots new.slots

-- the column's window is offered to the row
pub column_to_row : IsOffering 0 fits_rows may_row is_scanned_rows
column_to_row = record {
  may = λ m a b into row column dist h lt lt' _ _. omega (arith, lt, h);
  still_fits = λ m a b pairs old new h s. taken_places pairs m a b old.slots.now new.slots.now h s.slots;
  none = λ m a b pairs into h none. record {
    slots = taken_none pairs m a b into.slots.now h (λ i j _ _. none i j);
    same_slots = refl;
  };
  skipped = λ m a b row column into h lt lt' _ missing. record {
    slots = taken_one row column m a b into.slots.now into.slots.now None h lt lt' (sym missing)
        (sym (taken_nothing into.slots.now row));
    same_slots = refl;
  };
  both = λ m a b p q old mid new h k. record {
    slots = taken_then p q m a b old.slots.now mid.slots.now new.slots.now h.slots k.slots;
    same_slots = k.same_slots ∙ h.same_slots;
  };
  same = λ m a b p q old new h s same. record {
    slots = taken_same p q m a b old.slots.now new.slots.now s.slots same;
    same_slots = s.same_slots;
  };
}

-- the other way round
abbrev pub turned : (ℕ → ℕ → Bool) → ℕ → ℕ → Bool
turned pairs i j = pairs j i

-- of the columns
abbrev pub fits_columns : ℕ → Series → Series → RowToColumn → Type 0
fits_columns m a b into = length into.slots.now ≡ windows_of m b

abbrev pub may_column : RowToColumn → ℕ → ℕ → ℕ → Type 0
may_column into row column dist = column < length into.slots.now

abbrev pub is_scanned_columns : ℕ → Series → Series → (ℕ → ℕ → Bool) → RowToColumn → RowToColumn → Type 0
is_scanned_columns m a b pairs old new = HaveTaken (turned pairs) m b a old.slots new.slots

turned_only : (i j r c : ℕ) → only j i r c ≡ turned (only i j) r c
turned_only i j r c = grind (arith, nat_tests)

pub taken_turned : (i j m : ℕ) (a b : Series) (old new : Column) (d : Option ℕ) → length old ≡ windows_of m b
    → i < windows_of m a → j < windows_of m b → d ≡ distance m a i b j → new ≡ taken old j (at_distance i d)
    → HasTaken (turned (only i j)) m b a old new
taken_turned i j m a b old new d l lt lt' is e =
    taken_same (only j i) (turned (only i j)) m b a old new
    (taken_one j i m b a old new d l lt' lt (is ∙ symmetric m a i b j) e) (λ r c _ _. turned_only i j r c)

-- the row's window is offered to the column
pub row_to_column : IsOffering 0 fits_columns may_column is_scanned_columns
row_to_column = record {
  may = λ m a b into row column dist h lt lt' _ _. omega (arith, lt', h);
  still_fits = λ m a b pairs old new h s. taken_places (turned pairs) m b a old.slots.now new.slots.now h s.slots;
  none = λ m a b pairs into h none. record {
    slots = taken_none (turned pairs) m b a into.slots.now h (λ i j _ _. none j i);
    same_slots = refl;
  };
  skipped = λ m a b row column into h lt lt' _ missing. record {
    slots = taken_turned row column m a b into.slots.now into.slots.now None h lt lt' (sym missing)
        (sym (taken_nothing into.slots.now column));
    same_slots = refl;
  };
  both = λ m a b p q old mid new h k. record {
    slots = taken_then (turned p) (turned q) m b a old.slots.now mid.slots.now new.slots.now h.slots k.slots;
    same_slots = k.same_slots ∙ h.same_slots;
  };
  same = λ m a b p q old new h s same. record {
    slots = taken_same (turned p) (turned q) m b a old.slots.now new.slots.now s.slots
        (λ i j lt lt'. same j i lt' lt);
    same_slots = s.same_slots;
  };
}
