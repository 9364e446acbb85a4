-- Why limits hold of each way of offering windows.
use Rattle.std.proofs.Common.{◌≡◌, ℕ, ◌+◌, ◌<◌, ◌≤◌, ◌⊎◌, inl, inr, get_or, Bool, true, false}
use Rattle.std.proofs.Common.{refl, sym, ap, ◌∙◌, arith, subst}
use Rattle.std.specs.Prelude.{Some, None, ◌&&◌, ◌||◌, nat_lt, ⊤}
use Rattle.std.proofs.lemmas.Bool.Decides.{nat_tests}
use Rattle.mp_defs.specs.Series.{Series}
use Rattle.mp_defs.specs.Distance.{distance}
use Rattle.mp_defs.specs.Profile.{windows_of}
use Rattle.mp_defs.specs.DistanceLaws.{symmetric}
use Rattle.mp_partial.specs.Profiled.{Profiled}
use Rattle.mp_scans.specs.Offering.{IsLimiting}
use Rattle.mp_scans.specs.Slots.{Covers}
use Rattle.mp_tiles.specs.declared.offers.ColumnToRow.{ColumnToRow}
use Rattle.mp_tiles.specs.declared.offers.RowToColumn.{RowToColumn}
use Rattle.mp_tiles.specs.Among.{either_way}
use Rattle.mp_tiles.specs.Sides.{Sided, sides_of}
use Rattle.mp_tiles.specs.Scanning.{AreSided}
use Rattle.mp_tiles.specs.TakenLaws.{taken_quiet, taken_stays}
use Rattle.mp_tiles.specs.OfferingLaws.{fits_sides, is_scanned_sides, fits_each, is_scanned_each}
use Rattle.mp_tiles.specs.OfferingLaws.{fits_rows, is_scanned_rows, fits_columns, is_scanned_columns, turned}

-- ---- tests

either_true : (s t : Bool) → (s || t) ≡ true → (s ≡ true) ⊎ (t ≡ true)
either_true true t e = inl refl
either_true false t e = inr e

first_true : (s t : Bool) → (s && t) ≡ true → s ≡ true
first_true true t e = refl
first_true false t e = e

last_true : (s t : Bool) → (s && t) ≡ true → t ≡ true
last_true true t e = e
last_true false t e = absurd (cc)

is_less : (i j : ℕ) → nat_lt i j ≡ true → i < j
is_less i j e = grind (arith, nat_tests)

-- ---- each of two windows of a series to the other, on its side

-- the row's later windows
abbrev pub keeps_row_sides : Sided → ℕ → ℕ → ℕ → Type 0
keeps_row_sides s i j d = Covers (get_or s.right i None) j d

-- and the column's earlier ones
abbrev pub keeps_column_sides : Sided → ℕ → ℕ → ℕ → Type 0
keeps_column_sides s j i d = Covers (get_or s.left j None) i d

-- what is known of pairs that give nothing
abbrev GiveNothing : ℕ → Series → Series → (ℕ → ℕ → Bool) → (ℕ → ℕ → ℕ → Type 0) → (ℕ → ℕ → ℕ → Type 0) → Type 0
GiveNothing m a b pairs keeps_row keeps_column = (i j d : ℕ) → i < windows_of m a → j < windows_of m b
    → pairs i j ≡ true → distance m a i b j ≡ Some d → keeps_row i j d × keeps_column j i d

-- in one series
one_series : (m : ℕ) (a b : Series) (pairs : ℕ → ℕ → Bool) (keeps_row keeps_column : ℕ → ℕ → ℕ → Type 0) → a ≡ b
    → GiveNothing m a b pairs keeps_row keeps_column → GiveNothing m a a pairs keeps_row keeps_column
one_series m a b pairs keeps_row keeps_column e q =
    subst (λ (x : Series). GiveNothing m a x pairs keeps_row keeps_column) (sym e) q

sides_quiet : (m : ℕ) (a : Series) (pairs : ℕ → ℕ → Bool) (s : Sided) → fits_sides m a a s
    → ((i j : ℕ) → pairs i j ≡ true → i + 1 ≤ j)
    → GiveNothing m a a pairs (keeps_row_sides s) (keeps_column_sides s) → AreSided pairs m a s s
sides_quiet m a pairs s h order q = record {
  left = taken_quiet (λ i j. either_way pairs i j && nat_lt j i) m a a s.left h.0.left
      (λ i j d lt lt' is dist.
      let earlier : j < i = is_less j i (last_true (either_way pairs i j) (nat_lt j i) is) in
      elim (either_true (pairs i j) (pairs j i) (first_true (either_way pairs i j) (nat_lt j i) is)) [
        | inl here ↦ absurd (omega (arith, order i j here, earlier))
        | inr back ↦ (q j i d lt' lt back (symmetric m a j a i ∙ dist)).1
      ]);
  right = taken_quiet (λ i j. either_way pairs i j && nat_lt i j) m a a s.right h.0.right
      (λ i j d lt lt' is dist.
      let later : i < j = is_less i j (last_true (either_way pairs i j) (nat_lt i j) is) in
      elim (either_true (pairs i j) (pairs j i) (first_true (either_way pairs i j) (nat_lt i j) is)) [
        | inl here ↦ (q i j d lt lt' here dist).0
        | inr back ↦ absurd (omega (arith, order j i back, later))
      ]);
  room = refl;
}

row_side_stays : (pairs : ℕ → ℕ → Bool) (m : ℕ) (a b : Series) (old new : Sided) (i j d : ℕ) → fits_sides m a b old
    → AreSided pairs m a old new → i < windows_of m a → keeps_row_sides old i j d → keeps_row_sides new i j d
row_side_stays pairs m a b old new i j d h s lt k =
    taken_stays (λ i j. either_way pairs i j && nat_lt i j) m a a old.right new.right i j d h.0.right lt s.right k

column_side_stays : (pairs : ℕ → ℕ → Bool) (m : ℕ) (a b : Series) (old new : Sided) (j i d : ℕ)
    → fits_sides m a b old → AreSided pairs m a old new → j < windows_of m b → keeps_column_sides old j i d
    → keeps_column_sides new j i d
column_side_stays pairs m a b old new j i d h s lt k =
    let wide : windows_of m a ≡ windows_of m b = ap (windows_of m) h.1 in
    taken_stays (λ i j. either_way pairs i j && nat_lt j i) m a a old.left new.left j i d h.0.left
    (omega (arith, lt, wide)) s.left k

pub side_limits : IsLimiting 1 fits_sides is_scanned_sides keeps_row_sides keeps_column_sides
side_limits = record {
  quiet = λ m a b pairs s h order q.
      sides_quiet m a pairs s (h.0, refl) order
      (one_series m a b pairs (keeps_row_sides s) (keeps_column_sides s) h.1 q);
  row_stays = λ m a b pairs old new h s i j d lt k. row_side_stays pairs m a b old new i j d h s lt k;
  column_stays = λ m a b pairs old new h s j i d lt k. column_side_stays pairs m a b old new j i d h s lt k;
}

-- ---- the same, in a profile

-- on its side, and of both
abbrev pub keeps_row_each : Profiled → ℕ → ℕ → ℕ → Type 0
keeps_row_each p i j d = keeps_row_sides (sides_of p) i j d × Covers (get_or p.all i None) j d

abbrev pub keeps_column_each : Profiled → ℕ → ℕ → ℕ → Type 0
keeps_column_each p j i d = keeps_column_sides (sides_of p) j i d × Covers (get_or p.all j None) i d

pub each_limits : IsLimiting 1 fits_each is_scanned_each keeps_row_each keeps_column_each
each_limits = record {
  quiet = λ m a b pairs p h order q'.
      let q = one_series m a b pairs (keeps_row_each p) (keeps_column_each p) h.1 q' in
      record {
        all = taken_quiet (either_way pairs) m a a p.all h.0.all
            (λ i j d lt lt' is dist. elim (either_true (pairs i j) (pairs j i) is) [
              | inl here ↦ (q i j d lt lt' here dist).0.1
              | inr back ↦ (q j i d lt' lt back (symmetric m a j a i ∙ dist)).1.1
            ]);
        sides = sides_quiet m a pairs (sides_of p) (h.0.sides, refl) order
            (λ i j d lt lt' is dist. let both = q i j d lt lt' is dist in (both.0.0, both.1.0));
        spare = refl;
      };
  row_stays = λ m a b pairs old new h s i j d lt k. (
    row_side_stays pairs m a b (sides_of old) (sides_of new) i j d (h.0.sides, h.1) s.sides lt k.0,
    taken_stays (either_way pairs) m a a old.all new.all i j d h.0.all lt s.all k.1,
  );
  column_stays = λ m a b pairs old new h s j i d lt k.
      let wide : windows_of m a ≡ windows_of m b = ap (windows_of m) h.1 in (
        column_side_stays pairs m a b (sides_of old) (sides_of new) j i d (h.0.sides, h.1) s.sides lt k.0,
        taken_stays (either_way pairs) m a a old.all new.all j i d h.0.all (omega (arith, lt, wide)) s.all k.1,
      );
}

-- ---- the column to the row

abbrev pub keeps_row_slot : ColumnToRow → ℕ → ℕ → ℕ → Type 0
keeps_row_slot into i j d = Covers (get_or into.slots.now i None) j d

-- where nothing is offered
abbrev pub keeps_all : {Into : Type 0} → Into → ℕ → ℕ → ℕ → Type 0
keeps_all into i j d = ⊤

pub row_limits : IsLimiting 0 fits_rows is_scanned_rows keeps_row_slot keeps_all
row_limits = record {
  quiet = λ m a b pairs into h order q. record {
    slots = taken_quiet pairs m a b into.slots.now h (λ i j d lt lt' is dist. (q i j d lt lt' is dist).0);
    same_slots = refl;
  };
  row_stays = λ m a b pairs old new h s i j d lt k.
      taken_stays pairs m a b old.slots.now new.slots.now i j d h lt s.slots k;
  column_stays = λ m a b pairs old new h s j i d lt k. tt;
}

-- ---- the row to the column

abbrev pub keeps_column_slot : RowToColumn → ℕ → ℕ → ℕ → Type 0
keeps_column_slot into j i d = Covers (get_or into.slots.now j None) i d

pub column_limits : IsLimiting 0 fits_columns is_scanned_columns keeps_all keeps_column_slot
column_limits = record {
  quiet = λ m a b pairs into h order q. record {
    slots = taken_quiet (turned pairs) m b a into.slots.now h
        (λ j i d lt lt' is dist. (q i j d lt' lt is (symmetric m a i b j ∙ dist)).1);
    same_slots = refl;
  };
  row_stays = λ m a b pairs old new h s i j d lt k. tt;
  column_stays = λ m a b pairs old new h s j i d lt k.
      taken_stays (turned pairs) m b a old.slots.now new.slots.now j i d h lt s.slots k;
}
