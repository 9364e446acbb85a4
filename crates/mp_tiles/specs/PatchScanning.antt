-- What a scan makes of a patch.
use Rattle.std.specs.Prelude.{◌≡◌, ℕ, ◌+◌, ◌-◌, ◌<◌, ◌≤◌, Bool, length, slice_index_or, None, ⊤}
use Rattle.mp_defs.specs.Series.{Series}
use Rattle.mp_defs.specs.Profile.{nearest_column}
use Rattle.mp_partial.specs.Values.{Column, merged_column}
use Rattle.mp_partial.specs.Patching.{Patched, slots_from}
use Rattle.mp_scans.specs.Slots.{Covers}

-- slots of windows of a from one on have taken what these pairs with windows of b give
abbrev pub HasTakenFrom : (ℕ → ℕ → Bool) → ℕ → Series → Series → ℕ → Column → Column → Type 0
HasTakenFrom pairs m a b first old new =
    new ≡ merged_column old (slots_from (nearest_column pairs m a b) first (length old))

-- the new patch is the old one with what these pairs of a row in a and a column in b give
pub record IsPatched (pairs : ℕ → ℕ → Bool) (m : ℕ) (a b : Series) (old new : Patched) : Type 0 where
  pub first_row : new.first_row ≡ old.first_row
  pub rows : HasTakenFrom pairs m a b old.first_row old.rows new.rows
  pub first_column : new.first_column ≡ old.first_column
  pub columns : HasTakenFrom (λ j i. pairs i j) m b a old.first_column old.columns new.columns

-- every pair may be offered to a patch, which takes what is found of its own rows and columns
abbrev pub fits_patch : ℕ → Series → Series → Patched → Type 0
fits_patch m a b p = ⊤

abbrev pub may_patch : Patched → ℕ → ℕ → ℕ → Type 0
may_patch p row column dist = ⊤

abbrev pub is_scanned_patch : ℕ → Series → Series → (ℕ → ℕ → Bool) → Patched → Patched → Type 0
is_scanned_patch m a b pairs old new = IsPatched pairs m a b old new

-- of slots from a window on, window j at this distance gives that of window i nothing
abbrev pub KeepsFrom : ℕ → Column → ℕ → ℕ → ℕ → Type 0
KeepsFrom first slots i j d = first ≤ i → i < first + length slots → Covers (slice_index_or slots (i - first) None) j d

abbrev pub keeps_row_patch : Patched → ℕ → ℕ → ℕ → Type 0
keeps_row_patch p i j d = KeepsFrom p.first_row p.rows i j d

abbrev pub keeps_column_patch : Patched → ℕ → ℕ → ℕ → Type 0
keeps_column_patch p j i d = KeepsFrom p.first_column p.columns j i d
