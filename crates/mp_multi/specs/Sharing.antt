-- What workers share of the multidimensional profile.
use Rattle.std.specs.Prelude.{◌≡◌, ℕ, List, [], ◌∷◌, All, length, map, slice_index_or, Option, IfSome, None, ⊤}
use Rattle.mp_nums.specs.declared.nearest.Near.{Near}
use Rattle.mp_nums.specs.Listed.{Listed}
use Rattle.mp_defs.specs.Series.{series_of}
use Rattle.mp_results.specs.Multi.{multi_of}
use Rattle.mp_partial.specs.Values.{Column, empty_columns}
use Rattle.mp_tiles.specs.RowParts.{IsCutInParts, parts_of}
use Rattle.mp_workers.specs.Entries.{AreWithin, IsWithin}
use Rattle.mp_multi.specs.Tiling.{MultiTiling, multi_together, multi_whole}
use Rattle.mp_multi.specs.declared.entries.EntriesView.{EntriesView}
use Rattle.atomic_table.specs.Table.{State, Me, Step}

abbrev pub view_of : Column → EntriesView
view_of whole = record { whole = whole }

-- no word tells a window that comes before the one that stands at its place in the profile
abbrev pub AreEntriesOf : Column → State (Unit {0}) EntriesView → Type 0
AreEntriesOf whole entries = AreWithin whole entries.words

-- the word found is within what stands at its place
abbrev pub Finds : Step (Unit {0}) → Me (Unit {0}) EntriesView → ℕ → Me (Unit {0}) EntriesView → Type 0
Finds step before found after = IsWithin found (slice_index_or before.0.whole step.word None)

-- a worker that lowers a word asks for nothing
abbrev pub Lowers : Step (Unit {0}) → Me (Unit {0}) EntriesView → ℕ → Me (Unit {0}) EntriesView → Type 0
Lowers step before found after = ⊤

-- the multidimensional profile of the channels
abbrev pub profile_of : MultiTiling → Column
profile_of multi = multi_of multi.m multi.k (map series_of multi.channels)

-- the same tiles in parts of their rows
abbrev pub in_parts : ℕ → MultiTiling → MultiTiling
in_parts parts multi =
    record { channels = multi.channels; m = multi.m; k = multi.k; tiles = parts_of parts multi.tiles }

-- the parts of the tiles make the profile and are few enough to be pieces, and the entries are of the same channels
pub record AreShared (parts : ℕ) (multi : MultiTiling) (entries : Option Column) : Type 0 where
  pub together : multi_together (in_parts parts multi) ≡ multi_whole multi
  pub cut : IsCutInParts parts multi.tiles
  pub of_channels : IfSome entries (λ whole. whole ≡ profile_of multi)

-- slots for each of so many workers, of so many windows, in which nothing was found
pub record AreUnfound (workers windows : ℕ) (parts : List (Listed (Option Near))) : Type 0 where
  pub count : length parts ≡ workers
  pub each : All (λ slots. (length slots.items ≡ windows) × (slots.items ∷ [] ≡ empty_columns 1 windows)) parts
