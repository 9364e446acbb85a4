-- Plans of parts of two series, and of the same with rows as columns.
use Rattle.std.proofs.Common.{◌≡◌, ℕ, ◌+◌, ◌^◌, ◌<◌, ◌≤◌, List, length, sym, ◌∙◌, arith, length-take, length-drop}
use Rattle.std.specs.Prelude.{Some}
use Rattle.std.specs.List.{between}
use Rattle.mp_nums.specs.declared.samples.Sample.{Sample}
use Rattle.mp_defs.specs.Series.{series_of}
use Rattle.mp_defs.specs.Distance.{distance}
use Rattle.mp_defs.specs.DistanceLaws.{symmetric}
use Rattle.mp_tiles.proofs.RowLemmas.{part_distance}

-- the distances of these windows have no more than so many bits
abbrev Fit : ℕ → ℕ → List Sample → List Sample → Type 0
Fit bits m rows columns = (row column d : ℕ) → row + m ≤ length rows → column + m ≤ length columns
    → distance m (series_of rows) row (series_of columns) column ≡ Some d → d < 2 ^ bits

pub transposed_fit : (bits m : ℕ) (rows columns : List Sample) → Fit bits m rows columns → Fit bits m columns rows
transposed_fit bits m rows columns h = λ row column d within within' there.
    h column row d within' within (symmetric m (series_of rows) column (series_of columns) row ∙ there)

pub part_fit : (bits m i e : ℕ) (rows columns : List Sample) → 1 ≤ m → Fit bits m rows columns
    → Fit bits m (between i e rows) columns
part_fit bits m i e rows columns some h = λ row column d within within' there.
    h (i + row) column d (omega (arith, some, within, length-take {A = Sample}, length-drop {A = Sample})) within'
    (sym (part_distance m rows i e row (series_of columns) column
    (omega (arith, within, length-take {A = Sample}, length-drop {A = Sample}))) ∙ there)
