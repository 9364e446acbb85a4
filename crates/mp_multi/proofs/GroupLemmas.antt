-- Residues with which strips begin and end.
use Rattle.std.proofs.Common.{◌≡◌, ℕ, ◌+◌, ◌*◌, ◌<◌, List, [], length, get_or, map, sym, ap, ◌∙◌, arith, subst, subst₂}
use Rattle.std.proofs.Common.{pos}
use Rattle.std.proofs.Common.{w32, FitsSigned, ℤ, ◌-ℤ◌}
use Rattle.std.proofs.lemmas.Int.{SFits-int_wrap}
use Rattle.std.proofs.Math.ListN.{get_or-map}
use Rattle.mp_nums.specs.declared.samples.Sample.{Sample}
use Rattle.mp_defs.specs.Series.{Series, series_of}
use Rattle.mp_defs.specs.SeriesLaws.{series_are_of_samples}
use Rattle.mp_defs.specs.Window.{windows}
use Rattle.mp_results.specs.Multi.{channel_at}
use Rattle.mp_sums.specs.declared.distances.Grid.{Grid}
use Rattle.mp_sums.specs.Grids.{row_numbers, column_numbers}
use Rattle.mp_sums.specs.Sums.{numbers_of, square_sum}
use Rattle.mp_sums.specs.Rounding.{rounded}
use Rattle.mp_sums.specs.Residues.{residue, rounded_residue, item}
use Rattle.mp_scans.specs.Blocks.{AreStripResidues}
use Rattle.mp_scans.specs.Windows.{column_windows}
use Rattle.mp_multi.specs.Blocks.{channels_of, AreResiduesAt}
use Rattle.mp_multi.specs.Conditions.{HaveOneLength}
use Rattle.mp_multi.specs.Lanes.{AreLanesIn, AreChannelResidues}
use Rattle.mp_multi.specs.Tiling.{window_count}
use Rattle.mp_multi.specs.declared.blocks.Block.{Block}

-- a window of the channels is one of each channel
in_each : (channels : List (List Sample)) (n column m : ℕ) (grid : Grid) → grid.columns.now ≡ get_or channels n []
    → grid.m ≡ m → n < length channels → HaveOneLength channels → column < window_count m channels
    → column + 0 * 32 < column_windows grid
in_each channels n column m grid columns same lt one_length within =
    let long : length (get_or channels n []) ≡ length (get_or channels 0 []) = one_length n [] lt in
    let here : column_windows grid ≡ windows (length (get_or channels n [])) m =
    series_are_of_samples.windows_are grid.m grid.columns.now
    ∙ ap (λ (x : List Sample). windows (length x) grid.m) columns
    ∙ ap (windows (length (get_or channels n []))) same in
    omega (arith, long, here, within)

-- what stands for channel n in its strip's residues
in_strip_of : (channels : List (List Sample)) (n row m shift : ℕ) (grid : Grid) (shift' j j' : ℕ)
    → grid.rows.now ≡ get_or channels n [] → grid.columns.now ≡ get_or channels n [] → grid.m ≡ m → shift' ≡ shift
    → j' ≡ j
    → residue (square_sum grid.m (rounded shift' (row_numbers grid)) row (rounded shift' (column_numbers grid)) j')
    ≡ rounded_residue m shift (channel_at (map series_of channels) n) row (channel_at (map series_of channels) n) j
in_strip_of channels n row m shift grid shift' j j' rows columns same alike at =
    let a = get_or channels n [] in
    let of : ℕ → ℕ → List Sample → List Sample → ℕ → ℤ = λ k s x y i. residue (square_sum k
    (rounded s (numbers_of (series_of x))) row (rounded s (numbers_of (series_of y))) i) in
    ap (λ x. of grid.m shift' x grid.columns.now j') rows ∙ ap (λ y. of grid.m shift' a y j') columns
    ∙ ap (λ k. of k shift' a a j') same ∙ ap (λ s. of m s a a j') alike ∙ ap (of m shift a a) at
    ∙ ap (λ (x : Series). rounded_residue m shift x row x j) (sym (get_or-map series_of channels n []))

pub started : (channels : List (List Sample)) (n row column m shift : ℕ) (grid : Grid) (shift' : ℕ) (v : List ℤ)
    → grid.rows.now ≡ get_or channels n [] → grid.columns.now ≡ get_or channels n [] → grid.m ≡ m → shift' ≡ shift
    → length v ≡ 32 → n < length channels → HaveOneLength channels
    → AreStripResidues grid shift' row column v → column < window_count m channels
    → AreLanesIn m shift (channel_at (map series_of channels) n) row column v
started channels n row column m shift grid shift' v rows columns same alike long lt one_length h within =
    let a = channel_at (map series_of channels) n in
    let at : (t : ℕ) → t < 32 → item v t ≡ rounded_residue m shift a row a (column + t) = λ t small.
    ap (item v) (omega arith)
    ∙ h.each 0 t small (omega (arith, small, long)) (in_each channels n column m grid columns same lt one_length within)
    ∙ in_strip_of channels n row m shift grid shift' (column + t) (column + 0 * 32 + t) rows columns same alike
    (omega arith) in
    record {
      lanes = record {
        count = long;
        fit = λ t small. subst (FitsSigned w32) (sym (at t small)) (SFits-int_wrap w32 (pos (square_sum m
            (rounded shift (numbers_of a)) row (rounded shift (numbers_of a)) (column + t)) -ℤ pos 2147483647));
      };
      each = at;
    }

pub begins : (b : Block) (s : ℕ) (residues : List (List ℤ))
    → AreChannelResidues b.plan.channels.m b.plan.shift (channels_of b.plan) b.row (b.column + s * 32) residues
    → AreResiduesAt b 0 (s * 32) residues
begins b s residues h =
    subst (λ i. AreChannelResidues b.plan.channels.m b.plan.shift (channels_of b.plan) i (b.column + s * 32) residues)
    (omega arith) h

pub ends : (b : Block) (s end : ℕ) (residues : List (List ℤ)) → end ≡ b.rows
    → AreResiduesAt b end (end + s * 32) residues
    → AreChannelResidues b.plan.channels.m b.plan.shift (channels_of b.plan) (b.row + b.rows)
    (b.column + b.rows + s * 32) residues
ends b s end residues e h =
    subst₂ (λ i j. AreChannelResidues b.plan.channels.m b.plan.shift (channels_of b.plan) i j residues)
    (omega (arith, e)) (omega (arith, e)) h
