-- The pairs of a tile of channels in coarse sums.
use Rattle.std.proofs.Common.{◌≡◌, ℕ, ◌+◌, ◌<◌, List, map, refl, sym, ap, ◌∙◌, arith, subst}
use Rattle.std.proofs.lemmas.Bool.Decides.{nat_tests}
use Rattle.mp_defs.specs.Series.{Series, series_of}
use Rattle.mp_defs.specs.Window.{excl, is_allowed}
use Rattle.mp_results.specs.Multi.{windows_in, pair_value, multi_of}
use Rattle.mp_partial.specs.Values.{merged_column}
use Rattle.mp_tiles.specs.Among.{either_way}
use Rattle.mp_multi.specs.Among.{multi_among}
use Rattle.mp_multi.specs.Skips.{IsAheadOf}
use Rattle.mp_multi.proofs.ColumnLemmas.{least_same}
use Rattle.std.specs.Prelude.{Option}
use Rattle.mp_nums.specs.declared.nearest.Near.{Near}
use Rattle.mp_nums.specs.declared.samples.Sample.{Sample}
use Rattle.mp_nums.specs.Listed.{Listed}
use Rattle.mp_cuts.specs.declared.cuts.Tile.{Tile}
use Rattle.mp_cuts.specs.Pairs.{has_pair}
use Rattle.mp_scans.specs.Offering.{in_block}
use Rattle.mp_multi.specs.Blocks.{IsScan, AreScannedBy}
use Rattle.mp_multi.specs.declared.plans.MultiPlan.{MultiPlan}
use Rattle.mp_multi.proofs.BlockPairs.{tile_pairs}
use Rattle.mp_multi.proofs.PairScans.{scan_same}

pub tile_taken : (plan : MultiPlan) (m k : ℕ) (channels : List (List Sample)) (tile : Tile)
    (old new : Listed (Option Near)) → plan.channels.list.now ≡ channels → plan.channels.m ≡ m
    → plan.channels.k ≡ k
    → AreScannedBy plan (in_block tile.first (tile.last + 1) tile.first_row (tile.last_row + 1)) old new
    → IsScan m k channels (has_pair 0 tile) old new
tile_taken plan m k channels tile old new e f g h =
    let ch = plan.channels in
    subst (λ (c : List (List Sample)). IsScan m k c (has_pair 0 tile) old new) e
    (subst (λ n. IsScan n k ch.list.now (has_pair 0 tile) old new) f
    (subst (λ n. IsScan ch.m n ch.list.now (has_pair 0 tile) old new) g
    (scan_same ch.m ch.k ch.list.now (in_block tile.first (tile.last + 1) tile.first_row (tile.last_row + 1))
    (has_pair 0 tile) old new h (λ i j _ _. tile_pairs tile i j))))

-- the pairs that start further apart than the zone are those that are allowed
allowed : (m w i j : ℕ) → i < w → j < w → either_way (in_block (excl m + 1) w 0 w) i j ≡ is_allowed m i j
allowed m w i j lt lt' = grind (arith, nat_tests)

pub all_pairs : (m k : ℕ) (channels : List Series) (w : ℕ) → w ≡ windows_in m channels
    → multi_among (in_block (excl m + 1) w 0 w) m k channels ≡ multi_of m k channels
all_pairs m k channels w e =
    least_same (either_way (in_block (excl m + 1) w 0 w)) (is_allowed m) (pair_value m k channels)
    (windows_in m channels) (λ i j lt lt'. allowed m w i j (omega (arith, lt, e)) (omega (arith, lt', e)))

-- what is offered ahead of all pairs makes the same with the profile
pub ahead_whole : (plan : MultiPlan) (old new : Listed (Option Near)) (w first : ℕ)
    → w ≡ windows_in plan.channels.m (map series_of plan.channels.list.now) → first ≡ excl plan.channels.m + 1
    → IsAheadOf plan (in_block first w 0 w) old new
    → merged_column new.items (multi_of plan.channels.m plan.channels.k (map series_of plan.channels.list.now))
    ≡ merged_column old.items (multi_of plan.channels.m plan.channels.k (map series_of plan.channels.list.now))
ahead_whole plan old new w first e f h =
    let m = plan.channels.m in
    let k = plan.channels.k in
    let all = map series_of plan.channels.list.now in
    let found = multi_among (in_block first w 0 w) m k all in
    let after : Listed (Option Near) = record { items = merged_column new.items found; spare = new.spare } in
    let same : found ≡ multi_of m k all =
    ap (λ n. multi_among (in_block n w 0 w) m k all) f ∙ all_pairs m k all w e in
    let scanned = h.all after (record { items = refl; spare = refl }) in
    ap (merged_column new.items) (sym same) ∙ scanned.items ∙ ap (merged_column old.items) same
