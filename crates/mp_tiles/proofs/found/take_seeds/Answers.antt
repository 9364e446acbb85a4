use Rattle.std.proofs.Common.{◌≡◌, ℕ, ◌+◌, ◌<◌, List, length, Bool, refl, sym, ap, subst, ◌∙◌}
use Rattle.mp_nums.specs.declared.samples.Sample.{Sample}
use Rattle.mp_defs.specs.Series.{series_of}
use Rattle.mp_defs.specs.Window.{excl, is_allowed}
use Rattle.mp_defs.specs.Profile.{windows_of}
use Rattle.mp_defs.specs.SeriesLaws.{series_are_of_samples}
use Rattle.mp_scans.specs.Offering.{in_block}
use Rattle.mp_scans.specs.Windows.{row_windows, column_windows}
use Rattle.mp_tiles.specs.Among.{either_way}
use Rattle.mp_tiles.specs.Plans.{row_series}
use Rattle.mp_tiles.specs.Sides.{Sided, HaveSides}
use Rattle.mp_tiles.specs.Pieces.{two_columns}
use Rattle.mp_tiles.proofs.SeedLemmas.{AreAhead, all_pairs, ahead_left, ahead_right, ahead_room}
use Rattle.mp_tiles.proofs.found.take_seeds.Goals as goal

abbrev pairs : goal.After-scan_seeds → ℕ → ℕ → Bool
pairs c =
    let grid = c.args.coarse.now.plan.grid in
    in_block (c.excl.result + 1) (column_windows grid) 0 (row_windows grid)

ahead : (c : goal.After-scan_seeds)
    → AreAhead (pairs c) c.args.coarse.now.plan.grid.m (row_series c.args.coarse.now.plan) c.args.into.now
    c.scan_seeds.new.into
ahead c =
    let plan = c.args.coarse.now.plan in
    subst (λ (s : Sided). AreAhead (pairs c) plan.grid.m (row_series plan) s c.scan_seeds.new.into) c.round_by.ensures
    (λ after s. c.scan_seeds.ensures.ahead.all after s)

allowed : (c : goal.After-scan_seeds) (i j : ℕ)
    → i < windows_of c.args.coarse.now.plan.grid.m (row_series c.args.coarse.now.plan)
    → j < windows_of c.args.coarse.now.plan.grid.m (row_series c.args.coarse.now.plan)
    → either_way (pairs c) i j ≡ is_allowed c.args.coarse.now.plan.grid.m i j
allowed c i j lt lt' =
    let plan = c.args.coarse.now.plan in
    let w = windows_of plan.grid.m (row_series plan) in
    let zone : c.excl.result ≡ excl plan.grid.m = c.excl.ensures ∙ ap excl plan.same_length in
    let columns : column_windows plan.grid ≡ w =
    ap (λ (xs : List Sample). windows_of plan.grid.m (series_of xs)) c.requires.same in
    ap (λ n. either_way (in_block (n + 1) (column_windows plan.grid) 0 w) i j) zone
    ∙ ap (λ n. either_way (in_block (excl plan.grid.m + 1) n 0 w) i j) columns
    ∙ all_pairs (excl plan.grid.m) w i j lt lt'

pub returns-clause-left : goal.returns-clause-left
returns-clause-left c =
    let plan = c.args.coarse.now.plan in
    ahead_left (pairs c) plan.grid.m (row_series plan) c.args.into.now c.scan_seeds.new.into (ahead c) (allowed c)

pub returns-clause-right : goal.returns-clause-right
returns-clause-right c =
    let plan = c.args.coarse.now.plan in
    ahead_right (pairs c) plan.grid.m (row_series plan) c.args.into.now c.scan_seeds.new.into (ahead c) (allowed c)

pub returns-clause-room : goal.returns-clause-room
returns-clause-room c =
    let plan = c.args.coarse.now.plan in
    ahead_room (pairs c) plan.grid.m (row_series plan) c.args.into.now c.scan_seeds.new.into (ahead c)

places : (c : goal.After-scan_seeds)
    → HaveSides (windows_of c.args.coarse.now.plan.grid.m (row_series c.args.coarse.now.plan)) c.args.into.now
places c =
    let plan = c.args.coarse.now.plan in
    let same : length c.args.into.now.left ≡ windows_of plan.grid.m (row_series plan) =
    c.requires.places ∙ sym (series_are_of_samples.windows_are plan.grid.m plan.grid.rows.now) in
    record { left = same; right = sym c.len-windows.ensures.right ∙ c.len-windows.ensures.left ∙ same }

pub returns-clause-size : goal.returns-clause-size
returns-clause-size c = c.scan_seeds.ensures.fits.0.left ∙ sym (places c).left

pub returns-clause-is_value : goal.returns-clause-is_value
returns-clause-is_value c =
    two_columns _ _ _ refl (c.scan_seeds.ensures.fits.0.right ∙ sym c.scan_seeds.ensures.fits.0.left)
