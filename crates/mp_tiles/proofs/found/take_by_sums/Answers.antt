use Rattle.std.proofs.Common.{◌≡◌, [], ◌∷◌, length, refl, sym, subst, ◌∙◌}
use Rattle.mp_defs.specs.Profile.{Columns, windows_of}
use Rattle.mp_defs.specs.SeriesLaws.{series_are_of_samples}
use Rattle.mp_partial.specs.Values.{Value, merged_column, merged_columns}
use Rattle.mp_cuts.specs.Pairs.{has_pair}
use Rattle.mp_tiles.specs.Plans.{row_series}
use Rattle.mp_tiles.specs.Among.{profile_among}
use Rattle.mp_tiles.specs.Sides.{Sided, HaveSides}
use Rattle.mp_tiles.specs.Scanning.{AreSided}
use Rattle.mp_tiles.specs.OfferingLaws.{sides_stay}
use Rattle.mp_tiles.specs.Pieces.{sides_value, two_columns}
use Rattle.mp_tiles.proofs.found.take_by_sums.Goals as goal

sides_taken : (old new : Sided) (p : Columns) → new.left ≡ merged_column old.left p.left
    → new.right ≡ merged_column old.right p.right
    → ◌≡◌ {A = Value} (new.left ∷ new.right ∷ []) (merged_columns (old.left ∷ old.right ∷ []) (sides_value p))
sides_taken old new p e f = cc

scanned : (c : goal.After-scan_blocks)
    → AreSided (has_pair 0 c.args.tile.now) c.args.coarse.now.plan.grid.m (row_series c.args.coarse.now.plan)
    c.args.into.now c.scan_blocks.new.into
scanned c =
    let plan = c.args.coarse.now.plan in
    subst (λ (s : Sided). AreSided (has_pair 0 c.args.tile.now) plan.grid.m (row_series plan) s c.scan_blocks.new.into)
    c.round_by.ensures c.scan_blocks.ensures.scanned

pub returns-clause-value : goal.returns-clause-value
returns-clause-value c =
    let plan = c.args.coarse.now.plan in
    sides_taken c.args.into.now c.scan_blocks.new.into
    (profile_among (has_pair 0 c.args.tile.now) plan.grid.m (row_series plan))
    (scanned c).left (scanned c).right

places : (c : goal.After-scan_blocks)
    → HaveSides (windows_of c.args.coarse.now.plan.grid.m (row_series c.args.coarse.now.plan)) c.args.into.now
places c =
    let plan = c.args.coarse.now.plan in
    let same : length c.args.into.now.left ≡ windows_of plan.grid.m (row_series plan) =
    c.requires.places ∙ sym (series_are_of_samples.windows_are plan.grid.m plan.grid.rows.now) in
    record { left = same; right = sym c.len-windows.ensures.right ∙ c.len-windows.ensures.left ∙ same }

stay : (c : goal.After-scan_blocks)
    → HaveSides (windows_of c.args.coarse.now.plan.grid.m (row_series c.args.coarse.now.plan)) c.scan_blocks.new.into
stay c =
    let plan = c.args.coarse.now.plan in
    sides_stay (has_pair 0 c.args.tile.now) plan.grid.m (row_series plan) c.args.into.now c.scan_blocks.new.into
    (places c)
    (scanned c)

pub returns-clause-size : goal.returns-clause-size
returns-clause-size c = (stay c).left ∙ sym (places c).left

pub returns-clause-is_value : goal.returns-clause-is_value
returns-clause-is_value c = two_columns _ _ _ refl ((stay c).right ∙ sym (stay c).left)

pub returns-clause-room : goal.returns-clause-room
returns-clause-room c = (scanned c).room
