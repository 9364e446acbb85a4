use Rattle.std.proofs.Common.{◌∙◌, [], arith, refl, subst, sym}
use Rattle.mp_defs.specs.Series.{series_of}
use Rattle.mp_defs.specs.Profile.{windows_of}
use Rattle.mp_tiles.specs.Scanning.{HasPlaces}
use Rattle.mp_anytime.specs.Diagonals.{Along}
use Rattle.mp_anytime.specs.Scanning.{starts_behind}
use Rattle.mp_anytime.proofs.Scans.{part_places, piece_columns, piece_taken, still_places}
use Rattle.mp_anytime.proofs.residue_kernels.ResidueDiagonalsKernel.run.Goals as goal

pub take_along-requires-clause-places : goal.take_along-requires-clause-places
take_along-requires-clause-places c =
    let plan = c.self.inside.narrow.plan in
    let own : Along = record { samples = plan.grid.rows.now; m = plan.grid.m; offsets = c.self.inside.offsets.now } in
    let sized = c.size-windows.ensures in
    subst (λ w. HasPlaces w c.args.into.now) (sym c.self.inside.narrow.lists.marks.places)
    (part_places own c.args.self.now c.args.into.now c.self.view_is c.requires.size
    (sym sized.size ∙ sym (sized.is_value.places 1 [] (omega arith)))
    (sym sized.size ∙ sym (sized.is_value.places 2 [] (omega arith))))

pub returns-clause-value : goal.returns-clause-value
returns-clause-value c =
    let plan = c.self.inside.narrow.plan in
    let own : Along = record { samples = plan.grid.rows.now; m = plan.grid.m; offsets = c.self.inside.offsets.now } in
    piece_taken own c.args.self.now c.args.piece _ c.args.into.now c.take_along.new.self c.self.view_is
    refl c.take_along.ensures

pub returns-clause-size : goal.returns-clause-size
returns-clause-size c =
    let plan = c.self.inside.narrow.plan in
    let own : Along = record { samples = plan.grid.rows.now; m = plan.grid.m; offsets = c.self.inside.offsets.now } in
    let sized = c.size-windows.ensures in
    let old = part_places own c.args.self.now c.args.into.now c.self.view_is c.requires.size
    (sym sized.size ∙ sym (sized.is_value.places 1 [] (omega arith)))
    (sym sized.size ∙ sym (sized.is_value.places 2 [] (omega arith))) in
    let new = still_places (starts_behind _) plan.grid.m (series_of plan.grid.rows.now) c.args.into.now
    c.take_along.new.self old c.take_along.ensures in
    new.all ∙ sym old.all

pub returns-clause-is_value : goal.returns-clause-is_value
returns-clause-is_value c =
    let plan = c.self.inside.narrow.plan in
    let own : Along = record { samples = plan.grid.rows.now; m = plan.grid.m; offsets = c.self.inside.offsets.now } in
    let sized = c.size-windows.ensures in
    let old = part_places own c.args.self.now c.args.into.now c.self.view_is c.requires.size
    (sym sized.size ∙ sym (sized.is_value.places 1 [] (omega arith)))
    (sym sized.size ∙ sym (sized.is_value.places 2 [] (omega arith))) in
    piece_columns (windows_of plan.grid.m (series_of plan.grid.rows.now)) c.take_along.new.self
    (still_places (starts_behind _) plan.grid.m (series_of plan.grid.rows.now) c.args.into.now
    c.take_along.new.self old c.take_along.ensures)

pub returns-clause-room : goal.returns-clause-room
returns-clause-room c = c.take_along.ensures.sides.room
