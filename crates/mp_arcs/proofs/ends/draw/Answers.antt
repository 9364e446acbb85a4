use Rattle.std.proofs.Common.{arith, length}
use Rattle.std.specs.Prelude.{None}
use Rattle.std.proofs.lemmas.Option.{slice_get_within}
use Rattle.mp_arcs.proofs.EndChanges.{lesser_within, greater_within, count_bound, AreEnds-draw}
use Rattle.std.specs.Prelude.{min, max}
use Rattle.mp_arcs.proofs.ends.draw.Goals as goal

pub overflow_add-begun : goal.overflow_add-begun
overflow_add-begun c =
    let inside = slice_get_within c.args.indices.now c.args.i None c.requires.window in
    let within = lesser_within c.args.i c.args.j (length c.args.indices.now) c.min.result
    c.min.ensures inside c.requires.named in
    let bound = count_bound min c.args.indices.now c.args.begun.now c.args.i c.args.j
    c.min.result c.min.ensures c.requires.ends.begun_is within c.requires.ends.few in
    omega (arith, bound)

pub offset_bounds-ended-max : goal.offset_bounds-ended-max
offset_bounds-ended-max c =
    let inside = slice_get_within c.args.indices.now c.args.i None c.requires.window in
    let within = greater_within c.args.i c.args.j (length c.args.indices.now) c.max.result
    c.max.ensures inside c.requires.named in
    omega (arith, within, c.requires.ends.few)

pub bounds-ended-max : goal.bounds-ended-max
bounds-ended-max c =
    let inside = slice_get_within c.args.indices.now c.args.i None c.requires.window in
    let within = greater_within c.args.i c.args.j (length c.args.indices.now) c.max.result
    c.max.ensures inside c.requires.named in
    omega (arith, within, c.requires.ends.ended_is.as_long)

pub overflow_add-ended : goal.overflow_add-ended
overflow_add-ended c =
    let inside = slice_get_within c.args.indices.now c.args.i None c.requires.window in
    let within = greater_within c.args.i c.args.j (length c.args.indices.now) c.max.result
    c.max.ensures inside c.requires.named in
    let bound = count_bound max c.args.indices.now c.args.ended.now c.args.i c.args.j
    c.max.result c.max.ensures c.requires.ends.ended_is within c.requires.ends.few in
    omega (arith, bound)

pub bounds-ended-max-2 : goal.bounds-ended-max-2
bounds-ended-max-2 c =
    let inside = slice_get_within c.args.indices.now c.args.i None c.requires.window in
    let within = greater_within c.args.i c.args.j (length c.args.indices.now) c.max.result
    c.max.ensures inside c.requires.named in
    omega (arith, within, c.requires.ends.ended_is.as_long)

pub offset_bounds-indices-i : goal.offset_bounds-indices-i
offset_bounds-indices-i c =
    let inside = slice_get_within c.args.indices.now c.args.i None c.requires.window in
    omega (arith, inside, c.requires.ends.few)

pub bounds-indices-i : goal.bounds-indices-i
bounds-indices-i c = slice_get_within c.args.indices.now c.args.i None c.requires.window

pub returns-clause-ends : goal.returns-clause-ends
returns-clause-ends c =
    AreEnds-draw c.args.indices.now c.args.begun.now c.args.ended.now c.args.i c.args.j
    c.min.result
    c.max.result
    c.min.ensures
    c.max.ensures
    c.requires.window
    c.requires.named
    c.requires.ends
