use Rattle.std.proofs.Common.{arith, length}
use Rattle.std.specs.Prelude.{min, max}
use Rattle.mp_arcs.proofs.EndChanges.{lesser_within, greater_within, count_some, some_at, AreEnds-erase}
use Rattle.mp_arcs.proofs.ends.erase.Goals as goal

pub overflow_sub-begun : goal.overflow_sub-begun
overflow_sub-begun c =
    let is = some_at c.args.indices.now c.args.i c.in-Some.j c.requires.window c.in-Some.is in
    let named = c.requires.ends.named c.args.i c.in-Some.j is in
    let within = lesser_within c.args.i c.in-Some.j (length c.args.indices.now) c.min.result
    c.min.ensures c.requires.window named in
    let bound = count_some min c.args.indices.now c.args.begun.now c.args.i c.in-Some.j
    c.min.result c.min.ensures c.requires.ends.begun_is within is in
    omega (arith, bound)

pub offset_bounds-ended-max : goal.offset_bounds-ended-max
offset_bounds-ended-max c =
    let is = some_at c.args.indices.now c.args.i c.in-Some.j c.requires.window c.in-Some.is in
    let named = c.requires.ends.named c.args.i c.in-Some.j is in
    let within = greater_within c.args.i c.in-Some.j (length c.args.indices.now) c.max.result
    c.max.ensures c.requires.window named in
    omega (arith, within, c.requires.ends.few)

pub bounds-ended-max : goal.bounds-ended-max
bounds-ended-max c =
    let is = some_at c.args.indices.now c.args.i c.in-Some.j c.requires.window c.in-Some.is in
    let named = c.requires.ends.named c.args.i c.in-Some.j is in
    let within = greater_within c.args.i c.in-Some.j (length c.args.indices.now) c.max.result
    c.max.ensures c.requires.window named in
    omega (arith, within, c.requires.ends.ended_is.as_long)

pub overflow_sub-ended : goal.overflow_sub-ended
overflow_sub-ended c =
    let is = some_at c.args.indices.now c.args.i c.in-Some.j c.requires.window c.in-Some.is in
    let named = c.requires.ends.named c.args.i c.in-Some.j is in
    let within = greater_within c.args.i c.in-Some.j (length c.args.indices.now) c.max.result
    c.max.ensures c.requires.window named in
    let bound = count_some max c.args.indices.now c.args.ended.now c.args.i c.in-Some.j
    c.max.result c.max.ensures c.requires.ends.ended_is within is in
    omega (arith, bound)

pub bounds-ended-max-in-Some : goal.bounds-ended-max-in-Some
bounds-ended-max-in-Some c =
    let is = some_at c.args.indices.now c.args.i c.in-Some.j c.requires.window c.in-Some.is in
    let named = c.requires.ends.named c.args.i c.in-Some.j is in
    let within = greater_within c.args.i c.in-Some.j (length c.args.indices.now) c.max.result
    c.max.ensures c.requires.window named in
    omega (arith, within, c.requires.ends.ended_is.as_long)

pub returns-in-Some-clause-ends : goal.returns-in-Some-clause-ends
returns-in-Some-clause-ends c =
    AreEnds-erase c.args.indices.now c.args.begun.now c.args.ended.now c.args.i c.in-Some.j
    c.min.result
    c.max.result
    c.min.ensures
    c.max.ensures
    (some_at c.args.indices.now c.args.i c.in-Some.j c.requires.window c.in-Some.is)
    c.requires.ends
