use Rattle.std.proofs.Common.{◌+◌, ◌-◌, ◌∙◌, ap, arith}
use Rattle.mp_sums.specs.Residues.{item}
use Rattle.mp_multi.specs.Moving.{channel_numbers}
use Rattle.mp_multi.proofs.LaneCounts.{handed_on, handed_item, stored_lanes}
use Rattle.mp_multi.proofs.RunLemmas.{no_moves, part_lanes, difference_fits, sum_fits, next_lane}
use Rattle.mp_multi.proofs.runs.advance_channel.Goals as goal

pub step-requires-clause-residues : goal.step-requires-clause-residues
step-requires-clause-residues c = handed_on c.load.new.residues c.load.ensures.lanes

pub step-requires-clause-differences : goal.step-requires-clause-differences
step-requires-clause-differences c =
    let b = c.args.block.now in
    let moved = b.changes.each c.args.n no_moves c.requires.channel in
    part_lanes _ c.args.c (c.args.c + 32 - c.args.c) (omega arith)
    (omega (arith, c.requires.columns, moved.column_places))
    (λ t lt. difference_fits b.plan.channels.m (channel_numbers b.plan.shift b.plan.channels.list.now c.args.n)
    b.column _ _ moved.columns (c.args.c + t) (omega (arith, lt, c.requires.columns, moved.column_places)))

pub step-requires-clause-sums : goal.step-requires-clause-sums
step-requires-clause-sums c =
    let b = c.args.block.now in
    let moved = b.changes.each c.args.n no_moves c.requires.channel in
    part_lanes _ c.args.c (c.args.c + 32 - c.args.c) (omega arith)
    (omega (arith, c.requires.columns, moved.columns.same, moved.column_places))
    (λ t lt. sum_fits b.plan.channels.m (channel_numbers b.plan.shift b.plan.channels.list.now c.args.n)
    b.column _ _ moved.columns (c.args.c + t) (omega (arith, lt, c.requires.columns, moved.column_places)))

pub store-requires-clause-residues : goal.store-requires-clause-residues
store-requires-clause-residues c = handed_on c.step.new.residues c.step.ensures.lanes

pub returns : goal.returns
returns c =
    let b = c.args.block.now in
    let moved = b.changes.each c.args.n no_moves c.requires.channel in
    record {
      lanes = stored_lanes c.step.new.residues c.store.new.numbers c.step.ensures.lanes
          (c.store.ensures.places ∙ c.requires.residues.lanes.count) c.store.ensures.stored;
      each = λ t lt.
          ap (item c.store.new.numbers) (omega arith) ∙ c.store.ensures.stored t lt
          ∙ handed_item c.step.new.residues t c.step.ensures.lanes lt
          ∙ next_lane b.plan.channels.m (channel_numbers b.plan.shift b.plan.channels.list.now c.args.n) b.row b.column
          c.args.p c.args.c t (c.args.c + 32 - c.args.c) _ _ _ moved (omega (arith, c.requires.row, b.few_rows))
          c.requires.columns (omega arith) lt
          (handed_item c.load.new.residues t c.load.ensures.lanes lt ∙ c.load.ensures.loaded t lt
          ∙ ap (item c.args.residues.now) (omega arith) ∙ c.requires.residues.each t lt)
          (c.step.ensures.moved t lt);
    }
