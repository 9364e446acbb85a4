use Rattle.std.proofs.Common.{arith, subst, sym}
use Rattle.mp_series.specs.Samples.{numbers_in}
use Rattle.mp_sums.specs.Ranges.{AreWithin}
use Rattle.mp_stream.specs.Streams.{HaveRows, without_last}
use Rattle.mp_stream.proofs.Growing.{front_within, range_grows, row_stays, without_last_long}
use Rattle.mp_stream.proofs.KeptRows.{added_as, last_covered, last_stays}
use Rattle.mp_stream.proofs.kept_profiles.add_sample.Goals as goal

pub cover-requires : goal.cover-requires
cover-requires c =
    let of = c.requires.is_of in
    record {
      rows = subst (λ n. HaveRows n c.args.growing.now) (sym of.row.frees) of.row.rows;
      limits = of.row.limits.places;
    }

pub add_window-requires-clause-is_of : goal.add_window-requires-clause-is_of
add_window-requires-clause-is_of c =
    let items = c.args.ring.now.items in
    let front = front_within items c.args.growing.now.range c.range_with-range.result c.len.result
    c.len.ensures.length c.range_with-range.ensures.wider c.requires.is_of.row.range in
    last_covered c.args.m (without_last items) c.args.ring.now.dropped c.args.growing.now c.cover.new.self
    c.cover.ensures.profile (c.cover.ensures.row (without_last items) c.requires.is_of.row front) c.requires.is_of

pub add_window-requires-clause-range : goal.add_window-requires-clause-range
add_window-requires-clause-range c =
    let items = c.args.ring.now.items in
    let range = c.range_with-range.result in
    let front = front_within items c.args.growing.now.range range c.len.result c.len.ensures.length
    c.range_with-range.ensures.wider c.requires.is_of.row.range in
    subst (λ r. AreWithin r (numbers_in items)) (sym c.cover.ensures.range)
    (range_grows range (without_last items) items c.args.sample c.requires.last front c.range_with-range.ensures.within)

pub returns-then-from-len-clause-added : goal.returns-then-from-len-clause-added
returns-then-from-len-clause-added c = λ long.
    added_as c.args.m c.args.ring.now.items c.cover.new.self c.args.growing.now _ c.cover.ensures.profile
    c.add_window.ensures.added

pub returns-else-from-len-clause-is_of : goal.returns-else-from-len-clause-is_of
returns-else-from-len-clause-is_of c =
    let items = c.args.ring.now.items in
    let range = c.range_with-range.result in
    let front = front_within items c.args.growing.now.range range c.len.result c.len.ensures.length
    c.range_with-range.ensures.wider c.requires.is_of.row.range in
    let row = c.cover.ensures.row (without_last items) c.requires.is_of.row front in
    last_stays c.args.m items c.args.ring.now.dropped c.cover.new.self (omega (arith, without_last_long items))
    (row_stays c.args.m items c.cover.new.self (omega arith)
    (subst (λ r. AreWithin r (numbers_in items)) (sym c.cover.ensures.range)
    (range_grows range (without_last items) items c.args.sample c.requires.last front
    c.range_with-range.ensures.within)) row)
    (last_covered c.args.m (without_last items) c.args.ring.now.dropped c.args.growing.now c.cover.new.self
    c.cover.ensures.profile row c.requires.is_of)
