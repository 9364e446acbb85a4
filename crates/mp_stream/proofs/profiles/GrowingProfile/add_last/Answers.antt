use Rattle.std.proofs.Common.{arith, sym, subst}
use Rattle.mp_series.specs.Samples.{numbers_in}
use Rattle.mp_sums.specs.Ranges.{AreWithin}
use Rattle.mp_stream.specs.Blocks.{StayKnown}
use Rattle.mp_stream.specs.Streams.{without_last}
use Rattle.mp_stream.proofs.Growing.{covered, all_stay, range_grows, front_within}
use Rattle.mp_stream.proofs.profiles.GrowingProfile.add_last.Goals as goal

pub append_window-requires-clause-is_of : goal.append_window-requires-clause-is_of
append_window-requires-clause-is_of c =
    let items = c.args.samples.now.items in
    let range = c.range_with-range.result in
    let front = front_within items c.args.self.now.range range c.len.result c.len.ensures.length
    c.range_with-range.ensures.wider c.requires.is_of.row.range in
    covered c.args.m items c.args.sample c.args.self.now c.cover.new.self range c.len.result c.requires.last
    c.len.ensures.length c.range_with-range.ensures.first c.range_with-range.ensures.wider c.cover.ensures.range
    c.cover.ensures.bits c.cover.ensures.profile c.requires.is_of
    (c.cover.ensures.row (without_last items) c.requires.is_of.row front)

pub append_window-requires-clause-range : goal.append_window-requires-clause-range
append_window-requires-clause-range c =
    let items = c.args.samples.now.items in
    let range = c.range_with-range.result in
    let front = front_within items c.args.self.now.range range c.len.result c.len.ensures.length
    c.range_with-range.ensures.wider c.requires.is_of.row.range in
    subst (λ r. AreWithin r (numbers_in items)) (sym c.cover.ensures.range)
    (range_grows range (without_last items) items c.args.sample c.requires.last front c.range_with-range.ensures.within)

pub returns-else-from-len-clause-is_of : goal.returns-else-from-len-clause-is_of
returns-else-from-len-clause-is_of c =
    let items = c.args.samples.now.items in
    let range = c.range_with-range.result in
    let front = front_within items c.args.self.now.range range c.len.result c.len.ensures.length
    c.range_with-range.ensures.wider c.requires.is_of.row.range in
    all_stay c.args.m items c.cover.new.self (omega arith)
    (subst (λ r. AreWithin r (numbers_in items)) (sym c.cover.ensures.range)
    (range_grows range (without_last items) items c.args.sample c.requires.last front
    c.range_with-range.ensures.within))
    (covered c.args.m items c.args.sample c.args.self.now c.cover.new.self range c.len.result c.requires.last
    c.len.ensures.length c.range_with-range.ensures.first c.range_with-range.ensures.wider c.cover.ensures.range
    c.cover.ensures.bits c.cover.ensures.profile c.requires.is_of
    (c.cover.ensures.row (without_last items) c.requires.is_of.row front))

pub returns-then-from-len-clause-known : goal.returns-then-from-len-clause-known
returns-then-from-len-clause-known c =
    subst (λ profile. StayKnown profile c.append_window.new.self.entries.profile) c.cover.ensures.profile
    c.append_window.ensures.known
