use Rattle.std.proofs.Common.{◌<◌, ap, arith, length}
use Rattle.std.specs.Prelude.{ℕ}
use Rattle.mp_nums.specs.Listed.{Listed}
use Rattle.mp_series.specs.Samples.{numbers_in}
use Rattle.mp_sums.specs.Ranges.{AreWithin}
use Rattle.mp_anytime.specs.Kept.{without_last}
use Rattle.mp_anytime.proofs.Windows.{range_with, sample_added}
use Rattle.mp_anytime.proofs.coverage.Coverage.add_last.Goals as goal
use Rattle.mp_anytime.proofs.coverage.Coverage.add_last.Goals.{After-widen}

wide : (c : After-widen) → 0 < length c.widen.new.self.covered.items
    → AreWithin c.widen.new.self.range (numbers_in c.args.samples.now.items)
wide c some =
    let items = c.args.samples.now.items in
    range_with items (without_last items) c.args.sample c.widen.new.self.range c.args.self.now.range c.requires.last
    c.widen.ensures.range c.widen.ensures.sample
    (c.requires.is_of.listed.range (omega (
      arith,
      some,
      ap (λ (l : Listed ℕ). length l.items) c.widen.ensures.covered,
    )))

pub add_window-requires-clause-is_of : goal.add_window-requires-clause-is_of
add_window-requires-clause-is_of c =
    c.widen.ensures.is_of c.args.m (without_last c.args.samples.now.items) c.requires.is_of

pub add_window-requires-clause-range : goal.add_window-requires-clause-range
add_window-requires-clause-range c = wide (goal.at.add_window-requires-clause-range c).After-widen

pub returns-else-is_long-clause-is_of : goal.returns-else-is_long-clause-is_of
returns-else-is_long-clause-is_of c =
    let items = c.args.samples.now.items in
    sample_added c.args.m items (without_last items) c.args.sample c.widen.new.self c.requires.last
    (omega arith) (wide (goal.at.returns-else-is_long-clause-is_of c).After-widen)
    (c.widen.ensures.is_of c.args.m (without_last items) c.requires.is_of)
