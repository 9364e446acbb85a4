use Rattle.std.proofs.Common.{◌≡◌, ◌+◌, ◌-◌, ◌*◌, ◌≤◌, ◌++◌, length, take, false, true}
use Rattle.mp_series.specs.Samples.{numbers_in}
use Rattle.mp_sums.specs.Ranges.{AreWithin, SumsFit}
use Rattle.mp_anytime.specs.Kept.{IsListed, OnlyReads}
use Rattle.mp_anytime.specs.Sums.{room_of}
use Rattle.mp_anytime.proofs.coverage.Coverage.cover.Given as goal

abbrev pub invariant-loop-diagonal : goal.invariant-loop-diagonal
invariant-loop-diagonal l = record {
  listed : IsListed l.m l.fn.samples.items l.self;
  covered : l.self.covered.items ≡ l.initial.self.covered.items ++ take l.diagonal-index l.chosen;
  covered_room : length l.chosen - l.diagonal-index ≤ l.self.covered.spare;
  sums_room : room_of l.self.sums ≡ room_of l.initial.self.sums;
  profile : l.self.profile ≡ l.initial.self.profile;
  limits : l.self.limits ≡ l.initial.self.limits;
  known : l.self.are_limits_known ≡ false;
  range : AreWithin l.self.range (numbers_in l.fn.samples.items);
  close : l.are_close ≡ true → SumsFit l.m 63 l.self.range;
  read : OnlyReads (2 * l.m * l.diagonal-index + 2 * length l.fn.samples.items) l.fn.samples l.samples;
}
