use Rattle.std.proofs.Common.{◌≡◌, ℕ, ◌+◌, ◌-◌, ◌*◌, ◌<◌, ◌≤◌, length, get_or, [], min}
use Rattle.std.specs.Int.{div_ceil}
use Rattle.mp_scans.specs.Limiting.{first_on}
use Rattle.mp_scans.specs.Offering.{in_block}
use Rattle.mp_multi.specs.Blocks.{channels_of, AreKeptIn, AreLimits, AreScannedIn}
use Rattle.mp_multi.specs.Lanes.{AreChannelResidues}
use Rattle.mp_multi.specs.declared.sizes.TheConstants.{STRIPS}
use Rattle.mp_multi.proofs.groups.scan_block.Given as goal

abbrev pub invariant-loop-strips : goal.invariant-loop-strips
invariant-loop-strips g l =
    let b = l.block in
    let first = b.column - b.row in
    record {
      few : l.strips ≤ div_ceil b.width 32;
      windows : length l.into.items ≡ b.windows;
      places : length l.places ≡ STRIPS;
      limits : AreLimits b (first_on (l.strips * 32)) l.known l.into.items;
      kept : AreKeptIn b l.known.kept l.running;
      scanned : AreScannedIn b
          (in_block (first + min (l.strips * 32) b.width) (first + b.width) b.row (b.row + b.rows)) l.fn.into l.into;
      done : (q : ℕ) → l.strips ≤ q → q < div_ceil b.width 32 → b.column + b.rows + q * 32 < b.windows
          → AreChannelResidues b.plan.channels.m b.plan.shift (channels_of b.plan) (b.row + b.rows)
          (b.column + b.rows + q * 32) (get_or l.places q []);
      left : (q : ℕ) → q < l.strips → b.column + q * 32 < b.windows
          → AreChannelResidues b.plan.channels.m b.plan.shift (channels_of b.plan) b.row (b.column + q * 32)
          (get_or l.places q []);
    }

abbrev pub decreases-loop-strips : goal.decreases-loop-strips
decreases-loop-strips g l = l.strips
