use Rattle.std.proofs.Common.{◌≡◌, ◌+◌, ◌-◌, ◌≤◌, ◌⊎◌, length}
use Rattle.std.specs.Int.{div_ceil}
use Rattle.mp_scans.specs.Offering.{in_block}
use Rattle.mp_multi.specs.Blocks.{AreScannedBy, AreStripsAt, AreFit}
use Rattle.mp_multi.specs.Exacts.{AreKept}
use Rattle.mp_multi.specs.declared.sizes.TheConstants.{STRIPS}
use Rattle.mp_multi.proofs.groups.scan_group.Given as goal

abbrev pub invariant-loop-row : goal.invariant-loop-row
invariant-loop-row g l =
    let group = l.group in
    record {
      after : l.top ≤ l.row;
      order : (l.row ≤ l.end) ⊎ (l.row ≡ l.top);
      windows : length l.into.items ≡ group.windows;
      places : length l.places ≡ STRIPS;
      moves : length l.moves ≡ g.row.D;
      limits : AreFit l.known;
      kept : AreKept group.plan.channels.m group.plan.channels.list.now group.first l.known.kept l.running;
      scanned : AreScannedBy group.plan (in_block group.first (group.first + group.width) l.top l.row) l.fn.into
          l.into;
      residues : AreStripsAt group.plan group.windows (div_ceil group.width 32) l.row (l.row + group.first) l.places;
    }

abbrev pub decreases-loop-row : goal.decreases-loop-row
decreases-loop-row g l = l.end - l.row
