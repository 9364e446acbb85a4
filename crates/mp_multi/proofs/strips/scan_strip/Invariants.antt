use Rattle.std.proofs.Common.{◌≡◌, ◌+◌, ◌-◌, ◌≤◌, length}
use Rattle.mp_multi.specs.Blocks.{AreResiduesAt, AreKeptIn, AreLimitsAt, AreScannedIn, in_strip}
use Rattle.mp_multi.proofs.strips.scan_strip.Given as goal

abbrev pub invariant-loop-done : goal.invariant-loop-done
invariant-loop-done g l =
    let b = l.strip.block in
    record {
      within : l.done ≤ l.strip.end;
      windows : length l.into.items ≡ b.windows;
      limits : AreLimitsAt l.strip l.done l.known l.into.items;
      kept : AreKeptIn b l.known.kept l.running;
      residues : 1 ≤ l.strip.end → AreResiduesAt b l.done (l.done + l.strip.offset) l.residues;
      scanned : AreScannedIn b (in_strip l.strip 0 l.done) l.fn.into l.into;
    }

abbrev pub decreases-loop-done : goal.decreases-loop-done
decreases-loop-done g l = l.strip.end - l.done
