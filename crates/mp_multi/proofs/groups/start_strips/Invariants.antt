use Rattle.std.proofs.Common.{◌≡◌, ◌+◌, length}
use Rattle.mp_multi.specs.Blocks.{AreStripsAt}
use Rattle.mp_multi.specs.declared.sizes.TheConstants.{STRIPS}
use Rattle.mp_multi.proofs.groups.start_strips.Given as goal

abbrev pub invariant-loop-s : goal.invariant-loop-s
invariant-loop-s g l = record {
  places : length l.places ≡ STRIPS;
  done : AreStripsAt l.group.plan l.group.windows l.s l.row (l.row + l.group.first) l.places;
}
