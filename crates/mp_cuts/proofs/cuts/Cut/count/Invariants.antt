use Rattle.std.proofs.Common.{◌≡◌, length}
use Rattle.mp_cuts.specs.CutLaws.{tiles_below}
use Rattle.mp_cuts.proofs.cuts.Cut.count.Given as goal

abbrev pub invariant-loop-band : goal.invariant-loop-band
invariant-loop-band l = l.count ≡ length (tiles_below l.self-inside.region l.band)
