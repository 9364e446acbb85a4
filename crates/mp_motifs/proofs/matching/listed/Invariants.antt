use Rattle.std.proofs.Common.{◌≡◌, ◌++◌, map, take}
use Rattle.std.specs.Option.{option_to_list}
use Rattle.mp_motifs.specs.Retold.{near_of}
use Rattle.mp_motifs.proofs.matching.listed.Given as goal

abbrev pub invariant-loop-candidate : goal.invariant-loop-candidate
invariant-loop-candidate l = l.list.items ≡ option_to_list l.fn.given ++ map near_of (take l.candidate-index l.found)
