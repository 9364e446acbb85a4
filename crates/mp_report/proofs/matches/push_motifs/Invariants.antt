use Rattle.std.proofs.Common.{◌≡◌, ◌++◌, take, map}
use Rattle.std.specs.Prelude.{flat_map}
use Rattle.mp_results.specs.Motifs.{repeated_of}
use Rattle.mp_replies.specs.MotifsCommand.{motif_text}
use Rattle.mp_report.proofs.matches.push_motifs.Given as goal

abbrev pub invariant-loop-motif : goal.invariant-loop-motif
invariant-loop-motif l =
    l.text.items ≡ l.initial.text.items ++ flat_map motif_text (map repeated_of (take l.motif-index l.list))
