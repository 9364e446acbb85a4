use Rattle.std.proofs.Common.{take, map}
use Rattle.mp_results.specs.Motifs.{repeated_of}
use Rattle.mp_replies.specs.Json.{motif_object}
use Rattle.mp_report.specs.Tokens.{tokens_of_each, Adds}
use Rattle.mp_report.proofs.json_lines.matches.push_each_motif.Given as goal

abbrev pub invariant-loop-motif : goal.invariant-loop-motif
invariant-loop-motif l =
    Adds l.initial.json l.json (tokens_of_each motif_object (map repeated_of (take l.motif-index l.list)))
