use Rattle.std.proofs.Common.{map}
use Rattle.mp_results.specs.Motifs.{repeated_of}
use Rattle.mp_replies.specs.Json.{motif_object}
use Rattle.mp_report.proofs.TokenLemmas.{array_says}
use Rattle.mp_report.proofs.json_lines.matches.push_motifs.Goals as goal

pub returns : goal.returns
returns c =
    array_says motif_object (map repeated_of c.args.list.now)
    c.args.json.now c.begin_array.new.self c.push_each_motif.new.json c.end_array.new.self
    (c.in_ok-begin_array.ensures.room.0, c.in_ok-begin_array.ensures.ok) c.in_ok-push_each_motif.ensures
    (c.in_ok-end_array.ensures.room.0, c.in_ok-end_array.ensures.ok)
