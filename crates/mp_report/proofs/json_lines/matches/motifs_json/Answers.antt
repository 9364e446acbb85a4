use Rattle.std.proofs.Common.{map}
use Rattle.mp_results.specs.Motifs.{repeated_of}
use Rattle.mp_replies.specs.Json.{motifs_data}
use Rattle.mp_report.proofs.TokenLemmas.{line_says}
use Rattle.mp_report.proofs.json_lines.matches.motifs_json.Goals as goal

pub returns : goal.returns
returns c =
    line_says c.end_line.result c.in_ok-json.json c.push_motifs_report.new.json
    (motifs_data c.args.line (map repeated_of c.args.list.now))
    c.in_ok-json.ensures c.in_ok-push_motifs_report.ensures c.end_line.ensures
