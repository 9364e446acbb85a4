use Rattle.std.proofs.Common.{option_map}
use Rattle.mp_results.specs.Consensus.{central}
use Rattle.mp_replies.specs.Json.{consensus_data}
use Rattle.mp_report.proofs.TokenLemmas.{line_says}
use Rattle.mp_report.proofs.json_lines.channels.consensus_json.Goals as goal

pub returns : goal.returns
returns c =
    line_says c.end_line.result c.in_ok-json.json c.push_consensus.new.json
    (consensus_data c.args.line (option_map (λ c. central c.now) c.args.centre))
    c.in_ok-json.ensures c.in_ok-push_consensus.ensures c.end_line.ensures
