use Rattle.mp_replies.specs.Json.{chain_data}
use Rattle.mp_report.proofs.TokenLemmas.{line_says}
use Rattle.mp_report.proofs.json_lines.chains.chain_json.Goals as goal

pub returns : goal.returns
returns c =
    line_says c.end_line.result c.in_ok-json.json c.push_chain.new.json
    (chain_data c.args.line c.args.chain.now)
    c.in_ok-json.ensures c.in_ok-push_chain.ensures c.end_line.ensures
