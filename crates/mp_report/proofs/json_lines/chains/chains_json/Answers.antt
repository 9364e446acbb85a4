use Rattle.std.proofs.Common.{ℕ, map}
use Rattle.mp_nums.specs.Listed.{Listed}
use Rattle.mp_replies.specs.Json.{chains_data}
use Rattle.mp_report.proofs.TokenLemmas.{line_says}
use Rattle.mp_report.proofs.json_lines.chains.chains_json.Goals as goal

pub returns : goal.returns
returns c =
    line_says c.end_line.result c.in_ok-json.json c.push_chains_report.new.json
    (chains_data c.args.line (map (λ (chain : Listed ℕ). chain.items) c.args.chains.now) c.args.longest)
    c.in_ok-json.ensures c.in_ok-push_chains_report.ensures c.end_line.ensures
