use Rattle.std.proofs.Common.{map}
use Rattle.mp_nums.specs.Listed.{Listed}
use Rattle.mp_nums.specs.declared.nearest.Near.{Near}
use Rattle.mp_replies.specs.Json.{nearest_data}
use Rattle.mp_report.proofs.TokenLemmas.{line_says}
use Rattle.mp_report.proofs.json_lines.ranks.nearest_json.Goals as goal

pub returns : goal.returns
returns c =
    line_says c.end_line.result c.in_ok-json.json c.push_nearest.new.json
    (nearest_data c.args.line (map (λ (near : Listed Near). near.items) c.args.list.now))
    c.in_ok-json.ensures c.in_ok-push_nearest.ensures c.end_line.ensures
