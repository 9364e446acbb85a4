use Rattle.std.proofs.Common.{ℕ, map}
use Rattle.mp_nums.specs.Listed.{Listed}
use Rattle.mp_replies.specs.Json.{listed, number_of}
use Rattle.mp_report.proofs.TokenLemmas.{array_says}
use Rattle.mp_report.proofs.json_lines.chains.push_chains.Goals as goal

pub returns : goal.returns
returns c =
    array_says (listed number_of) (map (λ (chain : Listed ℕ). chain.items) c.args.chains.now)
    c.args.json.now c.begin_array.new.self c.push_each_chain.new.json c.end_array.new.self
    (c.in_ok-begin_array.ensures.room.0, c.in_ok-begin_array.ensures.ok) c.in_ok-push_each_chain.ensures
    (c.in_ok-end_array.ensures.room.0, c.in_ok-end_array.ensures.ok)
