use Rattle.std.proofs.Common.{map}
use Rattle.std.specs.List.{enumerate_from}
use Rattle.mp_nums.specs.Listed.{Listed}
use Rattle.mp_nums.specs.declared.nearest.Near.{Near}
use Rattle.mp_replies.specs.Json.{ranks_object}
use Rattle.mp_report.proofs.TokenLemmas.{array_says}
use Rattle.mp_report.proofs.json_lines.ranks.push_lists.Goals as goal

pub returns : goal.returns
returns c =
    array_says ranks_object (enumerate_from 0 (map (λ (near : Listed Near). near.items) c.args.lists.now))
    c.args.json.now c.begin_array.new.self c.push_each_list.new.json c.end_array.new.self
    (c.in_ok-begin_array.ensures.room.0, c.in_ok-begin_array.ensures.ok) c.in_ok-push_each_list.ensures
    (c.in_ok-end_array.ensures.room.0, c.in_ok-end_array.ensures.ok)
