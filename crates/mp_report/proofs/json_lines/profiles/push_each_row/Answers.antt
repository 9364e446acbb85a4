use Rattle.std.proofs.Common.{ℕ}
use Rattle.std.specs.Prelude.{flat_map}
use Rattle.std.specs.List.{range_with_len}
use Rattle.mp_replies.specs.Json.{row_object_at}
use Rattle.mp_report.specs.Tokens.{tokens_of}
use Rattle.mp_report.proofs.RowLemmas.{rows_more}
use Rattle.mp_report.proofs.TokenLemmas.{adds_more}
use Rattle.mp_report.proofs.json_lines.profiles.push_each_row.Goals as goal

pub loop-place-preserved : goal.loop-place-preserved
loop-place-preserved c =
    let row = λ (place : ℕ).
    tokens_of
    (row_object_at c.args.first (record { all = c.args.all.now; left = c.args.left.now; right = c.args.right.now })
    place) in
    adds_more c.args.json.now c.loop-place.json c.push_row.new.json
    (flat_map row (range_with_len 0 c.loop-place.place)) (row c.loop-place.place) _
    c.loop-place.invariant c.in_ok-push_row.ensures (rows_more row c.loop-place.place)
