use Rattle.std.proofs.Common.{◌≡◌, ◌∙◌, take, drop, length, ap, arith}
use Rattle.std.proofs.lemmas.List.{length-take-le, length-drop, length-map}
use Rattle.mp_series.specs.Samples.{number_in, numbers_in}
use Rattle.mp_sums.specs.Lists.{list_sum}
use Rattle.mp_stream.proofs.SumLemmas.{between_parts}
use Rattle.mp_stream.proofs.rows.sum_of.Goals as goal

pub returns-clause-sum : goal.returns-clause-sum
returns-clause-sum c =
    let xs = numbers_in c.args.samples.now.items in
    let m = c.args.m in
    let first : c.parts.result.0.now ≡ take m (drop c.args.i xs) =
    c.parts.ensures.first ∙ ap (λ k. take k (drop c.args.i xs)) c.from.ensures in
    let second : c.parts.result.1.now ≡ take m (drop c.args.j xs) =
    c.parts.ensures.second ∙ ap (λ k. take k (drop c.args.j xs)) c.from.ensures in
    let many = length-map c.args.samples.now.items number_in in
    let long : length c.parts.result.0.now ≡ m =
    ap length first ∙ length-take-le m (drop c.args.i xs) (omega
    (arith, length-drop c.args.i xs, many, c.requires.first)) in
    c.window_sum.ensures.sum ∙ ap (λ n. list_sum n c.parts.result.0.now 0 c.parts.result.1.now 0) long
    ∙ between_parts xs _ _ c.args.i c.args.j m m (omega arith) first second
