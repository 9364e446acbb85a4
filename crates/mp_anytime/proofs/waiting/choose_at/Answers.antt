use Rattle.std.proofs.Common.{◌<◌, ◌∷◌, ◌++◌, [], false, arith, ◌∙◌, sym, ap}
use Rattle.std.specs.Prelude.{nat_lt}
use Rattle.mp_anytime.proofs.Choosing.{chosen_more, chosen_same, first_true, less_of, not_less_of, second_false}
use Rattle.mp_anytime.proofs.Choosing.{second_true}
use Rattle.mp_anytime.proofs.waiting.choose_at.Goals as goal

pub returns-in_ok-push-clause-chosen : goal.returns-in_ok-push-clause-chosen
returns-in_ok-push-clause-chosen c = λ p is was.
    let waits = c.at.result in
    let is_few = nat_lt c.len.result c.args.count in
    let few : c.len.result < c.args.count =
    less_of c.len.result c.args.count (second_true waits is_few c.if-is_chosen.true) in
    c.in_ok-push.ensures.items
    ∙ ap (λ d. c.args.chosen.now.items ++ d ∷ []) c.reversal.ensures.reversal
    ∙ chosen_more p c.args.place c.args.count c.args.chosen.now.items was
    (sym is ∙ sym c.at.ensures ∙ first_true waits is_few c.if-is_chosen.true)
    (omega (arith, few, c.len.ensures, c.args.chosen.now.ok.0))

pub returns-else-is_chosen-clause-chosen : goal.returns-else-is_chosen-clause-chosen
returns-else-is_chosen-clause-chosen c = λ p is was.
    let waits = c.at.result in
    let is_few = nat_lt c.len.result c.args.count in
    chosen_same p c.args.place c.args.count c.args.chosen.now.items was waits (sym is ∙ sym c.at.ensures)
    (λ yes. omega (
      arith,
      not_less_of c.len.result c.args.count (second_false waits is_few c.if-is_chosen.false yes),
      c.len.ensures,
      c.args.chosen.now.ok.0,
    ))
