use Rattle.std.proofs.Common.{◌≡◌, ◌+◌, ◌*◌, ◌/◌, ◌∙◌, inl, inr, false, true, get_or, sym, ap}
use Rattle.std.proofs.Common.{arith}
use Rattle.std.specs.Prelude.{nat_lt}
use Rattle.mp_anytime.proofs.Choosing.{chosen_on, marked_or_not, not_less_of, second_false}
use Rattle.mp_anytime.proofs.waiting.choose_marked.Goals as goal

true_not_false : true ≡ false → ⊥
true_not_false e = cc

pub returns-else-is_asked-clause-chosen : goal.returns-else-is_asked-clause-chosen
returns-else-is_asked-clause-chosen c = λ p is was.
    let places = c.args.places.now in
    let block = c.args.block in
    let marked = get_or c.args.marks.now block false in
    let is_few = nat_lt c.len.result c.args.count in
    chosen_on p (512 * block) 512 c.args.count c.args.chosen.now.items was
    (λ k lt waits. elim (marked_or_not marked) [
      | inl is_marked ↦ omega (
        arith,
        not_less_of c.len.result c.args.count (second_false marked is_few c.if-is_asked.false is_marked),
        c.len.ensures,
        c.args.chosen.now.ok.0,
      )
      | inr unmarked ↦
          let here : (512 * block + k) / 512 ≡ block = omega (arith, lt) in
          let none : get_or places (512 * block + k) false ≡ false =
          c.requires.marks.each (512 * block + k) (omega (arith, lt, c.requires.block))
          (ap (λ b. get_or c.args.marks.now b false) here ∙ unmarked) in
          absurd (true_not_false (sym waits
          ∙ sym (is (512 * block + k) (omega (arith, lt, c.requires.block, c.requires.marks.all))) ∙ none))
    ])
