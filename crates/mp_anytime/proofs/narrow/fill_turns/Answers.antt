use Rattle.std.proofs.Common.{◌≡◌, ◌∙◌, ◌+◌, ◌-◌, ◌<◌, arith, get_or, inl, inr, length, length-set, refl, set, subst}
use Rattle.std.proofs.Common.{sym}
use Rattle.std.proofs.lemmas.Bool.{cases_eq}
use Rattle.std.proofs.lemmas.List.{get_or-set_other, get_or-set_same}
use Rattle.mp_anytime.specs.Narrow.{IsTurn}
use Rattle.mp_anytime.proofs.narrow.fill_turns.Goals as goal

pub loop-k-init : goal.loop-k-init
loop-k-init c = record {
  places = refl;
  done = λ q le lt. absurd (omega (arith, le, lt));
  next = λ some. absurd (omega (arith, some));
}

pub turn_at-turn-requires-clause-behind : goal.turn_at-turn-requires-clause-behind
turn_at-turn-requires-clause-behind c = λ lt.
    let marks = c.args.marks.now in
    let next : length marks - c.loop-k.k ≡ length marks - 1 - c.loop-k.k + 1 = omega (arith, lt, c.loop-k-test.true) in
    subst (λ q. IsTurn marks q c.loop-k.turn) next (c.loop-k.invariant.next (omega (arith, lt)))

pub loop-k-preserved : goal.loop-k-preserved
loop-k-preserved c =
    let marks = c.args.marks.now in
    let before = c.loop-k.invariant in
    let k = c.loop-k.k in
    let place = length marks - 1 - k in
    let turn = c.turn_at-turn.result in
    let turns = c.loop-k.turns in
    let within : place < length turns = omega (arith, c.loop-k-test.true, before.places, c.requires.places) in
    record {
      places = length-set turns place turn ∙ before.places;
      done = λ q le lt. elim (cases_eq q place) [
        | inl here ↦
            subst (λ p. IsTurn marks p (get_or (set turns place turn) p 0)) (sym here)
            (subst (IsTurn marks place) (sym (get_or-set_same turns place turn 0 within)) c.turn_at-turn.ensures)
        | inr other ↦
            subst (IsTurn marks q) (sym (get_or-set_other turns place q turn 0 other))
            (before.done q (omega (arith, le, other, lt)) lt)
      ];
      next = λ _.
          let here : place ≡ length marks - (k + 1) = omega (arith, c.loop-k-test.true) in
          subst (λ p. IsTurn marks p turn) here c.turn_at-turn.ensures;
    }

pub returns : goal.returns
returns c = record {
  places = c.loop-k.invariant.places ∙ c.requires.places;
  each = λ k lt. c.loop-k.invariant.done k (omega (arith, c.loop-k-test.false)) lt;
}
