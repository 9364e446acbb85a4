use Rattle.std.proofs.Common.{◌≡◌, ◌<◌, length, take, drop, refl, arith, ap, ◌∙◌, sym}
use Rattle.std.proofs.lemmas.Bool.Decides.{nat_tests}
use Rattle.mp_bytes.proofs.FieldLemmas.{fields-field}
use Rattle.mp_bytes.proofs.fields.FieldsIterator.next.Goals as goal

pub returns-else-is_empty-clause-steps : goal.returns-else-is_empty-clause-steps
returns-else-is_empty-clause-steps c =
    let text = c.without_blanks-text.result.now in
    let some : 0 < c.field_len.result = grind (arith, nat_tests) in
    let front : c.split_at.result.0.now ≡ take c.field_len.result text = c.split_at.ensures.front in
    let back : c.split_at.result.1.now ≡ drop c.field_len.result text = c.split_at.ensures.back in
    sym c.without_blanks-text.ensures.fields
    ∙ (fields-field text c.field_len.result some c.field_len.ensures.within c.field_len.ensures.before
    c.field_len.ensures.end
    ∙ rw (front, back) refl)

pub returns-else-is_empty-clause-goes : goal.returns-else-is_empty-clause-goes
returns-else-is_empty-clause-goes c =
    let e = returns-else-is_empty-clause-steps c in
    record { on = λ _. (tt, tt, omega (arith, ap length e)); keeps = tt; rests = λ _. tt }
