use Rattle.std.proofs.Common.{◌≡◌, length, arith, rules, refl, ◌∙◌, sym}
use Rattle.std.proofs.lemmas.List.{nil_from_length}
use Rattle.std.proofs.lemmas.Option.{same_Some}
use Rattle.mp_outside.proofs.calm_sources.CalmSourceSource.TheImpl.Goals as goal

pub read-tells : goal.read-tells
read-tells c =
    let first = rw c.ensures.count at c.ensures.first in
    let after = rw c.ensures.count at c.ensures.after in
    record {
      within = rw c.ensures.count (omega arith);
      given = rw c.ensures.count (rw after (omega arith));
      first = rw c.ensures.count (λ bytes e. cc);
      rest = rw c.ensures.count (λ bytes e. cc);
      end = rw c.ensures.count (λ none room bytes e.
          let all : length c.args.self.now.left ≡ 0 = omega arith in
          sym (same_Some _ _ e) ∙ nil_from_length _ all);
      failed_given = rw c.ensures.count tt;
      failed_left = rw c.ensures.count tt;
      faults = search rules;
      calm = rw c.ensures.count refl;
      cause = rw c.ensures.count tt;
    }
