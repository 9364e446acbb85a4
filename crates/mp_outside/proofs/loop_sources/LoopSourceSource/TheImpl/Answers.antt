use Rattle.std.proofs.Common.{◌≡◌, ◌≤◌, ℕ, min, length, take, drop, replicate, Some, arith, rules, refl, ◌∙◌, sym, ap}
use Rattle.std.proofs.lemmas.List.{take-replicate, drop-replicate}
use Rattle.std.proofs.lemmas.Option.{same_Some}
use Rattle.mp_outside.proofs.loop_sources.LoopSourceSource.TheImpl.Goals as goal

pub read-tells : goal.read-tells
read-tells c =
    let first = rw c.ensures.count at c.ensures.first in
    let after = rw c.ensures.count at c.ensures.after in
    let n : ℕ = min (length c.new.buf.now) c.args.self.now.left in
    let fits : n ≤ c.args.self.now.left = omega arith in
    record {
      within = rw c.ensures.count (omega arith);
      given = rw c.ensures.count (rw after (omega arith));
      first = rw c.ensures.count (λ bytes e.
          first
          ∙ sym (take-replicate n c.args.self.now.left c.args.self.now.byte fits)
          ∙ ap (take n) (same_Some _ _ e));
      rest = rw c.ensures.count (λ bytes e.
          ap Some (ap (λ source. replicate source.left source.byte) after
          ∙ sym (drop-replicate n c.args.self.now.left c.args.self.now.byte)
          ∙ ap (drop n) (same_Some _ _ e)));
      end = rw c.ensures.count (λ none room bytes e.
          let all : c.args.self.now.left ≡ 0 = omega arith in
          sym (same_Some _ _ e) ∙ ap (λ k. replicate k c.args.self.now.byte) all);
      failed_given = rw c.ensures.count tt;
      failed_left = rw c.ensures.count tt;
      faults = search rules;
      calm = rw c.ensures.count refl;
      cause = rw c.ensures.count tt;
    }
