use Rattle.std.proofs.Common.{◌≡◌, ◌+◌, ◌++◌, ◌∷◌, [], ◌^◌, ◌∙◌, ap, arith, false, length}
use Rattle.std.proofs.Common.{refl, rules, subst, sym}
use Rattle.std.proofs.lemmas.List.{length-append}
use Rattle.mp_results.specs.Covering.{is_covered}
use Rattle.mp_anytime.specs.Waiting.{AreWaiting}
use Rattle.mp_anytime.proofs.RowPairs.{grown_places, limits_more}
use Rattle.mp_anytime.proofs.coverage.Coverage.grow.Goals as goal

pub returns-clause-grown : goal.returns-clause-grown
returns-clause-grown c =
    let old = c.args.self.now in
    let more : c.push.new.self.items ≡ old.limits.items ++ 2 ^ 63 ∷ [] = search rules in
    let many : length c.push.new.self.items ≡ length old.limits.items + 1 =
    ap length more ∙ length-append old.limits.items (2 ^ 63 ∷ []) in
    record {
      covered = refl;
      range = refl;
      left = c.grow.ensures.left;
      right = c.grow.ensures.right;
      windows_are = grown_places old.profile c.grow.new.self (sym c.len-last.ensures.all ∙ c.len-last.ensures.left)
          (sym c.len-last.ensures.right ∙ c.len-last.ensures.left) c.grow.ensures.all c.grow.ensures.left
          c.grow.ensures.right;
      places = c.grow-2.ensures.places (length old.profile.left) c.requires.places;
      sums = λ d lt. c.grow-2.ensures.sums d (omega (arith, lt, c.requires.places.lowers))
          (omega (arith, lt, c.requires.places.uppers));
      limits_are = many;
      known = refl;
      limits = limits_more old.profile.right c.grow.new.self.right old.limits.items c.push.new.self.items
          c.grow.ensures.right more;
      waits = λ covered none was.
          subst (λ n. AreWaiting c.args.m (n + 1) covered c.add_window.new.self) c.len-last.ensures.left
          (c.add_window.ensures covered
          (subst (λ n. is_covered covered n ≡ false) (sym c.len-last.ensures.left) none)
          (subst (λ n. AreWaiting c.args.m n covered old.waiting) (sym c.len-last.ensures.left) was));
    }
