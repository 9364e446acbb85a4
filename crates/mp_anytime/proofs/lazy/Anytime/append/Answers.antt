use Rattle.std.proofs.Common.{◌≡◌, ◌≤◌, ◌++◌, ◌∷◌, [], ◌∙◌, List, ap, arith, length, rules}
use Rattle.std.proofs.Common.{subst, sym}
use Rattle.mp_nums.specs.declared.samples.Sample.{Sample}
use Rattle.mp_defs.specs.Window.{windows}
use Rattle.mp_results.specs.Covering.{Covering}
use Rattle.mp_anytime.proofs.Counting.{few_covered}
use Rattle.mp_anytime.proofs.Windows.{front_is}
use Rattle.mp_anytime.proofs.lazy.Anytime.append.Goals as goal

pub returns-then-len-eq-MAX_SAMPLES-clause-few : goal.returns-then-len-eq-MAX_SAMPLES-clause-few
returns-then-len-eq-MAX_SAMPLES-clause-few c =
    let inside = c.self.inside in
    subst (λ (v : Covering). length v.covered ≤ windows (length v.items) v.m) c.self.view_is
    (few_covered inside.m (windows (length inside.samples.items) inside.m) inside.coverage.covered.items
    c.self.invariant.2.counted)

pub returns-in_err-reserve-clause-few : goal.returns-in_err-reserve-clause-few
returns-in_err-reserve-clause-few c =
    let inside = c.self.inside in
    let few : length c.args.self.now.covered ≤ windows (length c.args.self.now.items) c.args.self.now.m =
    subst (λ (v : Covering). length v.covered ≤ windows (length v.items) v.m) c.self.view_is
    (few_covered inside.m (windows (length inside.samples.items) inside.m) inside.coverage.covered.items
    c.self.invariant.2.counted) in
    omega (arith, few, ap length c.reserve.ensures.covered, ap length c.reserve.ensures.items, c.reserve.ensures.m)

pub add_last-requires-clause-last : goal.add_last-requires-clause-last
add_last-requires-clause-last c =
    let front = c.self.inside.samples.items in
    let pushed = c.push.new.self.items in
    let more : pushed ≡ front ++ c.args.sample ∷ [] = search rules in
    more ∙ ap (λ (l : List Sample). l ++ c.args.sample ∷ []) (sym (front_is front pushed c.args.sample more))
