use Rattle.std.proofs.Common.{◌≡◌, ◌+◌, ◌<◌, ◌∷◌, [], ◌++◌, length, arith, refl}
use Rattle.std.proofs.lemmas.Grind.{common_steps}
use Rattle.mp_defs.specs.Limits.{max_samples}
use Rattle.mp_series.specs.Samples.{gap_in, missing_before}
use Rattle.mp_series.proofs.MissingCounts.{at_most, gap_at_most, stored_more}
use Rattle.mp_series.proofs.counted_list.Samples.push.Goals as goal

pub overflow_add-missing : goal.overflow_add-missing
overflow_add-missing c =
    omega (
      arith,
      c.missing_before.ensures.count,
      at_most c.self.inside.stored.items c.len-2.result,
      c.gap.ensures,
      gap_at_most c.args.sample,
      c.len-2.ensures.within,
    )

pub invariant_of-self-4 : goal.invariant_of-self-4
invariant_of-self-4 c =
    let items = c.self.inside.stored.items in
    let room : length items < max_samples = grind (arith, c.self.invariant.within) in
    let last : c.missing_before.result + c.gap.result
    ≡ missing_before items (length items) + gap_in c.args.sample =
    rw (c.missing_before.ensures.count, c.gap.ensures, c.len-2.ensures.length) refl in
    let samples : c.push.new.self.items ≡ items ++ c.args.sample ∷ [] = grind (arith, common_steps) in
    let numbers : c.push-2.new.self.items ≡ c.self.inside.numbers.items ++ c.number-number.result ∷ [] =
    grind (arith, common_steps) in
    let counts : c.push-3.new.self.items
    ≡ c.self.inside.missing.items ++ (c.missing_before.result + c.gap.result) ∷ [] = grind (arith, common_steps) in
    stored_more _ _ _ _ _ _ c.args.sample c.number-number.result (c.missing_before.result + c.gap.result)
    c.self.invariant room c.number-number.ensures last samples numbers counts
