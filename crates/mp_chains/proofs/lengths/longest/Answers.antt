use Rattle.std.proofs.Common.{◌≡◌, ℕ, length, sym, subst, arith}
use Rattle.std.specs.List.{IsFirstMaxByKey}
use Rattle.mp_nums.specs.Listed.{Listed}
use Rattle.mp_chains.proofs.Greatest.{longest_of-is, IsFirstMaxByKey-items}
use Rattle.mp_chains.proofs.lengths.longest.Goals as goal

pub returns : goal.returns
returns c =
    let chains = c.args.chains.now in
    let all : c.loop-place.place ≡ length chains = grind arith in
    let key = λ (chain : Listed ℕ). length chain.items in
    let longest = c.loop-place.longest in
    let first = subst (λ n. IsFirstMaxByKey key chains n longest) all c.loop-place.invariant in
    sym (longest_of-is _ _ (IsFirstMaxByKey-items chains longest first))
