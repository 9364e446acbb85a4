use Rattle.std.proofs.Common.{◌≡◌, ◌+◌, ◌∙◌, List, [], ◌∷◌, ◌++◌, ap, arith, length, subst, sym, take}
use Rattle.std.proofs.lemmas.List.{length-take-le, length-append, take_more}
use Rattle.mp_nums.specs.declared.samples.Sample.{Sample}
use Rattle.mp_stores.specs.Channels.{PartHasGrown}
use Rattle.mp_stores.proofs.PartLemmas.{none_extended, one_extended}
use Rattle.mp_stores.proofs.store.extend.Goals as goal

pub loop-sample-init : goal.loop-sample-init
loop-sample-init c = record { grown = none_extended c.args.part.now; spare = omega arith }

pub unwrap-requires : goal.unwrap-requires
unwrap-requires c =
    let i = c.loop-sample.sample-index in
    let samples = c.args.samples.now in
    let grown = c.loop-sample.invariant.grown in
    let spare = c.loop-sample.invariant.spare in
    let long = ap length grown.items_are in
    let whole = length-append c.args.part.now.items (take i samples) in
    let front = length-take-le i samples (omega arith) in
    c.append.ensures.succeeds (omega (arith, spare, c.requires.room))
    (omega (arith, long, whole, front, c.requires.fits))

pub loop-sample-preserved : goal.loop-sample-preserved
loop-sample-preserved c =
    let samples = c.args.samples.now in
    let i = c.loop-sample.sample-index in
    let one = c.sample-item.result in
    let next : take i samples ++ one ∷ [] ≡ take (i + 1) samples =
    ap (λ (s : Sample). take i samples ++ s ∷ []) c.sample-item.is ∙ sym (take_more samples i one (omega arith)) in
    let spare = c.loop-sample.invariant.spare in
    record {
      grown =
          subst (λ (list : List Sample). PartHasGrown list c.args.part.now c.append.new.self) next
          (one_extended (take i samples) one c.args.part.now c.loop-sample.part c.append.new.self
          c.loop-sample.invariant.grown (rw c.unwrap.ensures at c.append.ensures.ok) c.append.ensures.covered
          c.append.ensures.m c.append.ensures.reads_rise c.append.ensures.reads c.append.ensures.few);
      spare = omega (arith, spare, c.append.ensures.spare);
    }
