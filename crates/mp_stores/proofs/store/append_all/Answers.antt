use Rattle.std.proofs.Common.{◌≡◌, ◌+◌, ◌∙◌, List, [], ◌∷◌, ◌++◌, ap, arith, subst, sym, take}
use Rattle.std.proofs.lemmas.List.{take_more}
use Rattle.mp_nums.specs.declared.samples.Sample.{Sample}
use Rattle.mp_stores.specs.Channels.{KeptHasGrown}
use Rattle.mp_stores.proofs.KeptLemmas.{none_appended, not_full, ok_unless_full, one_appended}
use Rattle.mp_stores.proofs.store.append_all.Goals as goal

pub loop-sample-init : goal.loop-sample-init
loop-sample-init c = none_appended c.args.kept.now

pub unwrap-requires : goal.unwrap-requires
unwrap-requires c =
    ok_unless_full c.append.result
    (λ full. not_full c.args.samples.now c.loop-sample.sample-index c.args.kept.now c.loop-sample.kept
    c.requires.kept c.loop-sample.invariant (omega arith) c.requires.room (c.append.ensures.full.0 full))

pub loop-sample-preserved : goal.loop-sample-preserved
loop-sample-preserved c =
    let samples = c.args.samples.now in
    let i = c.loop-sample.sample-index in
    let one = c.sample-item.result in
    let next : take i samples ++ one ∷ [] ≡ take (i + 1) samples =
    ap (λ (s : Sample). take i samples ++ s ∷ []) c.sample-item.is ∙ sym (take_more samples i one (omega arith)) in
    subst (λ (list : List Sample). KeptHasGrown list c.args.kept.now c.append.new.self) next
    (one_appended (take i samples) one c.args.kept.now c.loop-sample.kept c.append.new.self c.loop-sample.invariant
    (rw c.unwrap.ensures at c.append.ensures.stands) c.append.ensures.keep c.append.ensures.m
    c.append.ensures.reads_rise c.append.ensures.reads)
