use Rattle.std.proofs.Common.{◌≡◌, ℕ, ◌+◌, ◌≤◌, List, ap, subst, arith}
use Rattle.std.proofs.lemmas.Bool.Decides.{nat_tests}
use Rattle.std.specs.Prelude.{Vec, false}
use Rattle.std.specs.declared.alloc.Global.{Global}
use Rattle.mp_nums.specs.declared.samples.Sample.{Sample}
use Rattle.mp_stores.specs.Stores.{lists_in, reads_at, reads_of, reads_to_add}
use Rattle.mp_commands.specs.declared.prepared.Change.{Change}
use Rattle.mp_commands.specs.Preparing.{CanMake, puts}
use Rattle.mp_commands.specs.Reads.{append_reads}
use Rattle.mp_session.specs.Sessions.{AddsEach}
use Rattle.mp_session.proofs.ReadLemmas.{add_reads}
use Rattle.mp_session.proofs.changes.make_change.Goals as goal

pub returns-in-AddSamples-clause-added : goal.returns-in-AddSamples-clause-added
returns-in-AddSamples-clause-added g c = λ slot count each.
    let old = c.args.stores.now in
    let new = c.add.new.self in
    let at = c.in-AddSamples.slot in
    let lists = lists_in c.in-AddSamples.added.items in
    let here = subst (λ (change : Change). AddsEach change slot count) c.in-AddSamples.is each in
    let can = subst (λ (change : Change). CanMake old change) c.in-AddSamples.is c.requires.can in
    let same = add_reads old at count lists can.room here.1 in
    let added =
    subst (λ (all : List (Vec Sample Global)). reads_at new at ≤ reads_at old at + reads_to_add old at (lists_in all))
    c.as_slice.ensures.value c.add.ensures.reads in
    subst (λ (s : ℕ). reads_at new s ≤ reads_at old s + append_reads old s count) here.0
    (subst (λ (n : ℕ). reads_at new at ≤ reads_at old at + n) same added)

pub returns-in-PutLazy-clause-rest : goal.returns-in-PutLazy-clause-rest
returns-in-PutLazy-clause-rest g c = λ slot unput _ _.
    let other = subst (λ (change : Change). puts change slot ≡ false) c.in-PutLazy.is unput in
    ap reads_of (c.put_lazy.ensures.others slot (grind (arith, nat_tests, other)))
