use Rattle.std.proofs.Common.{sym, subst, ◌∙◌}
use Rattle.mp_partial.specs.Values.{Column}
use Rattle.mp_workers.specs.Entries.{HasMore, IsWithinColumn}
use Rattle.mp_workers.specs.EntryLaws.{none_taken}
use Rattle.mp_multi.specs.Sharing.{profile_of}
use Rattle.mp_multi.proofs.SharedLemmas.{of_whole, whole_count}
use Rattle.mp_multi.proofs.shared.SharedMulti.take.Goals as goal

pub take-requires : goal.take-requires
take-requires g c =
    let own = c.self.inside in
    record {
      size = whole_count c.args.self.now c.in-Some.entries c.args.into.now.items
          (of_whole own.parts own.summed.now c.args.self.now own.entries c.in-Some.entries c.self.invariant
          c.self.view_is c.in-Some.is) c.requires.size;
    }

pub take-requires-in-Some : goal.take-requires-in-Some
take-requires-in-Some g c =
    let own = c.self.inside in
    record {
      size = c.take.ensures.size ∙ whole_count c.args.self.now c.in-Some.entries c.args.into.now.items
          (of_whole own.parts own.summed.now c.args.self.now own.entries c.in-Some.entries c.self.invariant
          c.self.view_is c.in-Some.is) c.requires.size;
    }

pub returns-in-Some-clause-more : goal.returns-in-Some-clause-more
returns-in-Some-clause-more g c =
    let own = c.self.inside in
    let old = c.args.into.now.items in
    let is = of_whole own.parts own.summed.now c.args.self.now own.entries c.in-Some.entries c.self.invariant
    c.self.view_is c.in-Some.is in
    subst (λ (whole : Column). HasMore whole old c.take-in-Some.new.into.items) is
    (c.take-in-Some.ensures.more old (c.take.ensures.more old (none_taken c.in-Some.entries old
    (subst (λ (whole : Column). IsWithinColumn whole old) (sym is) c.requires.within))))

pub returns-in_default-clause-more : goal.returns-in_default-clause-more
returns-in_default-clause-more g c =
    none_taken (profile_of c.args.self.now) c.args.into.now.items c.requires.within
