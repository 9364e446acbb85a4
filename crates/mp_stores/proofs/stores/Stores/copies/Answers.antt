use Rattle.std.proofs.Common.{◌+◌, List, arith, get_or, subst, sym, take}
use Rattle.std.proofs.lemmas.List.Elements.{All-get_or}
use Rattle.mp_replies.specs.declared.refs.Ref.{Ref}
use Rattle.mp_stores.specs.StoreLaws.{channel_lasts}
use Rattle.mp_stores.specs.Stores.{IsChannel}
use Rattle.mp_stores.proofs.CopyLemmas.{AreCopied, AreRead, copied_more, next_name, read_more, read_within}
use Rattle.mp_stores.proofs.stores.Stores.copies.Goals as goal

-- what stands for a name that isn't there
abbrev none : Ref
none = record { slot = 0; channel = 0 }

pub copy_to-requires : goal.copy_to-requires
copy_to-requires c =
    let i = c.loop-at.at-index in
    channel_lasts c.args.self.now c.loop-at.self (get_or c.args.refs.now i none)
    c.loop-at.invariant.read.stands
    (All-get_or (IsChannel c.args.self.now) c.args.refs.now i none (omega arith) c.requires)

pub returns-in_err-copy_to-clause-stands : goal.returns-in_err-copy_to-clause-stands
returns-in_err-copy_to-clause-stands c =
    let refs = c.args.refs.now in
    let i = c.loop-at.at-index in
    (read_more c.args.self.now c.loop-at.self c.copy_to.new.self (take i refs) (get_or refs i none)
    c.loop-at.invariant.read c.copy_to.ensures.read).stands

pub returns-in_err-copy_to-clause-reads_rise : goal.returns-in_err-copy_to-clause-reads_rise
returns-in_err-copy_to-clause-reads_rise c =
    let refs = c.args.refs.now in
    let i = c.loop-at.at-index in
    (read_more c.args.self.now c.loop-at.self c.copy_to.new.self (take i refs) (get_or refs i none)
    c.loop-at.invariant.read c.copy_to.ensures.read).rise

pub returns-in_err-copy_to-clause-reads : goal.returns-in_err-copy_to-clause-reads
returns-in_err-copy_to-clause-reads c =
    let old = c.args.self.now in
    let refs = c.args.refs.now in
    let i = c.loop-at.at-index in
    let new = c.copy_to.new.self in
    (read_within old new refs (i + 1)
    (subst (λ (names : List Ref). AreRead old names new) (sym (next_name refs i none (omega arith)))
    (read_more old c.loop-at.self new (take i refs) (get_or refs i none) c.loop-at.invariant.read
    c.copy_to.ensures.read))).most_reads

pub loop-at-preserved : goal.loop-at-preserved
loop-at-preserved c =
    let old = c.args.self.now in
    let refs = c.args.refs.now in
    let i = c.loop-at.at-index in
    let new = c.copy_to.new.self in
    subst (λ (names : List Ref). AreCopied old names c.copy_to.new.bundle new)
    (sym (next_name refs i none (omega arith)))
    (copied_more old c.loop-at.self new (take i refs) (get_or refs i none) c.loop-at.bundle c.copy_to.new.bundle
    c.loop-at.invariant c.in_ok-copy_to.ensures.ok c.copy_to.ensures.within c.copy_to.ensures.read)
