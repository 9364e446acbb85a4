use Rattle.std.proofs.Common.{◌≡◌, ◌<◌, [], ◌∷◌, length, subst, sym, ap, ◌∙◌}
use Rattle.std.proofs.lemmas.List.{length-set, take_at}
use Rattle.mp_partial.specs.Values.{Column, empty_column, merged_column, offered}
use Rattle.mp_partial.specs.Offers.{offers_are_merges}
use Rattle.mp_claims.specs.Marks.{mark}
use Rattle.call_tests.proofs.marks.MarksKernel.run.Goals as goal

pub returns-clause-value : goal.returns-clause-value
returns-clause-value c =
    let items : Column = c.args.into.now.items in
    let new : c.offer_mark.new.slots ≡ offered items c.args.piece (mark c.args.piece) =
    c.offer_mark.ensures ∙ ap (λ column. offered column c.args.piece (mark c.args.piece))
    c.as_mut_slice.ensures.value in
    let within : c.args.piece < length items = subst (λ n. c.args.piece < n) (sym c.requires.size) c.requires.piece in
    ap (λ column. column ∷ [])
    (take_at c.offer_mark.new.slots _ (length items) (ap length new ∙ length-set items c.args.piece _)
    ∙ new ∙ offers_are_merges items c.args.piece (mark c.args.piece) within
    ∙ ap (λ size. merged_column items (offered (empty_column size) c.args.piece (mark c.args.piece))) c.requires.size)
