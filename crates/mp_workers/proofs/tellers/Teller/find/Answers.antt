use Rattle.std.proofs.Common.{◌<◌, length, sym, ap, subst, arith}
use Rattle.std.specs.Prelude.{slice_index_or, None}
use Rattle.mp_workers.specs.Entries.{EntriesState, IsWithin, whole_of}
use Rattle.mp_workers.proofs.Falling.{enters}
use Rattle.mp_workers.proofs.tellers.Teller.find.Goals as goal

pub load_new_seat-word-requires : goal.load_new_seat-word-requires
load_new_seat-word-requires c =
    let key = c.self.inside.table.now.shared.key in
    let there : c.args.place < length (whole_of key) =
    subst (λ (s : EntriesState). c.args.place < length (whole_of s)) (sym (ap (λ t. t.series) c.self.view_is))
    c.requires in
    (omega (arith, there, c.self.invariant.entries.words_are), enters key _ _ there)

pub returns : goal.returns
returns c =
    subst (λ (s : EntriesState). IsWithin c.load_new_seat-word.result.0
    (slice_index_or (whole_of s) c.args.place None)) (ap (λ t. t.series) c.self.view_is)
    c.load_new_seat-word.ensures.2.within
