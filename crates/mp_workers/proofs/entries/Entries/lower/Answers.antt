use Rattle.std.proofs.Common.{ap, ◌<◌, length, sym, subst, arith}
use Rattle.std.specs.Prelude.{slice_index_or, None}
use Rattle.mp_workers.specs.Entries.{EntriesState, IsWithin, whole_of}
use Rattle.mp_workers.proofs.Falling.{allows_lower, enters}
use Rattle.mp_workers.proofs.entries.Entries.lower.Goals as goal

pub load_new_seat-found-requires : goal.load_new_seat-found-requires
load_new_seat-found-requires c =
    let key = c.self.inside.table.shared.key in
    let there : c.args.place < length (whole_of key) =
    subst (λ (s : EntriesState). c.args.place < length (whole_of s)) (sym (ap (λ e. e.series) c.self.view_is))
    c.requires.place in
    (omega (arith, there, c.self.invariant.words_are), enters key _ _ there)

pub fetch_min-before-requires : goal.fetch_min-before-requires
fetch_min-before-requires c =
    let key = c.self.inside.table.shared.key in
    let there : c.args.place < length (whole_of key) =
    subst (λ (s : EntriesState). c.args.place < length (whole_of s)) (sym (ap (λ e. e.series) c.self.view_is))
    c.requires.place in
    let within : IsWithin c.args.word (slice_index_or (whole_of key) c.args.place None) =
    subst (λ (s : EntriesState). IsWithin c.args.word (slice_index_or (whole_of s) c.args.place None))
    (sym (ap (λ e. e.series) c.self.view_is)) c.requires.within in (
      c.load_new_seat-found.ensures.0,
      omega (arith, there, c.self.invariant.words_are),
      allows_lower key _ _ _ _ _ there within,
    )
