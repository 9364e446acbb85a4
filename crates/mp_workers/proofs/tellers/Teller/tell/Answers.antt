use Rattle.std.proofs.Common.{◌<◌, length, sym, ap, subst, ◌∙◌, arith}
use Rattle.std.specs.Prelude.{slice_index_or, Some, None}
use Rattle.mp_nums.specs.Near.{nearer_of}
use Rattle.mp_nums.specs.NearLaws.{nearer_commutes}
use Rattle.mp_workers.specs.Entries.{EntriesState, IsWithin, whole_of}
use Rattle.mp_workers.proofs.Falling.{allows_look, allows_lower}
use Rattle.mp_workers.proofs.tellers.Teller.tell.Goals as goal

pub load-found-requires : goal.load-found-requires
load-found-requires c =
    let key = c.self.inside.table.now.shared.key in
    let there : c.args.place < length (whole_of key) =
    subst (λ (s : EntriesState). c.args.place < length (whole_of s)) (sym (ap (λ t. t.series) c.self.view_is))
    c.requires.place in (
      c.self.invariant.of_table,
      omega (arith, there, c.self.invariant.entries.words_are),
      allows_look key _ _ _ _ there c.self.invariant.whole,
    )

pub fetch_min-before-requires : goal.fetch_min-before-requires
fetch_min-before-requires c =
    let key = c.self.inside.table.now.shared.key in
    let same = ap (λ t. t.series) c.self.view_is in
    let there : c.args.place < length (whole_of key) =
    subst (λ (s : EntriesState). c.args.place < length (whole_of s)) (sym same) c.requires.place in
    let within : IsWithin c.word_of-word.result (slice_index_or (whole_of key) c.args.place None) =
    subst (λ (s : EntriesState). IsWithin c.word_of-word.result (slice_index_or (whole_of s) c.args.place None))
    (sym same)
    (ap (λ x. nearer_of x (slice_index_or (whole_of c.args.self.now.series) c.args.place None)) c.word_of-word.ensures
    ∙ nearer_commutes (Some c.args.near) _ ∙ c.requires.within) in (
      c.load-found.ensures.0 ∙ c.self.invariant.of_table,
      omega (arith, there, c.self.invariant.entries.words_are),
      allows_lower key _ _ _ _ _ there within,
    )
