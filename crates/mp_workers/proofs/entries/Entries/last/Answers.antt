use Rattle.std.proofs.Common.{◌<◌, length, sym, ap, subst, ◌∙◌, arith}
use Rattle.mp_workers.specs.Entries.{EntriesState, whole_of}
use Rattle.mp_workers.proofs.Falling.{allows_look}
use Rattle.mp_workers.proofs.entries.Entries.last.Goals as goal

pub load-requires : goal.load-requires
load-requires c =
    let key = c.self.inside.table.shared.key in
    let there : c.args.place < length (whole_of key) =
    subst (λ (s : EntriesState). c.args.place < length (whole_of s)) (sym (ap (λ e. e.series) c.self.view_is))
    c.requires.place in (
      ap (λ h. h.table) c.hold.view_is ∙ c.requires.hold.table_is ∙ sym (ap (λ e. e.table) c.self.view_is),
      omega (arith, there, c.self.invariant.words_are),
      allows_look key _ _ _ _ there
          (ap (λ h. h.whole) c.hold.view_is ∙ c.requires.hold.whole_is
          ∙ sym (ap (λ e. whole_of e.series) c.self.view_is)),
    )
