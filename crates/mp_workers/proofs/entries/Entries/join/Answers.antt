use Rattle.std.proofs.Common.{ap, sym, ◌∙◌, arith}
use Rattle.mp_workers.specs.Entries.{count_of}
use Rattle.mp_workers.proofs.Entering.{whole_count}
use Rattle.mp_workers.proofs.Falling.{joins}
use Rattle.mp_workers.proofs.entries.Entries.join.Goals as goal

pub join_seat-requires : goal.join_seat-requires
join_seat-requires c =
    let key = c.self.inside.table.shared.key in
    let home = sym (ap (λ e. e.table) c.self.view_is) in (
      ap (λ h. h.table) c.hold.view_is ∙ c.requires.hold.table_is ∙ home,
      ap (λ h. h.table) c.other.view_is ∙ c.requires.other.table_is ∙ home,
      c.other.invariant,
      omega (
        arith,
        c.requires.some,
        ap (λ e. count_of e.series) c.self.view_is,
        whole_count key,
        c.self.invariant.words_are,
      ),
      joins key _ _ _ _,
    )
