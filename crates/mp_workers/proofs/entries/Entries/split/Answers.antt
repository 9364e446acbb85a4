use Rattle.std.proofs.Common.{ap, sym, ◌∙◌, arith}
use Rattle.mp_workers.specs.Entries.{count_of}
use Rattle.mp_workers.proofs.Entering.{whole_count}
use Rattle.mp_workers.proofs.Falling.{splits}
use Rattle.mp_workers.proofs.entries.Entries.split.Goals as goal

pub split_seat-requires : goal.split_seat-requires
split_seat-requires c =
    let key = c.self.inside.table.shared.key in (
      ap (λ h. h.table) c.hold.view_is ∙ c.requires.hold.table_is ∙ sym (ap (λ e. e.table) c.self.view_is),
      omega (
        arith,
        c.requires.some,
        ap (λ e. count_of e.series) c.self.view_is,
        whole_count key,
        c.self.invariant.words_are,
      ),
      splits key _ _,
    )
