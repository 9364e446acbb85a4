use Rattle.std.proofs.Common.{◌<◌, length, ap, arith}
use Rattle.mp_workers.specs.Entries.{count_of, whole_of}
use Rattle.mp_workers.proofs.Entering.{whole_count}
use Rattle.mp_workers.proofs.Falling.{enters}
use Rattle.mp_workers.proofs.tellers.Teller.new.Goals as goal

pub load_new_seat-word-requires : goal.load_new_seat-word-requires
load_new_seat-word-requires c =
    let key = c.entries.inside.table.shared.key in
    let some : 0 < length (whole_of key) =
    omega (arith, c.requires.some, ap (λ e. count_of e.series) c.entries.view_is, whole_count key) in
    (omega (arith, some, c.entries.invariant.words_are), enters key _ _ some)
