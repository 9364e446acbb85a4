use Rattle.std.proofs.Common.{◌<◌, length, get_or, sym, subst, arith}
use Rattle.std.specs.Prelude.{None}
use Rattle.mp_partial.specs.Values.{Column}
use Rattle.mp_workers.specs.Entries.{IsWithin}
use Rattle.mp_multi.proofs.SharedLemmas.{enters}
use Rattle.mp_multi.proofs.entries.Entries.find.Goals as goal

pub load_new_seat-word-requires : goal.load_new_seat-word-requires
load_new_seat-word-requires c =
    let key = c.self.inside.table.shared.key in
    let there : c.args.place < length key =
    subst (λ (whole : Column). c.args.place < length whole) (sym c.self.view_is) c.requires in
    (omega (arith, there, c.self.invariant), enters key _ _ there)

pub returns : goal.returns
returns c =
    subst (λ (whole : Column). IsWithin c.load_new_seat-word.result.0 (get_or whole c.args.place None))
    c.self.view_is c.load_new_seat-word.ensures.2
