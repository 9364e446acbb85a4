use Rattle.std.proofs.Common.{◌<◌, length, get_or, sym, subst, arith}
use Rattle.std.specs.Prelude.{None}
use Rattle.mp_partial.specs.Values.{Column}
use Rattle.mp_workers.specs.Entries.{IsWithin}
use Rattle.mp_multi.proofs.SharedLemmas.{allows_lower, enters}
use Rattle.mp_multi.proofs.entries.Entries.lower.Goals as goal

pub load_new_seat-found-requires : goal.load_new_seat-found-requires
load_new_seat-found-requires c =
    let key = c.self.inside.table.shared.key in
    let there : c.args.place < length key =
    subst (λ (whole : Column). c.args.place < length whole) (sym c.self.view_is) c.requires.place in
    (omega (arith, there, c.self.invariant), enters key _ _ there)

pub fetch_min-before-requires : goal.fetch_min-before-requires
fetch_min-before-requires c =
    let key = c.self.inside.table.shared.key in
    let there : c.args.place < length key =
    subst (λ (whole : Column). c.args.place < length whole) (sym c.self.view_is) c.requires.place in
    let within : IsWithin c.args.word (get_or key c.args.place None) =
    subst (λ (whole : Column). IsWithin c.args.word (get_or whole c.args.place None))
    (sym c.self.view_is) c.requires.within in (
      c.load_new_seat-found.ensures.0,
      omega (arith, there, c.self.invariant),
      allows_lower key _ _ _ _ _ there within,
    )
