use Rattle.std.proofs.Common.{◌≡◌, ◌<◌, ◌≤◌, ◌+◌, ◌-◌, ◌^◌, ◌∷◌, [], ◌++◌, length, ap, sym, ◌∙◌, subst, arith}
use Rattle.std.proofs.lemmas.List.{length-append}
use Rattle.circular_buffer.specs.Buffer.{buffer}
use Rattle.mp_series.proofs.HeldCounts.{fits_one_more, held_with, kept_all}
use Rattle.mp_series.proofs.ring.Ring.append.Goals as goal

pub append-requires-clause-within : goal.append-requires-clause-within
append-requires-clause-within c =
    let within : length c.self.inside.stored.items + c.self.inside.dropped < 2 ^ 64 - 1 =
    subst (λ held. length held.items + held.dropped < 2 ^ 64 - 1) (sym c.self.view_is) c.requires.within in
    fits_one_more _ _ _ _ _ c.self.invariant c.args.sample c.gap.result c.gap.ensures within

pub invariant_of-self : goal.invariant_of-self
invariant_of-self c =
    let items = c.self.inside.stored in
    let room : length items.items < items.capacity =
    subst (λ held. length held.items < held.capacity) (sym c.self.view_is) c.requires.room in
    let within : length items.items + c.self.inside.dropped < 2 ^ 64 - 1 =
    subst (λ held. length held.items + held.dropped < 2 ^ 64 - 1) (sym c.self.view_is) c.requires.within in
    let fits : length (items.items ++ c.args.sample ∷ []) ≤ items.capacity =
    simp length-append (omega (arith, room)) in
    let samples : c.push_back.new.self ≡ buffer (items.items ++ c.args.sample ∷ []) items.capacity =
    c.push_back.ensures.items ∙ ap (λ xs. buffer xs items.capacity) (kept_all items.capacity _ fits) in
    rw (samples, c.append-2.ensures, c.append.ensures.dropped, c.append.ensures.held)
    (held_with _ _ _ _ _ c.self.invariant c.args.sample c.number.result c.gap.result c.number.ensures c.gap.ensures
    room within)
