use Rattle.std.proofs.Common.{◌≡◌, length, set, get_or, map, [], ◌∷◌, subst, sym, ap, ◌∙◌}
use Rattle.std.specs.Prelude.{None, slice_get}
use Rattle.std.proofs.lemmas.List.{map-set}
use Rattle.mp_claims.specs.Cores.{CoreState, deliver_refusal}
use Rattle.mp_claims.specs.Standing.{Cored}
use Rattle.mp_claims.proofs.Partials.{size_at, sizes_kept, count_kept, rooms_kept, value_at}
use Rattle.mp_claims.proofs.Partials.{deliverer_has_partial}
use Rattle.mp_claims.proofs.cores.Core.deliver.Goals as goal

pub move_into-requires-after_bounds : goal.move_into-requires-after_bounds
move_into-requires-after_bounds g c = λ _ _.
    let parts = c.self.inside.partials.items in
    let fine = subst (λ (core : Cored). deliver_refusal (slice_get core.state.workers c.args.w) ≡ None)
    (sym c.self.view_is) c.requires in
    let there = deliverer_has_partial g.P.Part.size_of parts c.self.inside.board.workers c.args.w
    c.self.invariant.each_worker fine in
    size_at g.P.Part.size_of parts c.args.w c.self.inside.size c.index_mut.result.now c.self.invariant.partial_sizes
    there c.index_mut.ensures.value
    ∙ sym c.self.invariant.total_size

pub invariant_of-self : goal.invariant_of-self
invariant_of-self g c =
    let parts = c.self.inside.partials.items in
    let fine = subst (λ (core : Cored). deliver_refusal (slice_get core.state.workers c.args.w) ≡ None)
    (sym c.self.view_is) c.requires in
    let there = deliverer_has_partial g.P.Part.size_of parts c.self.inside.board.workers c.args.w
    c.self.invariant.each_worker fine in
    record {
      total_size = c.move_into.ensures.total_size ∙ c.self.invariant.total_size;
      partial_sizes = sizes_kept g.P.Part.size_of parts c.args.w c.self.inside.size c.move_into.new.partial
          c.self.invariant.partial_sizes
          (c.move_into.ensures.partial_size
          ∙ size_at g.P.Part.size_of parts c.args.w c.self.inside.size c.index_mut.result.now
          c.self.invariant.partial_sizes there c.index_mut.ensures.value);
      each_worker = count_kept g.P.Part.size_of parts c.args.w c.move_into.new.partial ∙ c.self.invariant.each_worker
          ∙ sym (ap (λ (state : CoreState). length state.workers) c.deliver.ensures.state);
    }

pub returns-clause-total : goal.returns-clause-total
returns-clause-total g c =
    let parts = c.self.inside.partials.items in
    let fine = subst (λ (core : Cored). deliver_refusal (slice_get core.state.workers c.args.w) ≡ None)
    (sym c.self.view_is) c.requires in
    let there = deliverer_has_partial g.P.Part.size_of parts c.self.inside.board.workers c.args.w
    c.self.invariant.each_worker fine in
    c.move_into.ensures.total
    ∙ ap (g.P.Part.merged (g.P.Part.value c.self.inside.total))
    (value_at g.P.Part.value parts c.args.w c.index_mut.result.now there c.index_mut.ensures.value)
    ∙ ap (λ (core : Cored). g.P.Part.merged core.total (get_or core.partials c.args.w [])) c.self.view_is

pub returns-clause-partials : goal.returns-clause-partials
returns-clause-partials g c =
    let parts = c.self.inside.partials.items in
    let fine = subst (λ (core : Cored). deliver_refusal (slice_get core.state.workers c.args.w) ≡ None)
    (sym c.self.view_is) c.requires in
    let there = deliverer_has_partial g.P.Part.size_of parts c.self.inside.board.workers c.args.w
    c.self.invariant.each_worker fine in
    let size = size_at g.P.Part.size_of parts c.args.w c.self.inside.size c.index_mut.result.now
    c.self.invariant.partial_sizes
    there c.index_mut.ensures.value in
    map-set g.P.Part.value parts c.args.w c.move_into.new.partial
    ∙ ap (set (map g.P.Part.value parts) c.args.w) (c.move_into.ensures.partial ∙ ap g.P.Part.unit_of size)
    ∙ ap (λ (core : Cored). set core.partials c.args.w (g.P.Part.unit_of core.size)) c.self.view_is

pub returns-clause-rooms : goal.returns-clause-rooms
returns-clause-rooms g c =
    let parts = c.self.inside.partials.items in
    let fine = subst (λ (core : Cored). deliver_refusal (slice_get core.state.workers c.args.w) ≡ None)
    (sym c.self.view_is) c.requires in
    let there = deliverer_has_partial g.P.Part.size_of parts c.self.inside.board.workers c.args.w
    c.self.invariant.each_worker fine in
    ap (λ room. room ∷ map g.P.Part.room_of (set parts c.args.w c.move_into.new.partial)) c.move_into.ensures.total_room
    ∙ ap (λ rooms. g.P.Part.room_of c.self.inside.total ∷ rooms)
    (rooms_kept g.P.Part.room_of parts c.args.w c.index_mut.result.now c.move_into.new.partial there
    c.index_mut.ensures.value c.move_into.ensures.partial_room)
    ∙ ap (λ (core : Cored). core.rooms) c.self.view_is
