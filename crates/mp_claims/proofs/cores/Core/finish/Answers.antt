use Rattle.std.proofs.Common.{◌≡◌, length, set, get_or, map, [], ◌∷◌, subst, sym, ap, ◌∙◌}
use Rattle.std.specs.Prelude.{Some, slice_get}
use Rattle.std.proofs.lemmas.List.{length-set}
use Rattle.mp_claims.specs.declared.states.WorkerState.TheVariants.{Free, Holds}
use Rattle.mp_claims.specs.Cores.{CoreState}
use Rattle.mp_claims.specs.Standing.{Cored}
use Rattle.mp_claims.proofs.Partials.{size_at, sizes_kept, count_kept, values_set, rooms_kept, holder_has_partial}
use Rattle.mp_claims.proofs.Partials.{same_piece}
use Rattle.mp_claims.proofs.cores.Core.finish.Goals as goal

pub run-requires-clause-size : goal.run-requires-clause-size
run-requires-clause-size g c =
    let parts = c.self.inside.partials.items in
    let there = holder_has_partial g.P.Part.size_of parts c.self.inside.board.workers c.args.w c.finish-piece.result
    c.self.invariant.each_worker c.finish-piece.ensures.piece in
    size_at g.P.Part.size_of parts c.args.w c.self.inside.size c.index_mut.result.now c.self.invariant.partial_sizes
    there c.index_mut.ensures.value
    ∙ ap (λ (core : Cored). core.size) c.self.view_is ∙ sym c.requires.size

pub invariant_of-self : goal.invariant_of-self
invariant_of-self g c =
    let parts = c.self.inside.partials.items in
    let there = holder_has_partial g.P.Part.size_of parts c.self.inside.board.workers c.args.w c.finish-piece.result
    c.self.invariant.each_worker c.finish-piece.ensures.piece in
    record {
      total_size = c.self.invariant.total_size;
      partial_sizes = sizes_kept g.P.Part.size_of parts c.args.w c.self.inside.size c.run.new.into
          c.self.invariant.partial_sizes
          (c.run.ensures.size ∙ size_at g.P.Part.size_of parts c.args.w c.self.inside.size c.index_mut.result.now
          c.self.invariant.partial_sizes there c.index_mut.ensures.value);
      each_worker = count_kept g.P.Part.size_of parts c.args.w c.run.new.into ∙ c.self.invariant.each_worker
          ∙ sym (ap (λ (state : CoreState). length state.workers) c.finish-piece.ensures.state
          ∙ length-set c.self.inside.board.workers c.args.w Free);
    }

pub returns-clause-partials : goal.returns-clause-partials
returns-clause-partials g c =
    let parts = c.self.inside.partials.items in
    let there = holder_has_partial g.P.Part.size_of parts c.self.inside.board.workers c.args.w c.finish-piece.result
    c.self.invariant.each_worker c.finish-piece.ensures.piece in
    λ k holds.
    let here : slice_get c.self.inside.board.workers c.args.w ≡ Some (Holds k) =
    subst (λ (core : Cored). slice_get core.state.workers c.args.w ≡ Some (Holds k)) (sym c.self.view_is) holds in
    let piece = same_piece c.self.inside.board.workers c.args.w c.finish-piece.result k c.finish-piece.ensures.piece
    here in
    values_set g.P.Part.value g.P.Part.merged parts c.args.w c.index_mut.result.now c.run.new.into
    (g.K.Kernel.value_of c.args.kernel.now c.finish-piece.result) there c.index_mut.ensures.value c.run.ensures.value
    ∙ ap (λ j. set (map g.P.Part.value parts) c.args.w
    (g.P.Part.merged (get_or (map g.P.Part.value parts) c.args.w []) (g.K.Kernel.value_of c.args.kernel.now j))) piece
    ∙ ap (λ (core : Cored). set core.partials c.args.w
    (g.P.Part.merged (get_or core.partials c.args.w []) (g.K.Kernel.value_of c.args.kernel.now k))) c.self.view_is

pub returns-clause-rooms : goal.returns-clause-rooms
returns-clause-rooms g c =
    let parts = c.self.inside.partials.items in
    let there = holder_has_partial g.P.Part.size_of parts c.self.inside.board.workers c.args.w c.finish-piece.result
    c.self.invariant.each_worker c.finish-piece.ensures.piece in
    ap (λ rooms. g.P.Part.room_of c.self.inside.total ∷ rooms)
    (rooms_kept g.P.Part.room_of parts c.args.w c.index_mut.result.now c.run.new.into there c.index_mut.ensures.value
    c.run.ensures.room)
    ∙ ap (λ (core : Cored). core.rooms) c.self.view_is
