use Rattle.std.proofs.Common.{◌∙◌, List, Option, Bool, ap, arith, length, refl, subst, sym}
use Rattle.mp_nums.specs.declared.nearest.Near.{Near}
use Rattle.mp_defs.specs.Series.{series_of}
use Rattle.mp_defs.specs.Profile.{matrix_profile}
use Rattle.mp_stream.specs.Blocks.{AreKnown, block_count}
use Rattle.mp_stores.proofs.ArcLemmas.{CanFollow, can_follow, entries, known_named}
use Rattle.mp_stores.proofs.channels.Channel.add.Goals as goal

abbrev follows : (c : goal.After-changed)
    → CanFollow c.all.result.now c.self.inside.board.items c.self.inside.board.spare
follows c =
    let was = c.self.inside.stream in
    let spare = ap (λ v. v.spare) c.self.view_is in
    let items = ap (λ v. length v.items) c.self.view_is in
    can_follow was.m c.append_each.new.stream.m was.items c.args.samples.now c.append_each.new.stream.items
    c.self.inside.board.items c.self.inside.board.spare c.all.result.now c.self.invariant.0
    c.append_each.ensures.grown.items_are c.append_each.ensures.grown.window_is (omega (arith, c.requires.room, spare))
    (omega (arith, c.requires.fits, items)) (c.all.ensures.column ∙ c.profile.ensures.all)

pub follow_changes-requires-clause-fewer : goal.follow_changes-requires-clause-fewer
follow_changes-requires-clause-fewer c = (follows c).fewer

pub follow_changes-requires-clause-room : goal.follow_changes-requires-clause-room
follow_changes-requires-clause-room c = (follows c).room

pub follow_changes-requires-clause-few : goal.follow_changes-requires-clause-few
follow_changes-requires-clause-few c = (follows c).few

pub follow_changes-requires-clause-named : goal.follow_changes-requires-clause-named
follow_changes-requires-clause-named c = (follows c).named

pub follow_changes-requires-clause-blocks : goal.follow_changes-requires-clause-blocks
follow_changes-requires-clause-blocks c =
    let new = c.append_each.new.stream in
    c.changed.ensures.blocks
    ∙ ap block_count (sym (ap length (c.all.ensures.column ∙ c.profile.ensures.all) ∙ entries new.m new.items))

pub follow_changes-requires-clause-unmarked : goal.follow_changes-requires-clause-unmarked
follow_changes-requires-clause-unmarked c =
    let was = c.self.inside.stream in
    let known = (matrix_profile was.m (series_of was.items)).all in
    let stays = c.append_each.ensures.known known (record { each = λ i clear. refl }) in
    known_named known c.all.result.now c.changed.result.now c.self.inside.board.items c.self.invariant.0.named
    (subst (λ (marks : List Bool). AreKnown known c.all.result.now marks) (sym c.changed.ensures.marks)
    (subst (λ (column : List (Option Near)). AreKnown known column c.append_each.new.stream.changed)
    (sym (c.all.ensures.column ∙ c.profile.ensures.all)) stays))
