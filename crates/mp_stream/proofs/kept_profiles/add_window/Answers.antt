use Rattle.std.proofs.Common.{◌≡◌, ◌∙◌, ap, arith}
use Rattle.mp_defs.specs.Series.{series_of}
use Rattle.mp_defs.specs.Window.{is_free}
use Rattle.mp_stream.specs.Rows.{last_place}
use Rattle.mp_stream.proofs.Growing.{is_split, offered_lent, waits_lent}
use Rattle.mp_stream.proofs.KeptRows.{last_added, last_grows, last_waits}
use Rattle.mp_stream.proofs.kept_profiles.add_window.Goals as goal

pub free-is_free-requires : goal.free-is_free-requires
free-is_free-requires c =
    let items = c.args.ring.now.items in
    let split = is_split c.args.m items (omega arith) c.requires.long in
    omega (arith, c.len-last.ensures.right, c.requires.is_of.rights, split.front, split.more)

pub append_row-requires : goal.append_row-requires
append_row-requires c =
    let items = c.args.ring.now.items in
    waits_lent c.args.m items _ c.len-count.result _ c.parts.ensures.first c.len-count.ensures.length
    (last_waits c.args.m items c.args.ring.now.dropped c.free-is_free.result c.args.growing.now c.grow.new.self
    (omega arith) c.requires.longest c.requires.long c.requires.few c.requires.is_of
    (is_split c.args.m items (omega arith) c.requires.long) c.grow.ensures.grown c.requires.range)

pub returns-clause-is_of : goal.returns-clause-is_of
returns-clause-is_of c =
    let items = c.args.ring.now.items in
    let before = c.args.growing.now in
    let split = is_split c.args.m items (omega arith) c.requires.long in
    let last : c.free-is_free.result ≡ is_free c.args.m (series_of items) (last_place c.args.m items) =
    c.free-is_free.ensures
    ∙ ap (is_free c.args.m (series_of items)) (c.len-last.ensures.right ∙ c.requires.is_of.rights ∙ split.front) in
    last_grows c.args.m items c.args.ring.now.dropped c.free-is_free.result before c.grow.new.self
    c.append_row.new.self c.requires.is_of split c.grow.ensures.grown
    (offered_lent c.args.m items _ c.len-count.result c.free-is_free.result c.grow.new.self c.append_row.new.self
    c.parts.ensures.first c.len-count.ensures.length c.append_row.ensures.offered)
    last
    (last_waits c.args.m items c.args.ring.now.dropped c.free-is_free.result before c.grow.new.self
    (omega arith) c.requires.longest c.requires.long c.requires.few c.requires.is_of split c.grow.ensures.grown
    c.requires.range)

pub returns-clause-added : goal.returns-clause-added
returns-clause-added c =
    let items = c.args.ring.now.items in
    let split = is_split c.args.m items (omega arith) c.requires.long in
    let last : c.free-is_free.result ≡ is_free c.args.m (series_of items) (last_place c.args.m items) =
    c.free-is_free.ensures
    ∙ ap (is_free c.args.m (series_of items)) (c.len-last.ensures.right ∙ c.requires.is_of.rights ∙ split.front) in
    last_added c.args.m items c.free-is_free.result c.args.growing.now c.grow.new.self c.append_row.new.self
    c.grow.ensures.grown
    (offered_lent c.args.m items _ c.len-count.result c.free-is_free.result c.grow.new.self c.append_row.new.self
    c.parts.ensures.first c.len-count.ensures.length c.append_row.ensures.offered) last
