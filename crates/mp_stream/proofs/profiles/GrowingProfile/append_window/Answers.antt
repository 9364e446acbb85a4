use Rattle.std.proofs.Common.{◌≡◌, ◌∙◌, ap, arith}
use Rattle.mp_defs.specs.Series.{series_of}
use Rattle.mp_defs.specs.Window.{is_free}
use Rattle.mp_stream.specs.Rows.{last_place}
use Rattle.mp_stream.specs.Streams.{without_last}
use Rattle.mp_stream.proofs.Growing.{all_grow, all_wait, is_split, offered_lent, rights_count, waits_lent}
use Rattle.mp_stream.proofs.profiles.GrowingProfile.append_window.Goals as goal

pub free-is_free-requires : goal.free-is_free-requires
free-is_free-requires c =
    let items = c.args.samples.now.items in
    let split = is_split c.args.m items (omega arith) c.requires.long in
    let rights = rights_count c.args.m (without_last items) c.args.self.now c.requires.is_of in
    omega (arith, c.len-last.ensures.right, rights, split.front, split.more)

pub append_row-requires : goal.append_row-requires
append_row-requires c =
    let items = c.args.samples.now.items in
    waits_lent c.args.m items _ c.len-count.result _ c.parts.ensures.first c.len-count.ensures.length
    (all_wait c.args.m items c.free-is_free.result c.args.self.now c.grow.new.self (omega arith) c.requires.longest
    c.requires.long (omega (arith, c.len-count.ensures.length, c.len-count.ensures.within)) c.requires.is_of
    (is_split c.args.m items (omega arith) c.requires.long) c.grow.ensures.grown c.requires.range)

pub returns-clause-is_of : goal.returns-clause-is_of
returns-clause-is_of c =
    let items = c.args.samples.now.items in
    let before = c.args.self.now in
    let split = is_split c.args.m items (omega arith) c.requires.long in
    let rights = rights_count c.args.m (without_last items) before c.requires.is_of in
    let last : c.free-is_free.result ≡ is_free c.args.m (series_of items) (last_place c.args.m items) =
    c.free-is_free.ensures
    ∙ ap (is_free c.args.m (series_of items)) (c.len-last.ensures.right ∙ rights ∙ split.front) in
    all_grow c.args.m items c.free-is_free.result before c.grow.new.self c.append_row.new.self c.requires.is_of split
    c.grow.ensures.grown
    (offered_lent c.args.m items _ c.len-count.result c.free-is_free.result c.grow.new.self c.append_row.new.self
    c.parts.ensures.first c.len-count.ensures.length c.append_row.ensures.offered)
    last
    (all_wait c.args.m items c.free-is_free.result before c.grow.new.self (omega arith) c.requires.longest
    c.requires.long (omega (arith, c.len-count.ensures.length, c.len-count.ensures.within)) c.requires.is_of split
    c.grow.ensures.grown c.requires.range)
