use Rattle.std.proofs.Common.{◌≡◌, ◌∙◌, ◌<◌, ◌^◌, ap, arith, drop, refl, subst, sym}
use Rattle.std.specs.Prelude.{IsSome}
use Rattle.std.proofs.lemmas.List.{length-drop}
use Rattle.mp_stream.specs.Blocks.{numbered}
use Rattle.mp_stream.specs.KeptProfiles.{leaving}
use Rattle.mp_stream.specs.Streams.{HaveRows}
use Rattle.mp_stream.proofs.KeptRows.{last_drops, last_without, last_without_first}
use Rattle.mp_stream.proofs.kept_profiles.make_room.Goals as goal

pub drop_first-requires : goal.drop_first-requires
drop_first-requires c =
    let kept = c.requires in
    let of = kept.is_of in
    let full = c.if-len-keep.true in
    record {
      some = omega (arith, of.row.frees, kept.least, kept.shortest, full, c.len.ensures.length);
      rows = subst (λ n. HaveRows n c.args.growing.now) (sym of.row.frees) of.row.rows;
      limits = of.row.limits.places ∙ of.rights ∙ sym of.row.frees;
      right = of.rights ∙ sym of.row.frees;
      last = subst IsSome (sym of.first) refl;
      number = subst (λ first. numbered first 1 < 2 ^ 64) (sym of.first) (omega (arith, kept.appended));
    }

pub returns-then-len-keep-clause-is_of : goal.returns-then-len-keep-clause-is_of
returns-then-len-keep-clause-is_of c =
    let kept = c.requires in
    let items = c.args.ring.now.items in
    let one : leaving c.args.keep items ≡ 1 = omega (arith, c.if-len-keep.true, c.len.ensures.length) in
    last_without_first c.args.m (leaving c.args.keep items) items c.args.ring.now.dropped _ one
    (last_drops c.args.m items c.args.ring.now.dropped c.args.growing.now _ (omega (arith, kept.shortest))
    (omega (arith, kept.least, c.if-len-keep.true, c.len.ensures.length)) kept.is_of c.drop_first.ensures.dropped)

pub returns-then-len-keep-clause-left : goal.returns-then-len-keep-clause-left
returns-then-len-keep-clause-left c =
    let one : 1 ≡ leaving c.args.keep c.args.ring.now.items =
    omega (arith, c.if-len-keep.true, c.len.ensures.length) in
    c.drop_first.ensures.dropped.left ∙ ap (λ n. drop n c.args.growing.now.entries.profile.left) one

pub returns-then-len-keep-clause-right : goal.returns-then-len-keep-clause-right
returns-then-len-keep-clause-right c =
    let one : 1 ≡ leaving c.args.keep c.args.ring.now.items =
    omega (arith, c.if-len-keep.true, c.len.ensures.length) in
    c.drop_first.ensures.dropped.right ∙ ap (λ n. drop n c.args.growing.now.entries.profile.right) one

pub returns-then-len-keep-clause-room : goal.returns-then-len-keep-clause-room
returns-then-len-keep-clause-room c =
    let items = c.args.ring.now.items in
    omega (
      arith,
      c.requires.room,
      c.requires.least,
      c.drop_first.ensures.room,
      c.if-len-keep.true,
      c.len.ensures.length,
      length-drop (leaving c.args.keep items) items,
    )

pub returns-else-len-keep-clause-is_of : goal.returns-else-len-keep-clause-is_of
returns-else-len-keep-clause-is_of c =
    let items = c.args.ring.now.items in
    last_without c.args.m (leaving c.args.keep items) items c.args.ring.now.dropped c.args.growing.now
    (omega (arith, c.if-len-keep.false, c.len.ensures.length, c.requires.held)) c.requires.is_of

pub returns-else-len-keep-clause-left : goal.returns-else-len-keep-clause-left
returns-else-len-keep-clause-left c =
    let none : 0 ≡ leaving c.args.keep c.args.ring.now.items =
    omega (arith, c.if-len-keep.false, c.len.ensures.length, c.requires.held) in
    ap (λ n. drop n c.args.growing.now.entries.profile.left) none

pub returns-else-len-keep-clause-right : goal.returns-else-len-keep-clause-right
returns-else-len-keep-clause-right c =
    let none : 0 ≡ leaving c.args.keep c.args.ring.now.items =
    omega (arith, c.if-len-keep.false, c.len.ensures.length, c.requires.held) in
    ap (λ n. drop n c.args.growing.now.entries.profile.right) none

pub returns-else-len-keep-clause-room : goal.returns-else-len-keep-clause-room
returns-else-len-keep-clause-room c =
    let items = c.args.ring.now.items in
    omega (
      arith,
      c.requires.room,
      c.if-len-keep.false,
      c.requires.held,
      c.len.ensures.length,
      length-drop (leaving c.args.keep items) items,
    )
