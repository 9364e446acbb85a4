use Rattle.std.proofs.Common.{◌≡◌, ◌++◌, ◌∷◌, [], arith, subst, sym, List}
use Rattle.std.proofs.lemmas.List.Elements.{All-push}
use Rattle.mp_stream.specs.Streams.{Streamed}
use Rattle.mp_stores.specs.Stores.{HaveWindow}
use Rattle.mp_commands.specs.Preparing.{AreEmpty, IsEmpty}
use Rattle.mp_commands.proofs.open_command.empty_channels.Goals as goal

pub loop-preserved : goal.loop-preserved
loop-preserved g c =
    let old = c.loop.channels.items in
    let one = c.in_ok-empty.field-0 in
    let grown = sym {A = List Streamed} {b = old ++ one ∷ []} c.in_ok-push.ensures.items in
    let new : IsEmpty one = record { items_are = c.in_ok-empty.ensures.items; unread = c.in_ok-empty.ensures.reads } in
    record {
      len = omega (arith, c.in_ok-push.ensures.len);
      empty = subst (λ (channels : List Streamed). AreEmpty channels) {x = old ++ one ∷ []} grown
          (All-push IsEmpty old one c.loop.invariant.empty new);
      window = subst (λ (channels : List Streamed). HaveWindow c.args.m channels) {x = old ++ one ∷ []} grown
          (All-push (λ channel. channel.m ≡ c.args.m) old one c.loop.invariant.window c.in_ok-empty.ensures.m);
    }
