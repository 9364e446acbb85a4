use Rattle.std.proofs.Common.{◌≡◌, ◌∙◌, ◌++◌, ◌∷◌, [], List, ap, arith, subst, sym, take}
use Rattle.std.proofs.lemmas.List.{map-append, take_more}
use Rattle.std.proofs.lemmas.List.Elements.{All-push}
use Rattle.mp_nums.specs.declared.samples.Sample.{Sample}
use Rattle.mp_stream.specs.Streams.{Streamed}
use Rattle.mp_stores.specs.Stores.{HaveWindow, items_in}
use Rattle.mp_commands.proofs.LoadLemmas.{got}
use Rattle.mp_commands.proofs.load_command.channels_of.Goals as goal

pub loop-k-preserved : goal.loop-k-preserved
loop-k-preserved g c =
    let old = c.loop-k.channels.items in
    let one = c.in_ok-of.field-0 in
    let columns = c.args.columns.now in
    let series = c.series.result.now in
    let k = c.loop-k.k in
    record {
      items =
          ap items_in {y = old ++ one ∷ []} c.in_ok-push.ensures.items
          ∙ (map-append (λ channel. channel.items) old (one ∷ [])
          ∙ (ap (λ (lists : List (List Sample)). lists ++ one.items ∷ []) c.loop-k.invariant.items
          ∙ (ap (λ (samples : List Sample). take k columns ++ samples ∷ [])
          (c.in_ok-of.ensures.items ∙ sym (got columns k series c.series.ensures))
          ∙ sym (take_more columns k [] (omega (arith, c.loop-k-test.true, c.count-k-end.ensures))))));
      window =
          subst (λ (channels : List Streamed). HaveWindow c.args.plan.m channels) {x = old ++ one ∷ []}
          (sym {b = old ++ one ∷ []} c.in_ok-push.ensures.items)
          (All-push (λ channel. channel.m ≡ c.args.plan.m) old one c.loop-k.invariant.window c.in_ok-of.ensures.m);
    }
