use Rattle.std.proofs.Common.{◌≡◌, ◌∙◌, ℕ, List, map, refl, ap, sym, arith}
use Rattle.std.proofs.lemmas.List.{length-map}
use Rattle.std.proofs.lemmas.List.Elements.{All-same}
use Rattle.mp_defs.specs.Series.{Series, series_of}
use Rattle.mp_results.specs.Multi.{multi_of}
use Rattle.mp_replies.specs.Command.{MultiReport}
use Rattle.mp_replies.specs.Command as asked
use Rattle.mp_replies.specs.State.{channels_at}
use Rattle.mp_stores.specs.StoreLaws.{channels_stand}
use Rattle.mp_stores.specs.Stores.{IsChannel, series_in, slot_at, streams_at}
use Rattle.mp_stream.specs.Streams.{Streamed}
use Rattle.mp_requests.specs.declared.reports.Report.TheVariants as report
use Rattle.mp_requests.specs.Requests.{refs_of}
use Rattle.mp_requests.proofs.ReportLemmas.{copied_channels, copied_long, each_channel, have_one_length, reported}
use Rattle.mp_requests.proofs.ReportLemmas.{some_counted}
use Rattle.mp_requests.proofs.requests.multi_command.report_multi.Goals as goal

pub channels_of-requires : goal.channels_of-requires
channels_of-requires g c =
    some_counted (slot_at c.args.stores.now c.args.slot) c.in_default.ensures.open

pub copies-requires : goal.copies-requires
copies-requires g c =
    let held = c.args.stores.now in
    All-same (IsChannel held) c.as_slice.result.now (refs_of held c.args.slot)
    (c.as_slice.ensures.value ∙ c.in_ok-refs.ensures) (each_channel held c.args.slot c.in_default.ensures.slot)

abbrev copied : (g : _) → (c : goal.After-channels-2-1 g)
    → map series_of c.in_ok-channels.channels ≡ series_in (streams_at c.args.stores.now c.args.slot)
copied g c =
    copied_channels c.args.stores.now c.args.slot _ _ c.in_ok-channels.channels c.as_slice.ensures.value
    c.in_ok-refs.ensures c.in_ok-channels.ensures.series

pub together-requires-clause-one : goal.together-requires-clause-one
together-requires-clause-one g c κs within =
    omega (arith, copied_long _ c.in_ok-channels.channels (copied g c), c.in_default.ensures.open)

pub together-requires-clause-few : goal.together-requires-clause-few
together-requires-clause-few g c κs within =
    let channels = streams_at c.args.stores.now c.args.slot in
    omega (
      arith,
      copied_long channels c.in_ok-channels.channels (copied g c),
      c.in_default.ensures.alike.few,
      length-map channels (λ (channel : Streamed). channel.items),
    )

pub together-requires-clause-one_length : goal.together-requires-clause-one_length
together-requires-clause-one_length g c κs within =
    have_one_length _ c.in_ok-channels.channels c.in_default.ensures.alike (copied g c)

pub together-requires-clause-present : goal.together-requires-clause-present
together-requires-clause-present g c κs within =
    omega (arith, copied_long _ c.in_ok-channels.channels (copied g c), c.in_default.ensures.present)

pub returns-clause-report : goal.returns-clause-report
returns-clause-report g c =
    let held = c.args.stores.now in
    let slot = c.args.slot in
    let k = c.args.k in
    reported c.args.context (asked.Multi slot k) held (report.Multi c.in_ok-slots.slots) tt refl refl refl
    (λ stores files. c.in_default.ensures.cause stores)
    (λ stores files stand.
    let copies : map series_of c.in_ok-channels.channels ≡ channels_at stores slot =
    copied_channels held slot _ _ c.in_ok-channels.channels c.as_slice.ensures.value c.in_ok-refs.ensures
    c.in_ok-channels.ensures.series
    ∙ sym (channels_stand held stores slot stand c.in_default.ensures.open) in
    let window : c.plan-plan.result.m ≡ held.m =
    c.plan-plan.ensures ∙ (c.window_len.ensures.m ∙ c.copies.ensures.stands.window_is) in
    ap MultiReport
    (c.in_ok-slots.ensures
    ∙ (ap (λ (n : ℕ). multi_of n k (map series_of c.in_ok-channels.channels)) window
    ∙ ap (λ (list : List Series). multi_of held.m k list) copies)))
