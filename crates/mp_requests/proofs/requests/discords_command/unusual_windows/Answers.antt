use Rattle.std.proofs.Common.{◌≡◌, ◌∙◌, ap}
use Rattle.std.proofs.lemmas.Result.{IfOk-weaker}
use Rattle.mp_defs.specs.Window.{excl}
use Rattle.mp_requests.proofs.DiscordLemmas.{live_discords_told}
use Rattle.mp_requests.proofs.KeptLemmas.{kept_as}
use Rattle.mp_requests.proofs.requests.discords_command.unusual_windows.Goals as goal

pub returns-in-Some : goal.returns-in-Some
returns-in-Some c = λ stands stand.
    let held = c.args.stores.now in
    let at = c.args.unusual.at in
    let kept = c.in-Some.kept.now in
    let is = kept_as held stands at kept stand c.in-Some.ensures.some c.requires in
    let zone : c.excl-zone.result ≡ excl held.m = c.excl-zone.ensures ∙ ap excl c.window_len.ensures.m in
    IfOk-weaker c.unusual_live_windows.result _ _
    (λ found told.
    live_discords_told held stands at kept c.excl-zone.result c.args.unusual.count found.items
    c.in-Some.ensures.stands.window is zone told)
    (c.unusual_live_windows.ensures is.samples is.stands)
