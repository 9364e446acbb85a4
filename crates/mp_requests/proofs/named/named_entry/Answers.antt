use Rattle.std.proofs.Common.{◌∙◌, ap, arith}
use Rattle.std.proofs.lemmas.Result.{IfOk-weaker}
use Rattle.mp_replies.specs.Report.{report_written}
use Rattle.mp_stores.specs.Stores.{channel_series}
use Rattle.mp_requests.proofs.ColumnLemmas.{profile_long}
use Rattle.mp_requests.proofs.KeptLemmas.{kept_as, live_entry_is, open_channel, open_entry_is}
use Rattle.mp_requests.proofs.named.named_entry.Goals as goal

pub live_window-requires : goal.live_window-requires
live_window-requires c = c.requires.live c.in-Some.kept.now c.in-Some.ensures.some

pub returns-in-Some : goal.returns-in-Some
returns-in-Some c = λ state slots.
    let held = c.args.stores.now in
    let at = c.args.at in
    let kept = c.in-Some.kept.now in
    let is = kept_as held state.stores at kept slots.stand c.in-Some.ensures.some c.requires.named in
    IfOk-weaker c.live_window.result _ _
    (λ text told.
    told
    ∙ ap (report_written c.args.form c.args.line)
    (live_entry_is state held at c.args.start kept slots c.in-Some.ensures.stands.window
    (c.requires.live kept c.in-Some.ensures.some) is))
    c.live_window.ensures

pub profile-requires : goal.profile-requires
profile-requires c = open_channel c.args.stores.now c.args.at c.in-None.ensures.none c.requires.named

pub entry_of_window-requires : goal.entry_of_window-requires
entry_of_window-requires c =
    let held = c.args.stores.now in
    let profile = c.profile.result.now in
    let long = profile_long held.m (channel_series held c.args.at) profile c.profile.ensures in
    omega (arith, long, c.requires.within c.in-None.ensures.none)

pub returns-in-None : goal.returns-in-None
returns-in-None c = λ state slots.
    let held = c.args.stores.now in
    IfOk-weaker c.entry_of_window.result _ _
    (λ text told.
    told
    ∙ ap (report_written c.args.form c.args.line)
    (open_entry_is state held c.args.at c.args.start c.profile.result.now slots c.in-None.ensures.none
    c.requires.named c.profile.ensures))
    c.entry_of_window.ensures
