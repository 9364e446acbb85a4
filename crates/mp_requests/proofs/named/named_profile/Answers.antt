use Rattle.std.proofs.Common.{◌∙◌, ap}
use Rattle.std.proofs.lemmas.Result.{IfOk-weaker}
use Rattle.mp_replies.specs.Report.{report_written}
use Rattle.mp_requests.proofs.KeptLemmas.{kept_as, live_profile_is, open_channel, open_profile_is}
use Rattle.mp_requests.proofs.named.named_profile.Goals as goal

pub returns-in-Some : goal.returns-in-Some
returns-in-Some c = λ state slots.
    let held = c.args.stores.now in
    let at = c.args.at in
    let kept = c.in-Some.kept.now in
    let is = kept_as held state.stores at kept slots.stand c.in-Some.ensures.some c.requires in
    IfOk-weaker c.live_windows.result _ _
    (λ text told.
    told
    ∙ ap (report_written c.args.form c.args.line)
    (live_profile_is state held at kept slots c.in-Some.ensures.stands.window is))
    (c.live_windows.ensures is.samples is.stands)

pub profile-requires : goal.profile-requires
profile-requires c = open_channel c.args.stores.now c.args.at c.in-None.ensures.none c.requires

pub returns-in-None : goal.returns-in-None
returns-in-None c = λ state slots.
    let held = c.args.stores.now in
    IfOk-weaker c.whole_profile.result _ _
    (λ text told.
    told
    ∙ ap (report_written c.args.form c.args.line)
    (open_profile_is state held c.args.at c.profile.result.now slots c.in-None.ensures.none c.requires
    c.profile.ensures))
    c.whole_profile.ensures
