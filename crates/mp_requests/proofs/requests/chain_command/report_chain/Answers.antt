use Rattle.std.proofs.Common.{◌≡◌, length, refl, ap, arith}
use Rattle.mp_defs.specs.Profile.{matrix_profile}
use Rattle.mp_replies.specs.Command.{ChainReport}
use Rattle.mp_replies.specs.ChainCommand.{chain_in}
use Rattle.mp_replies.specs.Command as asked
use Rattle.mp_replies.specs.State.{series_at}
use Rattle.mp_stores.specs.Stores.{channel_series}
use Rattle.mp_requests.specs.declared.reports.Report.TheVariants as report
use Rattle.mp_requests.proofs.ColumnLemmas.{columns_of_profile, profile_right_long, sides_stand}
use Rattle.mp_requests.proofs.ReportLemmas.{reported}
use Rattle.mp_requests.proofs.requests.chain_command.report_chain.Goals as goal

pub anchored-requires-clause-columns : goal.anchored-requires-clause-columns
anchored-requires-clause-columns c =
    let held = c.args.stores.now in
    columns_of_profile held.m (channel_series held c.args.at) c.profile-profile.result.now _ _
    c.profile-profile.ensures c.left.ensures c.right.ensures

pub anchored-requires-clause-start : goal.anchored-requires-clause-start
anchored-requires-clause-start c =
    let held = c.args.stores.now in
    let long =
    profile_right_long held.m (channel_series held c.args.at) c.profile-profile.result.now
    c.profile-profile.ensures in
    omega (arith, long, ap length c.right.ensures, c.in_default.ensures.window)

pub returns : goal.returns
returns c =
    let held = c.args.stores.now in
    let at = c.args.at in
    let start = c.args.start in
    reported c.args.context (asked.Chain at start) held (report.Chain c.in_ok-chain.chain) tt refl refl refl
    (λ stores files. c.in_default.ensures.cause stores)
    (λ stores files stand.
    let columns = matrix_profile held.m (series_at stores at) in
    let sides =
    sides_stand held stores at c.profile-profile.result.now _ _ stand c.in_default.ensures.channel
    c.profile-profile.ensures c.left.ensures c.right.ensures in
    let chain : c.in_ok-chain.chain.items ≡ chain_in columns start =
    rw (← sides.left_is, ← sides.right_is) c.in_ok-chain.ensures in
    ap ChainReport chain)
