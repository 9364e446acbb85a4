use Rattle.std.proofs.Common.{◌≡◌, ℕ, map, refl, ap}
use Rattle.mp_nums.specs.Listed.{Listed}
use Rattle.mp_defs.specs.Profile.{matrix_profile}
use Rattle.mp_replies.specs.Command.{ChainsReport}
use Rattle.mp_replies.specs.ChainsCommand.{chains_in}
use Rattle.mp_replies.specs.Command as asked
use Rattle.mp_replies.specs.State.{series_at}
use Rattle.mp_stores.specs.Stores.{channel_series}
use Rattle.mp_requests.specs.declared.reports.Report.TheVariants as report
use Rattle.mp_requests.proofs.ColumnLemmas.{columns_of_profile, sides_stand}
use Rattle.mp_requests.proofs.ReportLemmas.{reported}
use Rattle.mp_requests.proofs.requests.chain_command.report_chains.Goals as goal

pub all_chains-requires : goal.all_chains-requires
all_chains-requires c =
    let held = c.args.stores.now in
    columns_of_profile held.m (channel_series held c.args.at) c.profile-profile.result.now _ _
    c.profile-profile.ensures c.left.ensures c.right.ensures

pub returns : goal.returns
returns c =
    let held = c.args.stores.now in
    let at = c.args.at in
    reported c.args.context (asked.Chains at) held (report.Chains c.in_ok-chains.chains) tt refl refl refl
    (λ stores files. c.in_default.ensures.cause stores)
    (λ stores files stand.
    let columns = matrix_profile held.m (series_at stores at) in
    let sides =
    sides_stand held stores at c.profile-profile.result.now _ _ stand c.in_default.ensures.channel
    c.profile-profile.ensures c.left.ensures c.right.ensures in
    let found : map (λ (chain : Listed ℕ). chain.items) c.in_ok-chains.chains.items ≡ chains_in columns =
    rw (← sides.left_is, ← sides.right_is) c.in_ok-chains.ensures in
    ap ChainsReport found)
