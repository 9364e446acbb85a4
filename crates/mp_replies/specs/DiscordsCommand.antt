-- `discords R COUNT`: the most unusual windows of a channel.
use Rattle.std.specs.Prelude.{ℕ, ◌+◌, List, [], ◌∷◌, ◌++◌, length, map, codes, decimal, flat_map, Option, Some, None}
use Rattle.mp_nums.specs.declared.finds.Discord.{Discord}
use Rattle.mp_defs.specs.Profile.{matrix_profile}
use Rattle.mp_defs.specs.Window.{excl}
use Rattle.mp_defs.specs.Series.{Series}
use Rattle.mp_results.specs.Discords.{discords}
use Rattle.mp_defs.specs.Band.{first_kept}
use Rattle.mp_replies.specs.Band.{live_profile}
use Rattle.mp_replies.specs.Command.{Report, DiscordsReport}
use Rattle.mp_replies.specs.Conditions.{Condition, no_slot, lazy_slot, no_channel}
use Rattle.mp_replies.specs.declared.refs.Ref.{Ref}
use Rattle.mp_replies.specs.State.{State, Store, keep_at, series_at}
use Rattle.mp_replies.specs.Text.{near_text}

abbrev pub discords_conditions : List Store → Ref → List Condition
discords_conditions stores at = no_slot stores at.slot ∷ lazy_slot stores at.slot ∷ no_channel stores at ∷ []

-- ---- the report

-- a window that was found at a place among the live ones, by the start of the first of these
abbrev pub started_at : ℕ → Discord → Discord
started_at first discord = record discord { start = first + discord.start }

-- of a series of which all samples are kept, or the last ones
abbrev pub discords_of : Option ℕ → ℕ → Series → ℕ → Report
discords_of None m a most = DiscordsReport (discords (matrix_profile m a).all (excl m) most)
discords_of (Some keep) m a most =
    DiscordsReport
    (map (started_at (first_kept keep (length a))) (discords (live_profile keep m a).all (excl m) most))

abbrev pub discords_report : State → Ref → ℕ → Report
discords_report state at most =
    discords_of (keep_at state.stores at.slot) state.window (series_at state.stores at) most

-- a window, and its entry
abbrev pub discord_text : Discord → List ℕ
discord_text discord = decimal discord.start ++ codes " " ++ near_text discord.near

abbrev pub discords_text : ℕ → List Discord → List ℕ
discords_text line list =
    codes "discords " ++ decimal line ++ codes " " ++ decimal (length list) ++ codes "\n"
    ++ flat_map discord_text list
