-- What requests ask for, and what answers say.
use Rattle.std.specs.Prelude.{◌≡◌, ℕ, ◌+◌, ◌-◌, ◌<◌, ◌≤◌, List, [], ◌∷◌, length, map, Bool, true, false}
use Rattle.std.specs.Prelude.{Option, Some, None, option_map, slice_index_or, unwrap_or}
use Rattle.std.specs.List.{range_with_len}
use Rattle.mp_nums.specs.Listed.{Listed}
use Rattle.mp_nums.specs.declared.nearest.Near.{Near}
use Rattle.mp_defs.specs.Series.{Series, series_of}
use Rattle.mp_defs.specs.Profile.{Columns, ab_join}
use Rattle.mp_defs.specs.Window.{windows}
use Rattle.mp_results.specs.Consensus.{central}
use Rattle.mp_results.specs.Covering.{Covering, uncovered}
use Rattle.mp_results.specs.Curve.{parts_of}
use Rattle.mp_results.specs.LazyProfile.{lazy_profile}
use Rattle.mp_results.specs.Motifs.{repeated_of}
use Rattle.mp_replies.specs.Answer as replies
use Rattle.mp_replies.specs.EntryCommand.{entry_report}
use Rattle.mp_replies.specs.PartialCommand.{partial_report}
use Rattle.mp_replies.specs.Limits.{slot_count}
use Rattle.mp_replies.specs.MpdistCommand.{mpdist_between}
use Rattle.mp_replies.specs.ProfileCommand.{profile_report}
use Rattle.mp_replies.specs.State.{State}
use Rattle.mp_replies.specs.declared.modes.Mode.{Mode}
use Rattle.mp_replies.specs.declared.refs.Ref.{Ref}
use Rattle.mp_stores.specs.Stores.{Kept, StandFor, Stored, channel_count, channel_series, is_lazy, keep_of, slot_at}
use Rattle.mp_stores.specs.Stores.{streams_at}
use Rattle.mp_defs.specs.Band.{first_kept, live_windows}
use Rattle.mp_stream.specs.Kept.{Keeping}
use Rattle.mp_requests.specs.declared.answers.Answer.{Answer}
use Rattle.mp_requests.specs.declared.answers.Answer.TheVariants.{Silent, Refused, Accepted, Ended}
use Rattle.mp_requests.specs.declared.answers.ReplyKind.{ReplyKind}
use Rattle.mp_requests.specs.declared.answers.ReplyKind.TheVariants as kinds
use Rattle.mp_requests.specs.declared.reports.Report as reports
use Rattle.mp_requests.specs.declared.reports.Report.TheVariants as report
use Rattle.mp_requests.specs.declared.requests.Comparison.{Comparison}
use Rattle.mp_requests.specs.declared.requests.Comparison.TheVariants as comparison
use Rattle.mp_bytes.specs.Fields.{fields_in}
use Rattle.mp_replies.specs.Command as commands
use Rattle.mp_replies.specs.Laws.{IsWithin}
use Rattle.mp_replies.specs.Line.{Asked, Nothing, Asks, Faulty}
use Rattle.mp_replies.specs.MotifsCommand.{motif_query}
use Rattle.mp_replies.specs.Numbers.{refs}
use Rattle.mp_lines.specs.declared.ref_lists.Refs as named
use Rattle.mp_requests.specs.declared.requests.Comparison.TheVariants.{Join, Mpdist}
use Rattle.mp_requests.specs.declared.requests.Neighbours as neighbours
use Rattle.mp_requests.specs.declared.requests.Lengths as lengths
use Rattle.mp_requests.specs.declared.requests.Pattern as patterns
use Rattle.mp_requests.specs.declared.requests.Repeats as repeats
use Rattle.mp_requests.specs.declared.requests.ReportRequest.{ReportRequest}
use Rattle.mp_requests.specs.declared.requests.ReportRequest.TheVariants.{Session, Window, Profile, Entry, Partial}
use Rattle.mp_requests.specs.declared.requests.ReportRequest.TheVariants.{Compare, Multi, Nearest, Pan, Match, Motifs}
use Rattle.mp_requests.specs.declared.requests.ReportRequest.TheVariants.{Discords, Chain, Chains, Segments}
use Rattle.mp_requests.specs.declared.requests.ReportRequest.TheVariants.{Consensus, End}

-- ---- requests

-- the numbers of a command lie within their limits
abbrev pub IsWithinLimits : Asked → Type 0
IsWithinLimits Nothing = Unit {0}
IsWithinLimits (Faulty cause) = Unit {0}
IsWithinLimits (Asks command) = IsWithin command

-- a line that asks for a report alone, for which no slot is changed
abbrev pub AsksForReport : Asked → Type 0
AsksForReport Nothing = ⊥
AsksForReport (Faulty cause) = ⊥
AsksForReport (Asks (commands.OpenAnew slot channels)) = ⊥
AsksForReport (Asks (commands.KeepLast slot keep)) = ⊥
AsksForReport (Asks (commands.Load slot file cols header)) = ⊥
AsksForReport (Asks (commands.LoadLazy slot file column header)) = ⊥
AsksForReport (Asks (commands.Append slot items)) = ⊥
AsksForReport (Asks (commands.Advance slot count)) = ⊥
AsksForReport (Asks other) = Unit {0}

abbrev pub asks_nearest : neighbours.Neighbours → Asked
asks_nearest sought = Asks (commands.Nearest sought.at sought.k)

abbrev pub asks_pan : lengths.Lengths → Asked
asks_pan sought = Asks (commands.Pan sought.at sought.lo sought.hi)

abbrev pub asks_match : patterns.Pattern → Asked
asks_match pattern = Asks (commands.Match pattern.at pattern.query pattern.start pattern.radius pattern.max)

abbrev pub asks_motifs : repeats.Repeats → Asked
asks_motifs sought =
    Asks (commands.Motifs sought.at
    (motif_query sought.count sought.cutoff sought.radius sought.neighbours sought.matches))

abbrev pub asks_consensus : named.Refs → Asked
asks_consensus list = Asks (commands.Consensus (unwrap_or (refs (fields_in list.field.now)) []))

abbrev pub compared_by : Comparison → Ref → Ref → commands.Command
compared_by Join a b = commands.Join a b
compared_by Mpdist a b = commands.Mpdist a b

abbrev pub reported_in : ReportRequest → Asked
reported_in (Session mode) = Asks (commands.Session mode)
reported_in (Window at start) = Asks (commands.Window at start)
reported_in (Profile at) = Asks (commands.Profile at)
reported_in (Entry at start) = Asks (commands.Entry at start)
reported_in (Partial slot) = Asks (commands.Partial slot)
reported_in (Compare pair) = Asks (compared_by pair.by pair.a pair.b)
reported_in (Multi slot k) = Asks (commands.Multi slot k)
reported_in (Nearest sought) = asks_nearest sought
reported_in (Pan sought) = asks_pan sought
reported_in (Match pattern) = asks_match pattern
reported_in (Motifs sought) = asks_motifs sought
reported_in (Discords sought) = Asks (commands.Discords sought.at sought.count)
reported_in (Chain at start) = Asks (commands.Chain at start)
reported_in (Chains at) = Asks (commands.Chains at)
reported_in (Segments sought) = Asks (commands.Segments sought.at sought.count sought.factor)
reported_in (Consensus list) = asks_consensus list
reported_in End = Asks commands.End

-- ---- reads

-- all channels of a slot
abbrev pub refs_of : Stored → ℕ → List Ref
refs_of held slot =
    map (λ channel. record { slot = slot; channel = channel }) (range_with_len 0 (length (streams_at held slot)))

-- the channels whose samples a line has lent once each, for each time that it names them
abbrev pub lends : Stored → Asked → List Ref
lends held (Asks (commands.Window at start)) = at ∷ []
lends held (Asks (commands.Join a b)) = a ∷ b ∷ []
lends held (Asks (commands.Mpdist a b)) = a ∷ b ∷ []
lends held (Asks (commands.Nearest at k)) = at ∷ []
lends held (Asks (commands.Pan at lo hi)) = at ∷ []
lends held (Asks (commands.Match at query start radius max)) = at ∷ query ∷ []
lends held (Asks (commands.Motifs at query)) = at ∷ []
lends held (Asks (commands.Multi slot k)) = refs_of held slot
lends held (Asks (commands.Consensus list)) = list
lends held other = []

-- a line that asks for nothing or is refused by itself, and one whose report stands in a profile or shows no samples
abbrev pub is_unread : Asked → Bool
is_unread (Asks (commands.OpenAnew slot channels)) = false
is_unread (Asks (commands.KeepLast slot keep)) = false
is_unread (Asks (commands.Load slot file cols header)) = false
is_unread (Asks (commands.LoadLazy slot file column header)) = false
is_unread (Asks (commands.Append slot items)) = false
is_unread (Asks (commands.Advance slot count)) = false
is_unread (Asks (commands.Window at start)) = false
is_unread (Asks (commands.Join a b)) = false
is_unread (Asks (commands.Multi slot k)) = false
is_unread (Asks (commands.Nearest at k)) = false
is_unread (Asks (commands.Pan at lo hi)) = false
is_unread (Asks (commands.Match at query start radius max)) = false
is_unread (Asks (commands.Motifs at query)) = false
is_unread (Asks (commands.Mpdist a b)) = false
is_unread (Asks (commands.Consensus list)) = false
is_unread other = true

-- ---- reports

-- what a report says, where what it names stands in this state
abbrev pub report_in : State → reports.Report → commands.Report
report_in state (report.Session mode) = commands.SessionReport
report_in state (report.Open samples) = commands.OpenReport samples
report_in state (report.Keep samples) = commands.KeepReport samples
report_in state (report.Load samples) = commands.LoadReport samples
report_in state (report.Lazy samples) = commands.LazyReport samples
report_in state (report.Append samples) = commands.AppendReport samples
report_in state (report.Advance done left) = commands.AdvanceReport done left
report_in state (report.Window window) =
    commands.WindowReport window.start (series_of window.samples.items) window.scale
report_in state (report.Profile at) = profile_report state at
report_in state (report.Entry at start) = entry_report state at start
report_in state (report.Partial slot) = partial_report state slot
report_in state (report.Join slots) = commands.JoinReport slots.items
report_in state (report.Mpdist dist) = commands.MpdistReport dist
report_in state (report.Multi slots) = commands.MultiReport slots.items
report_in state (report.Nearest lists) =
    commands.NearestReport (map (λ (list : Listed Near). list.items) lists.items)
report_in state (report.Pan rows) = commands.PanReport rows.items
report_in state (report.Match list) = commands.MatchReport list.items
report_in state (report.Motifs list) = commands.MotifsReport (map repeated_of list.items)
report_in state (report.Discords list) = commands.DiscordsReport list.items
report_in state (report.Chain chain) = commands.ChainReport chain.items
report_in state (report.Chains chains) =
    commands.ChainsReport (map (λ (chain : Listed ℕ). chain.items) chains.items)
report_in state (report.Segments segments) =
    commands.SegmentsReport segments.places.items (map parts_of segments.curve.items)
report_in state (report.Consensus centre) = commands.ConsensusReport (option_map central centre)
report_in state report.End = commands.EndReport

-- what two series are compared to at a window length
abbrev pub compared_in : Comparison → ℕ → Series → Series → commands.Report
compared_in comparison.Join m a b = commands.JoinReport (ab_join m a b)
compared_in comparison.Mpdist m a b = commands.MpdistReport (mpdist_between m a b)

-- there is such a channel, of which all samples are kept or the last ones, and whose profile is made at once
pub record IsNamed (held : Stored) (at : Ref) : Type 0 where
  pub slot : at.slot < slot_count
  pub channel : at.channel < channel_count (slot_at held at.slot)
  pub whole : is_lazy (slot_at held at.slot) ≡ false

-- the profile of the slot is made in parts
pub record IsLazySlot (held : Stored) (slot : ℕ) : Type 0 where
  pub within : slot < slot_count
  pub lazy : is_lazy (slot_at held slot) ≡ true

-- a live window starts there
pub record IsLive (kept : Keeping) (start : ℕ) : Type 0 where
  pub first : first_kept kept.keep kept.count ≤ start
  pub last : start < first_kept kept.keep kept.count + live_windows kept.keep kept.m kept.count

-- what is reported of a profile in parts
abbrev pub part_report : Covering → commands.Report
part_report part =
    commands.PartialReport (lazy_profile part.m part.covered (series_of part.items))
    (length (uncovered part.m (windows (length part.items) part.m) part.covered))

-- the columns of the live windows of a kept slot
abbrev pub columns_kept : Keeping → Columns
columns_kept kept = record { all = kept.all; left = kept.left; right = kept.right }

-- what stands at a live window in each column
abbrev pub entry_kept : Keeping → ℕ → commands.Report
entry_kept kept start =
    commands.EntryReport start
    (slice_index_or kept.all (start - first_kept kept.keep kept.count) None)
    (slice_index_or kept.left (start - first_kept kept.keep kept.count) None)
    (slice_index_or kept.right (start - first_kept kept.keep kept.count) None)

-- a channel has the window that starts there, and of a kept slot it is a live one
pub record IsWindow (held : Stored) (at : Ref) (start : ℕ) : Type 0 where
  pub named : IsNamed held at
  pub within : keep_of (slot_at held at.slot) ≡ None → start + held.m ≤ length (channel_series held at)
  pub live : (kept : Keeping) → slot_at held at.slot ≡ Kept kept → IsLive kept start

-- the slots have what a report names
abbrev pub AreNamed : Stored → reports.Report → Type 0
AreNamed held (report.Profile at) = IsNamed held at
AreNamed held (report.Entry at start) = IsWindow held at start
AreNamed held (report.Partial slot) = IsLazySlot held slot
AreNamed held other = Unit {0}

-- ---- answers

-- what an answer says, where what it names stands in this state
abbrev pub answered : State → Answer → replies.Answer
answered state Silent = replies.Silent
answered state (Refused cause) = replies.Refused cause
answered state (Accepted report) = replies.Accepted (report_in state report)
answered state (Ended report) = replies.Ended (report_in state report)

-- the slots have what its report names
abbrev pub NamesChannels : Stored → Answer → Type 0
NamesChannels held Silent = Unit {0}
NamesChannels held (Refused cause) = Unit {0}
NamesChannels held (Accepted report) = AreNamed held report
NamesChannels held (Ended report) = AreNamed held report

-- the slots are those of a state
pub record AreSlotsOf (state : State) (held : Stored) : Type 0 where
  pub window_is : held.m ≡ state.window
  pub stand : StandFor held state.stores

-- ---- modes

-- the mode that an accepted answer names, for its own report and the lines behind it
abbrev pub mode_named : Answer → Option Mode
mode_named (Accepted (report.Session mode)) = Some mode
mode_named other = None

-- the mode that a line asks for
abbrev pub mode_asked : Asked → Option Mode
mode_asked (Asks (commands.Session mode)) = Some mode
mode_asked other = None

-- ---- kinds

-- what becomes of a line, by the program's answer
abbrev pub kind_by : Answer → ReplyKind
kind_by Silent = kinds.Quiet
kind_by (Refused cause) = kinds.Refused
kind_by (Accepted report) = kinds.Accepted
kind_by (Ended report) = kinds.Ended

-- and by that of the definitions
abbrev pub kind_of : replies.Answer → ReplyKind
kind_of replies.Silent = kinds.Quiet
kind_of (replies.Refused cause) = kinds.Refused
kind_of (replies.Accepted report) = kinds.Accepted
kind_of (replies.Ended report) = kinds.Ended

abbrev pub is_refused : ReplyKind → Bool
is_refused kinds.Quiet = false
is_refused kinds.Accepted = false
is_refused kinds.Refused = true
is_refused kinds.Ended = false

abbrev pub is_ended : ReplyKind → Bool
is_ended kinds.Quiet = false
is_ended kinds.Accepted = false
is_ended kinds.Refused = false
is_ended kinds.Ended = true

-- the line was carried out
abbrev pub is_accepted : ReplyKind → Bool
is_accepted kinds.Quiet = false
is_accepted kinds.Accepted = true
is_accepted kinds.Refused = false
is_accepted kinds.Ended = true
