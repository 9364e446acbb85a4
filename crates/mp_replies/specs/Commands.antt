-- The tables of commands: a row in each for every command.
use Rattle.std.specs.Prelude.{ℕ, nat_le, List, [], ◌∷◌, codes, if◌then◌else◌, Some, None, Result, Ok, Err}
use Rattle.mp_replies.specs.declared.causes.Cause.{Cause}
use Rattle.mp_replies.specs.declared.causes.Cause.TheVariants.{Unknown}
use Rattle.mp_replies.specs.Change.{Change, Keep}
use Rattle.mp_replies.specs.Command.{Command, Session, OpenAnew, KeepLast, Load, LoadLazy, Append, Advance, Partial}
use Rattle.mp_replies.specs.Command.{Window, Profile, Entry, Join, Multi, Nearest, Pan, Match, Motifs}
use Rattle.mp_replies.specs.Command.{Discords, Chain, Chains, Segments, Mpdist, Consensus, End}
use Rattle.mp_replies.specs.Command.{Report, SessionReport, OpenReport, KeepReport, LoadReport, LazyReport}
use Rattle.mp_replies.specs.Command.{AppendReport, AdvanceReport, PartialReport}
use Rattle.mp_replies.specs.Command.{WindowReport, ProfileReport, LiveProfileReport, EntryReport, JoinReport}
use Rattle.mp_replies.specs.Command.{MpdistReport, MultiReport, NearestReport, PanReport, MatchReport}
use Rattle.mp_replies.specs.Command.{MotifsReport, DiscordsReport, ChainReport, ChainsReport, SegmentsReport}
use Rattle.mp_replies.specs.Command.{ConsensusReport, EndReport}
use Rattle.mp_replies.specs.Conditions.{Condition}
use Rattle.mp_replies.specs.Shapes.{Shape, by_shape, no_field, one_ref, two_refs, ref_and_start, ref_and_count}
use Rattle.mp_replies.specs.Shapes.{one_slot, slot_and_count, slot_and_number}
use Rattle.mp_replies.specs.State.{Files, State, second_version, channels_at, samples_in}
use Rattle.mp_replies.specs.Text.{ok_text}
use Rattle.mp_replies.specs.SessionCommand.{session_of, session_conditions}
use Rattle.mp_replies.specs.OpenCommand.{open_conditions, open_change}
use Rattle.mp_replies.specs.KeepCommand.{keep_shape, keep_by, keep_conditions, keep_change}
use Rattle.mp_replies.specs.LoadCommand.{load_shape, load_by, load_conditions, file_conditions, file_in, load_change}
use Rattle.mp_replies.specs.LazyCommand.{lazy_shape, lazy_by, lazy_conditions, lazy_file_conditions, lazy_change}
use Rattle.mp_replies.specs.AppendCommand.{append_shape, append_by, append_conditions, append_change}
use Rattle.mp_replies.specs.AdvanceCommand.{advance_conditions, advance_change, advance_report, advance_text}
use Rattle.mp_replies.specs.PartialCommand.{partial_conditions, partial_report, partial_text}
use Rattle.mp_replies.specs.WindowCommand.{window_conditions, window_report, window_text}
use Rattle.mp_replies.specs.ProfileCommand.{profile_conditions, profile_report, profile_text, live_profile_text}
use Rattle.mp_replies.specs.EntryCommand.{entry_conditions, entry_report, entry_text}
use Rattle.mp_replies.specs.JoinCommand.{join_conditions, join_report, join_text}
use Rattle.mp_replies.specs.MultiCommand.{multi_conditions, multi_report, multi_text}
use Rattle.mp_replies.specs.NearestCommand.{nearest_shape, nearest_conditions, nearest_report, nearest_text}
use Rattle.mp_replies.specs.PanCommand.{pan_shape, pan_conditions, pan_report, pan_text}
use Rattle.mp_replies.specs.MatchCommand.{match_shape, match_by, match_conditions, match_report, match_text}
use Rattle.mp_replies.specs.MotifsCommand.{motifs_shape, motifs_by, motifs_conditions, motifs_report, motifs_text}
use Rattle.mp_replies.specs.DiscordsCommand.{discords_conditions, discords_report, discords_text}
use Rattle.mp_replies.specs.ChainCommand.{chain_conditions, chain_report, chain_text}
use Rattle.mp_replies.specs.ChainsCommand.{chains_conditions, chains_report, all_chains_text}
use Rattle.mp_replies.specs.SegmentsCommand.{segments_shape, segments_by, segments_conditions, segments_report}
use Rattle.mp_replies.specs.SegmentsCommand.{segments_text}
use Rattle.mp_replies.specs.MpdistCommand.{mpdist_conditions, mpdist_report, mpdist_text}
use Rattle.mp_replies.specs.ConsensusCommand.{consensus_shape, consensus_by, consensus_conditions, consensus_report}
use Rattle.mp_replies.specs.ConsensusCommand.{consensus_text}

-- ---- how it is read

-- a command word, and what the fields behind it ask for
pub record Form : Type 0 where
  pub word : List ℕ
  pub read : List (List ℕ) → Result Command Cause

-- the command that is made of what fields say
abbrev pub made : {A : Type 0} → (A → Command) → Result A Cause → Result Command Cause
made make (Ok said) = Ok (make said)
made make (Err why) = Err why

-- a command of fields of a shape
abbrev pub row : {A : Type 0} → List ℕ → Shape A → (A → Command) → Form
row word shape make = record { word = word; read = λ fields. made make (by_shape shape fields) }

-- a form of the versions from a first one on. Before that its word is no command word
abbrev pub since : ℕ → ℕ → Form → Form
since first version form = record {
  word = form.word;
  read = λ fields. if nat_le first version then form.read fields else Err Unknown;
}

-- a version line is refused by its own word alone
abbrev pub session_form : Form
session_form = record { word = codes "session"; read = session_of }

abbrev pub keep_form : ℕ → Form
keep_form version = since second_version version (row (codes "keep") keep_shape keep_by)

-- of a version
abbrev pub forms : ℕ → List Form
forms version =
    session_form
    ∷ row (codes "open") slot_and_number (λ (slot, channels). OpenAnew slot channels)
    ∷ keep_form version
    ∷ row (codes "load") load_shape load_by
    ∷ row (codes "lazy") lazy_shape lazy_by
    ∷ row (codes "append") append_shape append_by
    ∷ row (codes "advance") slot_and_count (λ (slot, count). Advance slot count)
    ∷ row (codes "partial") one_slot Partial
    ∷ row (codes "window") ref_and_start (λ (at, start). Window at start)
    ∷ row (codes "profile") one_ref Profile
    ∷ row (codes "entry") ref_and_start (λ (at, start). Entry at start)
    ∷ row (codes "join") two_refs (λ (a, b). Join a b)
    ∷ row (codes "multi") slot_and_number (λ (slot, k). Multi slot k)
    ∷ row (codes "nearest") nearest_shape (λ (at, k). Nearest at k)
    ∷ row (codes "pan") pan_shape (λ (at, (lo, hi)). Pan at lo hi)
    ∷ row (codes "match") match_shape match_by
    ∷ row (codes "motifs") motifs_shape motifs_by
    ∷ row (codes "discords") ref_and_count (λ (at, most). Discords at most)
    ∷ row (codes "chain") ref_and_start (λ (at, start). Chain at start)
    ∷ row (codes "chains") one_ref Chains
    ∷ row (codes "segments") segments_shape segments_by
    ∷ row (codes "mpdist") two_refs (λ (a, b). Mpdist a b)
    ∷ row (codes "consensus") consensus_shape consensus_by
    ∷ row (codes "end") no_field (λ _. End)
    ∷ []

-- ---- what it means

-- what a command means
pub record Meaning : Type 0 where
  -- what is tested without the files, word for word in their order
  pub conditions : State → List Condition
  -- and what is tested of a file, behind them
  pub file_conditions : State → Files → List Condition
  -- what it changes where nothing refuses it
  pub change : State → Files → Change
  -- what is reported of it, from the state before it and the one behind it
  pub report : State → State → Report

-- a command that changes nothing. Its report is of the state behind it
abbrev reporting : (State → List Condition) → (State → Report) → Meaning
reporting conditions report = record {
  conditions = conditions;
  file_conditions = λ state files. [];
  change = λ state files. Keep;
  report = λ before behind. report behind;
}

-- a command that changes a slot and reads no file
abbrev changing : (State → List Condition) → (State → Change) → (State → Report) → Meaning
changing conditions change report = record {
  conditions = conditions;
  file_conditions = λ state files. [];
  change = λ state files. change state;
  report = λ before behind. report behind;
}

-- the number of samples in each channel of a slot
abbrev samples_at : State → ℕ → ℕ
samples_at state slot = samples_in (channels_at state.stores slot)

abbrev pub meaning : Command → Meaning
meaning (Session mode) = reporting session_conditions (λ state. SessionReport)
meaning (OpenAnew slot channels) =
    changing (λ state. open_conditions slot channels) (λ state. open_change slot channels)
    (λ state. OpenReport (samples_at state slot))
meaning (KeepLast slot keep) =
    changing (λ state. keep_conditions state.window slot keep) (λ state. keep_change slot keep)
    (λ state. KeepReport (samples_at state slot))
meaning (Load slot file columns header) = record {
  conditions = λ state. load_conditions state.stores slot columns;
  file_conditions = λ state files. file_conditions state.mode.width state.scale columns header (file_in files file);
  change = λ state files. load_change state.mode.width state.scale files slot file columns header;
  report = λ before behind. LoadReport (samples_at behind slot);
}
meaning (LoadLazy slot file column header) = record {
  conditions = λ state. lazy_conditions slot;
  file_conditions = λ state files.
      lazy_file_conditions state.mode.width state.scale column header (file_in files file);
  change = λ state files. lazy_change state.mode.width state.scale files slot file column header;
  report = λ before behind. LazyReport (samples_at behind slot);
}
meaning (Append slot items) =
    changing (λ state. append_conditions state.mode.width state.scale state.stores slot items)
    (λ state. append_change state.mode.width state.scale state.stores slot items)
    (λ state. AppendReport (samples_at state slot))
meaning (Advance slot count) = record {
  conditions = λ state. advance_conditions state.stores slot;
  file_conditions = λ state files. [];
  change = λ state files. advance_change slot count;
  report = λ before behind. advance_report before behind slot;
}
meaning (Partial slot) =
    reporting (λ state. partial_conditions state.stores slot) (λ state. partial_report state slot)
meaning (Window at start) =
    reporting (λ state. window_conditions state.window state.stores at start) (λ state. window_report state at start)
meaning (Profile at) = reporting (λ state. profile_conditions state.stores at) (λ state. profile_report state at)
meaning (Entry at start) =
    reporting (λ state. entry_conditions state.window state.stores at start) (λ state. entry_report state at start)
meaning (Join a b) = reporting (λ state. join_conditions state.stores a b) (λ state. join_report state a b)
meaning (Multi slot k) = reporting (λ state. multi_conditions state.stores slot k) (λ state. multi_report state slot k)
meaning (Nearest at k) =
    reporting (λ state. nearest_conditions state.stores at) (λ state. nearest_report state at k)
meaning (Pan at lo hi) = reporting (λ state. pan_conditions state.stores at) (λ state. pan_report state at lo hi)
meaning (Match at query start radius max) =
    reporting (λ state. match_conditions state.window state.stores at query start)
    (λ state. match_report state at query start radius max)
meaning (Motifs at query) =
    reporting (λ state. motifs_conditions state.stores at) (λ state. motifs_report state at query)
meaning (Discords at count) =
    reporting (λ state. discords_conditions state.stores at) (λ state. discords_report state at count)
meaning (Chain at start) =
    reporting (λ state. chain_conditions state.window state.stores at start) (λ state. chain_report state at start)
meaning (Chains at) = reporting (λ state. chains_conditions state.stores at) (λ state. chains_report state at)
meaning (Segments at count factor) =
    reporting (λ state. segments_conditions state.stores at) (λ state. segments_report state at count factor)
meaning (Mpdist a b) = reporting (λ state. mpdist_conditions state.stores a b) (λ state. mpdist_report state a b)
meaning (Consensus refs) =
    reporting (λ state. consensus_conditions state.stores refs) (λ state. consensus_report state refs)
meaning End = reporting (λ state. []) (λ state. EndReport)

-- ---- the text of its report

abbrev pub report_text : ℕ → Report → List ℕ
report_text line SessionReport = ok_text line None
report_text line (OpenReport samples) = ok_text line (Some samples)
report_text line (KeepReport samples) = ok_text line (Some samples)
report_text line (LoadReport samples) = ok_text line (Some samples)
report_text line (LazyReport samples) = ok_text line (Some samples)
report_text line (AppendReport samples) = ok_text line (Some samples)
report_text line (AdvanceReport done left) = advance_text line done left
report_text line (PartialReport columns left) = partial_text line columns left
report_text line (WindowReport start samples scale) = window_text line start samples scale
report_text line (ProfileReport columns) = profile_text line columns
report_text line (LiveProfileReport first columns) = live_profile_text line first columns
report_text line (EntryReport start all left right) = entry_text line start all left right
report_text line (JoinReport slots) = join_text line slots
report_text line (MpdistReport dist) = mpdist_text line dist
report_text line (MultiReport slots) = multi_text line slots
report_text line (NearestReport lists) = nearest_text line lists
report_text line (PanReport rows) = pan_text line rows
report_text line (MatchReport list) = match_text line list
report_text line (MotifsReport list) = motifs_text line list
report_text line (DiscordsReport list) = discords_text line list
report_text line (ChainReport chain) = chain_text line chain
report_text line (ChainsReport chains) = all_chains_text line chains
report_text line (SegmentsReport places curve) = segments_text line places curve
report_text line (ConsensusReport centre) = consensus_text line centre
report_text line EndReport = ok_text line None
