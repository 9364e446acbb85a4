-- Reports as JSON: one object for each, in one line, whose keys stand in the order of their bytes.
use Rattle.std.specs.Prelude.{ℕ, ℤ, ◌+◌, List, [], ◌∷◌, ◌++◌, length, map, codes, decimal, slice_index_or}
use Rattle.std.specs.Prelude.{Option, Some, None, option_map}
use Rattle.std.specs.List.{enumerate_from, range_with_len}
use Rattle.serde_json.specs.Data.{Data, null, number, string, array, object, unsigned}
use Rattle.serde_json.specs.Data.{Items, no_items, item, Members, no_members, put}
use Rattle.serde_json.specs.Written.{compact_text}
use Rattle.mp_nums.specs.declared.finds.Discord.{Discord}
use Rattle.mp_nums.specs.declared.finds.PanRow.{PanRow}
use Rattle.mp_nums.specs.declared.nearest.Near.{Near}
use Rattle.mp_nums.specs.declared.nearest.Sq.{Sq}
use Rattle.mp_text.specs.SampleText.{sample_text}
use Rattle.mp_defs.specs.Profile.{Columns}
use Rattle.mp_defs.specs.Series.{Series}
use Rattle.mp_results.specs.Chains.{longest_of}
use Rattle.mp_results.specs.Consensus.{Central}
use Rattle.mp_results.specs.Curve.{whole}
use Rattle.mp_results.specs.Motifs.{Repeated}
use Rattle.mp_replies.specs.declared.causes.Cause.{Cause}
use Rattle.mp_replies.specs.Command.{Report, SessionReport, OpenReport, KeepReport, LoadReport, LazyReport}
use Rattle.mp_replies.specs.Command.{AppendReport, AdvanceReport, PartialReport}
use Rattle.mp_replies.specs.Command.{WindowReport, ProfileReport, LiveProfileReport, EntryReport, JoinReport}
use Rattle.mp_replies.specs.Command.{MpdistReport, MultiReport, NearestReport, PanReport, MatchReport}
use Rattle.mp_replies.specs.Command.{MotifsReport, DiscordsReport, ChainReport, ChainsReport, SegmentsReport}
use Rattle.mp_replies.specs.Command.{ConsensusReport, EndReport}
use Rattle.mp_replies.specs.PanCommand.{of_pair}
use Rattle.mp_replies.specs.Text.{word_of}

-- ---- what values are made of

-- a key with what stands behind it
abbrev pub Field : Type 0
Field = List ℕ × Data

abbrev pub members_of : List Field → Members
members_of [] = no_members
members_of ((key, value) ∷ fields) = put key value (members_of fields)

-- each key stands in its place, wherever the field does
abbrev pub object_of : List Field → Data
object_of fields = object (members_of fields)

abbrev pub items_of : List Data → Items
items_of [] = no_items
items_of (value ∷ values) = item value (items_of values)

abbrev pub array_of : List Data → Data
array_of values = array (items_of values)

-- a list of values of one kind
abbrev pub listed : {A : Type 0} → (A → Data) → List A → Data
listed value list = array_of (map value list)

abbrev pub or_null : {A : Type 0} → (A → Data) → Option A → Data
or_null value None = null
or_null value (Some x) = value x

-- a number of at most 64 bits
abbrev pub number_of : ℕ → Data
number_of n = number (unsigned n)

-- a squared distance has more digits than some readers of numbers keep, so it is a text
abbrev pub square_of : ℕ → Data
square_of n = string (decimal n)

-- ---- windows

abbrev pub dist_of : Near → Data
dist_of near = square_of near.dist.0

abbrev pub index_of : Near → Data
index_of near = number_of near.index

-- a window that was found
abbrev pub near_object : Near → Data
near_object near = object_of ((codes "dist", dist_of near) ∷ (codes "index", index_of near) ∷ [])

-- a window and its entry
abbrev pub entry_object : ℕ × Option Near → Data
entry_object (start, slot) =
    object_of
    ((codes "dist", or_null dist_of slot)
    ∷ (codes "index", or_null index_of slot)
    ∷ (codes "start", number_of start)
    ∷ [])

-- a window, its entry, and its left and its right entry
abbrev pub row_object : ℕ → Option Near → Option Near → Option Near → Data
row_object start all left right =
    object_of
    ((codes "dist", or_null dist_of all)
    ∷ (codes "index", or_null index_of all)
    ∷ (codes "left", or_null index_of left)
    ∷ (codes "right", or_null index_of right)
    ∷ (codes "start", number_of start)
    ∷ [])

-- the live window at a place, by the start of the first one
abbrev pub row_object_at : ℕ → Columns → ℕ → Data
row_object_at first columns place =
    row_object (first + place) (slice_index_or columns.all place None) (slice_index_or columns.left place None)
    (slice_index_or columns.right place None)

abbrev pub rows_array : ℕ → Columns → Data
rows_array first columns = listed (row_object_at first columns) (range_with_len 0 (length columns.all))

abbrev pub entries_array : List (Option Near) → Data
entries_array slots = listed entry_object (enumerate_from 0 slots)

-- a window and its nearest ones
abbrev pub ranks_object : ℕ × List Near → Data
ranks_object (start, list) =
    object_of ((codes "nearest", listed near_object list) ∷ (codes "start", number_of start) ∷ [])

abbrev pub motif_object : Repeated → Data
motif_object motif =
    object_of ((codes "matches", listed near_object motif.matches) ∷ (codes "start", number_of motif.start) ∷ [])

abbrev pub discord_object : Discord → Data
discord_object discord = entry_object (discord.start, Some discord.near)

-- one window length: how many windows there are, the nearest pair and the most unusual window
abbrev pub length_object : PanRow → Data
length_object row =
    object_of
    ((codes "best", or_null discord_object (option_map of_pair row.best))
    ∷ (codes "discord", or_null discord_object row.discord)
    ∷ (codes "length", number_of row.length)
    ∷ (codes "windows", number_of row.windows)
    ∷ [])

-- ---- other parts of reports

-- a place, and what the curve is there, a fraction by its two numbers
abbrev pub segment_object : List (ℕ × ℕ) → ℕ → Data
segment_object curve place =
    let at = slice_index_or curve place whole in
    object_of
    ((codes "den", number_of at.1) ∷ (codes "num", number_of at.0) ∷ (codes "place", number_of place) ∷ [])

-- at a place of the list of series, counted from 0, the nearest window there
abbrev pub place_object : ℕ × Near → Data
place_object (place, near) =
    object_of
    ((codes "dist", dist_of near) ∷ (codes "index", index_of near) ∷ (codes "place", number_of place) ∷ [])

abbrev pub centre_object : Central → Data
centre_object centre =
    object_of
    ((codes "nearest", listed place_object (enumerate_from 0 centre.nearest))
    ∷ (codes "radius", square_of centre.radius)
    ∷ (codes "series", number_of centre.series)
    ∷ (codes "start", number_of centre.start)
    ∷ [])

abbrev pub sample_of : ℕ → List (Option ℤ) → Data
sample_of scale samples = listed (λ sample. string (sample_text scale sample)) samples

-- ---- reports

-- what kind of report it is, the number of its line, and more fields
abbrev pub report_object : List ℕ → ℕ → List Field → Data
report_object kind line fields =
    object_of ((codes "kind", string kind) ∷ (codes "line", number_of line) ∷ fields)

abbrev pub refused_data : ℕ → Cause → Data
refused_data line cause = report_object (codes "refused") line ((codes "word", string (word_of cause)) ∷ [])

abbrev pub samples_fields : Option ℕ → List Field
samples_fields None = []
samples_fields (Some samples) = (codes "samples", number_of samples) ∷ []

abbrev pub ok_data : ℕ → Option ℕ → Data
ok_data line samples = report_object (codes "ok") line (samples_fields samples)

abbrev pub window_data : ℕ → ℕ → Series → ℕ → Data
window_data line start samples scale =
    report_object (codes "window") line
    ((codes "samples", sample_of scale samples) ∷ (codes "start", number_of start) ∷ [])

abbrev pub profile_data : ℕ → ℕ → Columns → Data
profile_data line first columns =
    report_object (codes "profile") line ((codes "windows", rows_array first columns) ∷ [])

abbrev pub advance_data : ℕ → ℕ → ℕ → Data
advance_data line done left =
    report_object (codes "advance") line ((codes "done", number_of done) ∷ (codes "left", number_of left) ∷ [])

abbrev pub partial_data : ℕ → Columns → ℕ → Data
partial_data line columns left =
    report_object (codes "partial") line
    ((codes "left", number_of left) ∷ (codes "windows", rows_array 0 columns) ∷ [])

abbrev pub entry_data : ℕ → ℕ → Option Near → Option Near → Option Near → Data
entry_data line start all left right =
    report_object (codes "entry") line ((codes "window", row_object start all left right) ∷ [])

-- of a join, or of several channels together
abbrev pub slots_data : List ℕ → ℕ → List (Option Near) → Data
slots_data kind line slots = report_object kind line ((codes "windows", entries_array slots) ∷ [])

abbrev pub nearest_data : ℕ → List (List Near) → Data
nearest_data line lists =
    report_object (codes "nearest") line ((codes "windows", listed ranks_object (enumerate_from 0 lists)) ∷ [])

abbrev pub pan_data : ℕ → List PanRow → Data
pan_data line rows = report_object (codes "pan") line ((codes "lengths", listed length_object rows) ∷ [])

abbrev pub match_data : ℕ → List Near → Data
match_data line list = report_object (codes "match") line ((codes "matches", listed near_object list) ∷ [])

abbrev pub motifs_data : ℕ → List Repeated → Data
motifs_data line list = report_object (codes "motifs") line ((codes "motifs", listed motif_object list) ∷ [])

abbrev pub discords_data : ℕ → List Discord → Data
discords_data line list =
    report_object (codes "discords") line ((codes "discords", listed discord_object list) ∷ [])

abbrev pub chain_data : ℕ → List ℕ → Data
chain_data line chain = report_object (codes "chain") line ((codes "chain", listed number_of chain) ∷ [])

abbrev pub chains_data : ℕ → List (List ℕ) → Option ℕ → Data
chains_data line chains longest =
    report_object (codes "chains") line
    ((codes "chains", listed (listed number_of) chains) ∷ (codes "longest", or_null number_of longest) ∷ [])

abbrev pub segments_data : ℕ → List ℕ → List (ℕ × ℕ) → Data
segments_data line places curve =
    report_object (codes "segments") line ((codes "segments", listed (segment_object curve) places) ∷ [])

abbrev pub mpdist_data : ℕ → Option Sq → Data
mpdist_data line dist =
    report_object (codes "mpdist") line ((codes "dist", or_null (λ (square : Sq). square_of square.0) dist) ∷ [])

abbrev pub consensus_data : ℕ → Option Central → Data
consensus_data line centre =
    report_object (codes "consensus") line ((codes "centre", or_null centre_object centre) ∷ [])

-- what a report says
abbrev pub report_data : ℕ → Report → Data
report_data line SessionReport = ok_data line None
report_data line (OpenReport samples) = ok_data line (Some samples)
report_data line (KeepReport samples) = ok_data line (Some samples)
report_data line (LoadReport samples) = ok_data line (Some samples)
report_data line (LazyReport samples) = ok_data line (Some samples)
report_data line (AppendReport samples) = ok_data line (Some samples)
report_data line (AdvanceReport done left) = advance_data line done left
report_data line (PartialReport columns left) = partial_data line columns left
report_data line (WindowReport start samples scale) = window_data line start samples scale
report_data line (ProfileReport columns) = profile_data line 0 columns
report_data line (LiveProfileReport first columns) = profile_data line first columns
report_data line (EntryReport start all left right) = entry_data line start all left right
report_data line (JoinReport slots) = slots_data (codes "join") line slots
report_data line (MpdistReport dist) = mpdist_data line dist
report_data line (MultiReport slots) = slots_data (codes "multi") line slots
report_data line (NearestReport lists) = nearest_data line lists
report_data line (PanReport rows) = pan_data line rows
report_data line (MatchReport list) = match_data line list
report_data line (MotifsReport list) = motifs_data line list
report_data line (DiscordsReport list) = discords_data line list
report_data line (ChainReport chain) = chain_data line chain
report_data line (ChainsReport chains) = chains_data line chains (longest_of chains)
report_data line (SegmentsReport places curve) = segments_data line places curve
report_data line (ConsensusReport centre) = consensus_data line centre
report_data line EndReport = ok_data line None

-- ---- lines

-- a value in one line, without blanks
abbrev pub json_line : Data → List ℕ
json_line value = compact_text value ++ codes "\n"
