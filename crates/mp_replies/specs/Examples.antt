-- Inputs whose lines and reports were written down by hand.
use Rattle.std.specs.Prelude.{◌≡◌, ℕ, pos, true, false, List, [], ◌∷◌, ◌++◌, length, replicate, codes, Some, None, Ok}
use Rattle.std.specs.Prelude.{Err}
use Rattle.mp_nums.specs.declared.widths.Width.TheVariants.{Narrow, Wide}
use Rattle.mp_defs.specs.Least.{near_at}
use Rattle.mp_defs.specs.Series.{Series}
use Rattle.mp_results.specs.Slide.{square}
use Rattle.mp_replies.specs.declared.causes.Cause.TheVariants as cause
use Rattle.mp_bytes.specs.Fields.{fields}
use Rattle.mp_bytes.specs.Lines.{lines, ended_lines}
use Rattle.mp_replies.specs.AppendCommand.{item_of}
use Rattle.mp_replies.specs.declared.refs.Ref.{Ref}
use Rattle.mp_replies.specs.Command.{Session, OpenAnew, KeepLast, Load, LoadLazy, Append, Advance, Partial}
use Rattle.mp_replies.specs.Command.{Profile, Join, Multi, Nearest, Pan, Match, Motifs, Discords, Chain, Chains}
use Rattle.mp_replies.specs.Command.{Segments, Mpdist, Consensus, End}
use Rattle.mp_replies.specs.Conditions.{first_cause}
use Rattle.mp_replies.specs.Json.{json_line, advance_data, chain_data, chains_data, consensus_data, discords_data}
use Rattle.mp_replies.specs.Json.{entry_data, match_data, motifs_data, mpdist_data, nearest_data, ok_data, pan_data}
use Rattle.mp_replies.specs.Json.{partial_data, profile_data}
use Rattle.mp_replies.specs.Json.{refused_data, segments_data, slots_data, window_data}
use Rattle.mp_replies.specs.Line.{Asked, Nothing, Asks, Faulty, asked_of}
use Rattle.mp_replies.specs.LoadCommand.{file_conditions, file_in, table_in}
use Rattle.mp_replies.specs.MotifsCommand.{motif_query}
use Rattle.mp_replies.specs.Words.{Setup, job, session_job}
use Rattle.mp_replies.specs.SessionCommand.{mode_of}
use Rattle.mp_replies.specs.State.{Files, State, opening, first_mode, first_version, second_version, Closed, Open}
use Rattle.mp_replies.specs.State.{Kept, Lazy}
use Rattle.mp_replies.specs.Step.{cause}
use Rattle.mp_replies.specs.Output.{output}

-- the same lines with and without the last LF, and what LFs end
pub record LinesEndOrNot : Type 0 where
  pub ended : lines (codes "a\nbc\n") ≡ codes "a" ∷ codes "bc" ∷ []
  pub open_end : lines (codes "a\nbc") ≡ codes "a" ∷ codes "bc" ∷ []
  pub empty_line : lines (codes "a\n\n") ≡ codes "a" ∷ [] ∷ []
  pub no_bytes : lines [] ≡ []
  pub ended_alone : ended_lines (codes "a\nbc") ≡ codes "a" ∷ []
  pub spaced : fields (codes " append\t0  1 2 \r") ≡ codes "append" ∷ codes "0" ∷ codes "1" ∷ codes "2" ∷ []

-- items on slots of one and of two channels, at scale 2
pub record SpelledItems : Type 0 where
  pub plain : item_of Narrow 2 1 1 (codes "12.5") ≡ Ok (Some (pos 1250) ∷ [])
  pub exact : item_of Narrow 2 1 1 (codes "12.500") ≡ Ok (Some (pos 1250) ∷ [])
  pub fine : item_of Narrow 2 1 3 (codes "12.505") ≡ Err 3
  pub missing : item_of Narrow 2 1 1 (codes "?") ≡ Ok (None ∷ [])
  pub two_values : item_of Narrow 0 1 4 (codes "1,2") ≡ Err 4
  pub comma_behind : item_of Narrow 0 1 4 (codes "1,") ≡ Err 4
  pub both : item_of Narrow 0 2 1 (codes "1,?") ≡ Ok (Some (pos 1) ∷ None ∷ [])
  pub both_missing : item_of Narrow 0 2 1 (codes ",") ≡ Ok (None ∷ None ∷ [])
  pub one_value : item_of Narrow 0 2 5 (codes "1") ≡ Err 5
  pub narrow_most : item_of Narrow 0 1 1 (codes "2147483647") ≡ Ok (Some (pos 2147483647) ∷ [])
  pub narrow_past : item_of Narrow 0 1 1 (codes "2147483648") ≡ Err 1
  pub wide_most : item_of Wide 0 1 1 (codes "140737488355327") ≡ Ok (Some (pos 140737488355327) ∷ [])
  pub wide_past : item_of Wide 0 1 1 (codes "140737488355328") ≡ Err 1

abbrev setup : ℕ → ℕ → ℕ → ℕ → Setup
setup window scale tile workers = record { window = window; scale = scale; tile = tile; workers = workers }

-- words in the grammar and outside it
pub record SpelledWords : Type 0 where
  pub window : job (codes "--window" ∷ codes "003" ∷ []) ≡ Some (session_job (setup 3 0 256 4))
  pub in_one_word : job (codes "--window=003" ∷ []) ≡ Some (session_job (setup 3 0 256 4))
  pub with_scale : job (codes "--window" ∷ codes "12" ∷ codes "--scale" ∷ codes "2" ∷ [])
      ≡ Some (session_job (setup 12 2 256 4))
  pub in_any_order : job (codes "--workers=32" ∷ codes "--scale" ∷ codes "9" ∷ codes "--tile=65536"
      ∷ codes "--window" ∷ codes "16384" ∷ []) ≡ Some (session_job (setup 16384 9 65536 32))
  pub made : job (codes "--count" ∷ codes "262144" ∷ codes "--generate=18446744073709551615" ∷ codes "--window=8" ∷ [])
      ≡ Some record {
        setup = setup 8 0 256 4;
        make = Some record { number = 18446744073709551615; count = 262144 };
      }
  pub twenty_digits : job (codes "--window" ∷ codes "00000000000000000003" ∷ []) ≡ Some (session_job (setup 3 0 256 4))
  pub one_digit_more : job (codes "--window" ∷ codes "000000000000000000003" ∷ []) ≡ None
  pub no_words : job [] ≡ None
  pub short_window : job (codes "--window" ∷ codes "2" ∷ []) ≡ None
  pub long_window : job (codes "--window" ∷ codes "16385" ∷ []) ≡ None
  pub twice : job (codes "--window" ∷ codes "3" ∷ codes "--window" ∷ codes "3" ∷ []) ≡ None
  pub count_alone : job (codes "--window" ∷ codes "3" ∷ codes "--count" ∷ codes "5" ∷ []) ≡ None
  pub number_alone : job (codes "--window" ∷ codes "3" ∷ codes "--generate" ∷ codes "5" ∷ []) ≡ None
  pub great_count : job (codes "--window=3" ∷ codes "--generate=0" ∷ codes "--count=262145" ∷ []) ≡ None
  pub great_number : job (codes "--window=3" ∷ codes "--count=0" ∷ codes "--generate=18446744073709551616" ∷ []) ≡ None
  pub signed_window : job (codes "--window" ∷ codes "+3" ∷ []) ≡ None
  pub two_dashes : job (codes "--window" ∷ codes "3" ∷ codes "--" ∷ []) ≡ None
  pub word_alone : job (codes "--window" ∷ codes "3" ∷ codes "x" ∷ []) ≡ None
  pub help : job (codes "--window" ∷ codes "3" ∷ codes "--help" ∷ []) ≡ None
  pub short_option : job (codes "-w" ∷ codes "3" ∷ []) ≡ None
  pub no_value : job (codes "--window=" ∷ []) ≡ None
  pub option_as_value : job (codes "--window" ∷ codes "--scale=1" ∷ []) ≡ None
  pub scale_alone : job (codes "--scale" ∷ codes "2" ∷ []) ≡ None
  pub fine_scale : job (codes "--window=12" ∷ codes "--scale=10" ∷ []) ≡ None
  pub no_tile : job (codes "--window=12" ∷ codes "--tile=0" ∷ []) ≡ None
  pub great_tile : job (codes "--window=12" ∷ codes "--tile=65537" ∷ []) ≡ None
  pub no_workers : job (codes "--window=12" ∷ codes "--workers=0" ∷ []) ≡ None
  pub many_workers : job (codes "--window=12" ∷ codes "--workers=33" ∷ []) ≡ None

abbrev channel : ℕ → ℕ → Ref
channel s c = record { slot = s; channel = c }

-- what a line asks for where the session has named no version
abbrev asked : List ℕ → Asked
asked line = asked_of first_version line

-- and where it has named the second
abbrev asked_later : List ℕ → Asked
asked_later line = asked_of second_version line

-- what lines ask for, and why they are refused whatever the state
pub record AskedLines : Type 0 where
  pub session : asked (codes "session 01") ≡ Asks (Session (mode_of 1 false false))
  pub second : asked (codes "session 2") ≡ Asks (Session (mode_of 2 false false))
  pub wide : asked (codes "session 2 wide") ≡ Asks (Session (mode_of 2 true false))
  pub json : asked (codes "session 2 json") ≡ Asks (Session (mode_of 2 false true))
  pub wide_json : asked (codes "session 2 wide json") ≡ Asks (Session (mode_of 2 true true))
  pub json_wide : asked (codes "session 2 json wide") ≡ Faulty cause.Version
  pub wide_twice : asked (codes "session 2 wide wide") ≡ Faulty cause.Version
  pub other_word : asked (codes "session 2 text") ≡ Faulty cause.Version
  pub more_words : asked (codes "session 2 wide json json") ≡ Faulty cause.Version
  pub first_wide : asked (codes "session 1 wide") ≡ Faulty cause.Version
  pub first_json : asked (codes "session 1 json") ≡ Faulty cause.Version
  pub other_version : asked (codes "session 3") ≡ Faulty cause.Version
  pub keep : asked_later (codes "keep 0 5") ≡ Asks (KeepLast 0 5)
  pub keep_in_first : asked (codes "keep 0 5") ≡ Faulty cause.Unknown
  pub keep_alone : asked_later (codes "keep 0") ≡ Faulty cause.Fields
  pub keep_few : asked_later (codes "keep 0 2") ≡ Faulty cause.Number
  pub keep_most : asked_later (codes "keep 0 262144") ≡ Asks (KeepLast 0 262144)
  pub keep_more : asked_later (codes "keep 0 262145") ≡ Faulty cause.Number
  pub keep_ref : asked_later (codes "keep 0.0 5") ≡ Faulty cause.Number
  pub no_version : asked (codes "session") ≡ Faulty cause.Version
  pub unknown : asked (codes "frob 1") ≡ Faulty cause.Unknown
  pub no_items : asked (codes "append 0") ≡ Faulty cause.Fields
  pub no_slot : asked (codes "append x 1") ≡ Faulty cause.Number
  pub items : asked (codes "append 00 1 2") ≡ Asks (Append 0 (codes "1" ∷ codes "2" ∷ []))
  pub open_two : asked (codes "open 1 2") ≡ Asks (OpenAnew 1 2)
  pub columns : asked (codes "load 1 day.csv 1,2 header") ≡ Asks (Load 1 (codes "day.csv") (1 ∷ 2 ∷ []) true)
  pub no_header : asked (codes "load 1 day.csv 1,2") ≡ Asks (Load 1 (codes "day.csv") (1 ∷ 2 ∷ []) false)
  pub other_header : asked (codes "load 1 day.csv 1,2 head") ≡ Faulty cause.Fields
  pub empty_column : asked (codes "load 1 day.csv 1,,2") ≡ Faulty cause.Number
  pub many_columns : asked (codes "load 1 day.csv 1,2,3,4,5,6,7,8,9") ≡ Faulty cause.Number
  pub great_column : asked (codes "load 1 day.csv 65536") ≡ Faulty cause.Number
  pub lazy : asked (codes "lazy 1 day.csv 2") ≡ Asks (LoadLazy 1 (codes "day.csv") 2 false)
  pub lazy_header : asked (codes "lazy 1 day.csv 2 header") ≡ Asks (LoadLazy 1 (codes "day.csv") 2 true)
  pub lazy_head : asked (codes "lazy 1 day.csv 2 head") ≡ Faulty cause.Fields
  pub lazy_alone : asked (codes "lazy 1 day.csv") ≡ Faulty cause.Fields
  pub lazy_columns : asked (codes "lazy 1 day.csv 1,2") ≡ Faulty cause.Number
  pub lazy_great : asked (codes "lazy 1 day.csv 65536") ≡ Faulty cause.Number
  pub advance : asked (codes "advance 1 262144") ≡ Asks (Advance 1 262144)
  pub advance_none : asked (codes "advance 1 0") ≡ Faulty cause.Number
  pub advance_more : asked (codes "advance 1 262145") ≡ Faulty cause.Number
  pub advance_ref : asked (codes "advance 1.0 1") ≡ Faulty cause.Number
  pub partial : asked (codes "partial 1") ≡ Asks (Partial 1)
  pub partial_ref : asked (codes "partial 1.0") ≡ Faulty cause.Number
  pub partial_alone : asked (codes "partial") ≡ Faulty cause.Fields
  pub slot_alone : asked (codes "profile 7") ≡ Asks (Profile record { slot = 7; channel = 0 })
  pub one_channel : asked (codes "profile 7.1") ≡ Asks (Profile record { slot = 7; channel = 1 })
  pub no_channel : asked (codes "profile 7.") ≡ Faulty cause.Number
  pub two_points : asked (codes "profile 7.1.1") ≡ Faulty cause.Number
  pub great_number : asked (codes "entry 0 18446744073709551616") ≡ Faulty cause.Number
  pub join : asked (codes "join 0 1.2") ≡ Asks (Join (channel 0 0) (channel 1 2))
  pub mpdist : asked (codes "mpdist 0 0") ≡ Asks (Mpdist (channel 0 0) (channel 0 0))
  pub multi : asked (codes "multi 1 2") ≡ Asks (Multi 1 2)
  pub multi_ref : asked (codes "multi 0.0 1") ≡ Faulty cause.Number
  pub nearest : asked (codes "nearest 0.1 4") ≡ Asks (Nearest (channel 0 1) 4)
  pub pan : asked (codes "pan 0.1 3 258") ≡ Asks (Pan (channel 0 1) 3 258)
  pub many_lengths : asked (codes "pan 0 3 259") ≡ Faulty cause.Number
  pub short_length : asked (codes "pan 0 2 3") ≡ Faulty cause.Number
  pub long_length : asked (codes "pan 0 16384 16385") ≡ Faulty cause.Number
  pub no_lengths : asked (codes "pan 0 4 3") ≡ Faulty cause.Number
  pub one_length : asked (codes "pan 0 3") ≡ Faulty cause.Fields
  pub no_ranks : asked (codes "nearest 0 0") ≡ Faulty cause.Number
  pub many_ranks : asked (codes "nearest 0 5") ≡ Faulty cause.Number
  pub match : asked (codes "match 0 1 2 6 10") ≡ Asks (Match (channel 0 0) (channel 1 0) 2 6 10)
  pub no_matches : asked (codes "match 0 1 2 6 0") ≡ Faulty cause.Number
  pub great_radius : asked (codes "match 0 1 2 340282366920938463463374607431768211455 1")
      ≡ Asks (Match (channel 0 0) (channel 1 0) 2 340282366920938463463374607431768211455 1)
  pub greater_radius : asked (codes "match 0 1 2 340282366920938463463374607431768211456 1") ≡ Faulty cause.Number
  pub motifs : asked (codes "motifs 0 2 7 6 0 1024") ≡ Asks (Motifs (channel 0 0) (motif_query 2 7 6 0 1024))
  pub many_motifs : asked (codes "motifs 0 1025 7 6 0 1") ≡ Faulty cause.Number
  pub discords : asked (codes "discords 0 262144") ≡ Asks (Discords (channel 0 0) 262144)
  pub many_discords : asked (codes "discords 0 262145") ≡ Faulty cause.Number
  pub chain : asked (codes "chain 0 7") ≡ Asks (Chain (channel 0 0) 7)
  pub chains : asked (codes "chains 0") ≡ Asks (Chains (channel 0 0))
  pub segments : asked (codes "segments 0 1 100") ≡ Asks (Segments (channel 0 0) 1 100)
  pub great_factor : asked (codes "segments 0 1 101") ≡ Faulty cause.Number
  pub consensus : asked (codes "consensus 2 0 2") ≡ Asks (Consensus (channel 2 0 ∷ channel 0 0 ∷ channel 2 0 ∷ []))
  pub consensus_of_one : asked (codes "consensus 2") ≡ Faulty cause.Fields
  pub end : asked (codes "end") ≡ Asks End
  pub end_with_more : asked (codes "end 1") ≡ Faulty cause.Fields
  pub comment : asked (codes "  #end") ≡ Nothing

-- the state at the start, at window length 3
abbrev pub start : State
start = opening 3 0

-- the fifth item is named
abbrev pub BadItemIsNamed : Type 0
BadItemIsNamed = (files : Files) → cause start (codes "append 0 7 8 9 10 1.2x") files ≡ Some (cause.Sample 5)

-- a session whose slot 0 has this series
abbrev pub session_of : Series → State
session_of a =
    record {
      window = 3;
      scale = 0;
      mode = first_mode;
      lines = 1;
      begun = true;
      stores = Open (a ∷ []) ∷ replicate 7 Closed;
    }

-- a session in whose slot 0 the last five samples of this series are kept
abbrev pub kept_session_of : Series → State
kept_session_of a =
    record {
      window = 3;
      scale = 0;
      mode = mode_of second_version false false;
      lines = 2;
      begun = true;
      stores = Kept 5 a ∷ replicate 7 Closed;
    }

-- a session whose slot 0 has this series, and a profile of it in parts
abbrev pub lazy_session_of : Series → State
lazy_session_of a =
    record {
      window = 3;
      scale = 0;
      mode = first_mode;
      lines = 1;
      begun = true;
      stores = Lazy a [] ∷ replicate 7 Closed;
    }

-- one more sample than a series can have
abbrev pub FullSeriesIsRefused : Type 0
FullSeriesIsRefused =
    (a : Series) (files : Files) → length a ≡ 262144 → cause (session_of a) (codes "append 0 1") files ≡ Some cause.Full

-- and one more than are ever appended where the last ones are kept
abbrev pub FullKeptSeriesIsRefused : Type 0
FullKeptSeriesIsRefused =
    (a : Series) (files : Files)
    → length a ≡ 4294967296 → cause (kept_session_of a) (codes "append 0 1") files ≡ Some cause.Full

-- also where its profile is made in parts
abbrev pub FullLazySeriesIsRefused : Type 0
FullLazySeriesIsRefused =
    (a : Series) (files : Files)
    → length a ≡ 262144 → cause (lazy_session_of a) (codes "append 0 1") files ≡ Some cause.Full

abbrev pub words : List (List ℕ)
words = codes "--window" ∷ codes "3" ∷ []

abbrev pub PlainOutput : Type 0
PlainOutput =
    (files : Files) → output words files (codes "append 0 1 2 3 1 2 3\nprofile 0\n")
    ≡ codes "ok 1 6\nprofile 2 4\n0 0 3 - 3\n1 6 3 - 3\n2 6 0 0 -\n3 0 0 0 -\n"

abbrev pub ShortOutput : Type 0
ShortOutput =
    (files : Files) → output words files (codes "profile 0\nappend 0 4 5\nprofile 0\n")
    ≡ codes "profile 1 0\nok 2 2\nprofile 3 0\n"

abbrev pub RefusedPieceOutput : Type 0
RefusedPieceOutput =
    (files : Files) → output words files (codes "append 0 1 2 3 1 2 3\nappend 0 7 8 9 10 1.2x\nprofile 0\n")
    ≡ codes "ok 1 6\nrefused 2 sample 5\nprofile 3 4\n0 0 3 - 3\n1 6 3 - 3\n2 6 0 0 -\n3 0 0 0 -\n"

-- a window that isn't there
abbrev pub EntryOutput : Type 0
EntryOutput =
    (files : Files) → output words files (codes "append 0 1 2 3\nprofile 0\nentry 0 0\nentry 0 1\n")
    ≡ codes "ok 1 3\nprofile 2 1\n0 - - - -\nentry 3 0 - - - -\nrefused 4 index\n"

abbrev pub ScaledOutput : Type 0
ScaledOutput =
    (files : Files) → output (codes "--window" ∷ codes "3" ∷ codes "--scale" ∷ codes "2" ∷ []) files
    (codes "append 0 12.5 12.500 12.505\nappend 0 12.5 12.500 -.5\nwindow 0 0\n")
    ≡ codes "refused 1 sample 3\nok 2 3\nwindow 3 0 12.50 12.50 -0.50\n"

-- the words, in their order
abbrev pub RefusalsOutput : Type 0
RefusalsOutput =
    (files : Files) → output words files
    (codes "session 2\nsession 1\nsession 1\nfrob 1\nappend 0\n"
    ++ codes "append x 1\nappend 9 1\nappend 3 1\nprofile 0.1\nentry 9.9 x\n")
    ≡ codes "ok 1\nrefused 2 version\nrefused 3 version\nrefused 4 unknown\nrefused 5 fields\n"
    ++ codes "refused 6 number\nrefused 7 slot\nrefused 8 slot\nrefused 9 channel\nrefused 10 number\n"

-- the last five samples are kept, of which three windows are live
abbrev pub KeptOutput : Type 0
KeptOutput =
    (files : Files) → output words files
    (codes "session 2\nkeep 0 5\nappend 0 1 2 3 1 2 3 1\nprofile 0\nentry 0 1\ndiscords 0 2\nchains 0\nkeep 0 2\n")
    ≡ codes "ok 1\nok 2 0\nok 3 7\nprofile 4 3\n2 6 0 0 4\n3 6 1 1 -\n4 6 2 2 -\nrefused 5 index\n"
    ++ codes "discords 6 2\n2 6 0\n4 6 2\nrefused 7 kept\nrefused 8 number\n"

-- `kept` stands between `slot` and `channel`, and a kept slot is opened anew
abbrev pub KeptRefusalsOutput : Type 0
KeptRefusalsOutput =
    (files : Files) → output words files
    (codes "session 2\nkeep 1 3\nkeep 8 3\nkeep 8 2\nentry 1.1 0\nentry 1 0\njoin 1.1 2\njoin 0.1 1\nload 1 none 1,2\n"
    ++ codes "append 1 1,2\nappend 1 1 2 3 4\nentry 1 0\nentry 1 1\nentry 1 2\nopen 1 2\nprofile 1.1\n")
    ≡ codes "ok 1\nok 2 0\nrefused 3 slot\nrefused 4 number\nrefused 5 channel\nrefused 6 index\nrefused 7 slot\n"
    ++ codes "refused 8 kept\nrefused 9 kept\nrefused 10 sample 1\nok 11 4\nrefused 12 index\nentry 13 1 - - - -\n"
    ++ codes "refused 14 index\nok 15 0\nprofile 16 0\n"

-- a profile in parts: its diagonals are covered by the reversals of their numbers, and an append brings a pair to each
-- that is covered
abbrev pub LazyOutput : Type 0
LazyOutput =
    (files : Files) → file_in files (codes "s.csv") ≡ Some (codes "1\n2\n3\n1\n2\n3\n")
    → output words files
    (codes "lazy 1 s.csv 0\npartial 1\nadvance 1 1\npartial 1\nappend 1 1\npartial 1\nadvance 1 9\npartial 1\n"
    ++ codes "profile 1\nadvance 0 1\n")
    ≡ codes "ok 1 6\npartial 2 4 2\n0 - - - -\n1 - - - -\n2 - - - -\n3 - - - -\n"
    ++ codes "advance 3 1 1\npartial 4 4 1\n0 6 2 - 2\n1 6 3 - 3\n2 6 0 0 -\n3 6 1 1 -\nok 5 7\n"
    ++ codes "partial 6 5 2\n0 6 2 - 2\n1 6 3 - 3\n2 6 0 0 4\n3 6 1 1 -\n4 6 2 2 -\n"
    ++ codes "advance 7 2 0\npartial 8 5 0\n0 0 3 - 3\n1 0 4 - 4\n2 6 0 0 4\n3 0 0 0 -\n4 0 1 1 -\n"
    ++ codes "refused 9 lazy\nrefused 10 lazy\n"

-- `lazy` stands behind `slot` and `kept`
abbrev pub LazyRefusalsOutput : Type 0
LazyRefusalsOutput =
    (files : Files) → output words files
    (codes "session 2\nkeep 1 3\nadvance 1 1\npartial 1\npartial 0\nadvance 2 1\npartial 9\nlazy 8 none 0\n")
    ≡ codes "ok 1\nok 2 0\nrefused 3 kept\nrefused 4 kept\nrefused 5 lazy\nrefused 6 slot\nrefused 7 slot\n"
    ++ codes "refused 8 slot\n"

-- version 1 has no kept slots
abbrev pub FirstVersionOutput : Type 0
FirstVersionOutput =
    (files : Files) → output words files (codes "session 1\nkeep 0 5\nkeep\n")
    ≡ codes "ok 1\nrefused 2 unknown\nrefused 3 unknown\n"

-- samples of 48 bits and reports as JSON lines
abbrev pub WideJsonOutput : Type 0
WideJsonOutput =
    (files : Files) → output words files
    (codes "session 2 wide json\nappend 0 140737488355327 -140737488355328 0\nappend 0 140737488355328\nentry 0 0\n")
    ≡ codes "{\"kind\":\"ok\",\"line\":1}\n{\"kind\":\"ok\",\"line\":2,\"samples\":3}\n"
    ++ codes "{\"kind\":\"refused\",\"line\":3,\"word\":\"sample 1\"}\n"
    ++ codes "{\"kind\":\"entry\",\"line\":4,\"window\":"
    ++ codes "{\"dist\":null,\"index\":null,\"left\":null,\"right\":null,\"start\":0}}\n"

-- the greatest distance of three samples
abbrev pub WideOutput : Type 0
WideOutput =
    (files : Files) → output words files
    (codes "session 2 wide\nappend 0 -140737488355328 -140737488355328 -140737488355328"
    ++ codes " 140737488355327 140737488355327 140737488355327\nentry 0 0\n")
    ≡ codes "ok 1\nok 2 6\nentry 3 0 158456325028527549287181058050 2 - 2\n"

-- what stands before the version line is answered as text, and what stands behind it as JSON
abbrev pub JsonOutput : Type 0
JsonOutput =
    (files : Files) → output words files
    (codes "session 1 json\nfrob\nsession 2 json\nprofile 0\nsession 2\nappend 0 2147483648\n")
    ≡ codes "refused 1 version\nrefused 2 unknown\n{\"kind\":\"ok\",\"line\":3}\n"
    ++ codes "{\"kind\":\"profile\",\"line\":4,\"windows\":[]}\n"
    ++ codes "{\"kind\":\"refused\",\"line\":5,\"word\":\"version\"}\n"
    ++ codes "{\"kind\":\"refused\",\"line\":6,\"word\":\"sample 1\"}\n"

-- no line behind `end` is run
abbrev pub EndOutput : Type 0
EndOutput =
    (files : Files) → output words files (codes "append 0 1\nend 1\nend\nfrob\n")
    ≡ codes "ok 1 1\nrefused 2 fields\nok 3\n"

-- what files give to a load, and what they are refused for
pub record LoadedFiles : Type 0 where
  pub under_header : table_in Narrow 1 (1 ∷ 2 ∷ []) true (codes "time,load,temp\n0,1.0,7.5\n1,,\"7.5\"\n")
      ≡ Ok ((Some (pos 10) ∷ None ∷ []) ∷ (Some (pos 75) ∷ Some (pos 75) ∷ []) ∷ [])
  pub in_their_order : table_in Narrow 0 (2 ∷ 0 ∷ []) false (codes "1,2,3\n")
      ≡ Ok ((Some (pos 3) ∷ []) ∷ (Some (pos 1) ∷ []) ∷ [])
  pub no_bytes : table_in Narrow 0 (0 ∷ []) false [] ≡ Ok ([] ∷ [])
  pub header_unnamed : first_cause (file_conditions Narrow 1 (1 ∷ []) false (Some (codes "time,load\n0,1.0\n")))
      ≡ Some (cause.Record 1)
  pub missing_field : first_cause (file_conditions Narrow 0 (1 ∷ []) false (Some (codes "1,2\n3,4\n5,6\n7\n9,10\n")))
      ≡ Some (cause.Record 4)
  pub no_file : first_cause (file_conditions Narrow 0 (1 ∷ []) false None) ≡ Some cause.File

-- the words of a run at scale 1
abbrev pub tenths : List (List ℕ)
tenths = codes "--window" ∷ codes "3" ∷ codes "--scale" ∷ codes "1" ∷ []

-- a column of a file under a header, at the scale of the words
abbrev pub LoadOutput : Type 0
LoadOutput =
    (files : Files) → file_in files (codes "day.csv") ≡ Some (codes "time,load\n0,1.5\n1,\n2,-2\n")
    → output tenths files (codes "append 0 7\nload 0 day.csv 1 header\nwindow 0 0\n")
    ≡ codes "ok 1 1\nok 2 3\nwindow 3 0 1.5 ? -2.0\n"

-- channels that are opened in place of what stood there, and items with a value for each of them
abbrev pub OpenOutput : Type 0
OpenOutput =
    (files : Files) → output words files
    (codes "append 0 4 5\nopen 0 2\nappend 0 1,? ,2\nappend 0 1\nopen 1 1\nprofile 0.1\nprofile 1.1\n")
    ≡ codes "ok 1 2\nok 2 0\nok 3 2\nrefused 4 sample 1\nok 5 0\nprofile 6 0\nrefused 7 channel\n"

-- a series joined with itself: no window is too near
abbrev pub JoinOutput : Type 0
JoinOutput =
    (files : Files) → output words files
    (codes "open 1 1\nappend 0 1 2 3 4\nappend 1 1 2 3 4\njoin 0 1\nmpdist 0 1\njoin 0 0\n")
    ≡ codes "ok 1 0\nok 2 4\nok 3 4\njoin 4 2\n0 0 0\n1 0 1\nmpdist 5 0\njoin 6 2\n0 0 0\n1 0 1\n"

-- the windows that match one, repeated patterns, and why a match is refused
abbrev pub PatternOutput : Type 0
PatternOutput =
    (files : Files) → output words files
    (codes "append 0 1 2 3 1 2 3\nmatch 0 0 0 6 10\nmotifs 0 2 6 6 1 10\nmotifs 0 2 6 6 2 10\n"
    ++ codes "match 0 0 4 6 10\nappend 0 ?\nmatch 0 0 4 6 10\n")
    ≡ codes "ok 1 6\nmatch 2 2\n0 0\n0 3\nmotifs 3 1\nmotif 0 2\n0 0\n0 3\nmotifs 4 0\n"
    ++ codes "refused 5 index\nok 6 7\nrefused 7 missing\n"

-- where all windows are equally near
abbrev pub ChainOutput : Type 0
ChainOutput =
    (files : Files) → output words files (codes "append 0 5 5 5 5 5 5\nchains 0\nchain 0 2\ndiscords 0 1\n")
    ≡ codes "ok 1 6\nchains 2 3 0\n0 2\n1\n3\nchain 3 1\n2\ndiscords 4 1\n0 0 2\n"

abbrev pub SegmentsOutput : Type 0
SegmentsOutput =
    (files : Files) → output words files (codes "append 0 1 2 3 1 2 3\nsegments 0 2 0\nsegments 0 2 5\n")
    ≡ codes "ok 1 6\nsegments 2 1\n3 0/6\nsegments 3 0\n"

-- the channels of a slot together, of which one has a missing sample
abbrev pub MultiOutput : Type 0
MultiOutput =
    (files : Files) → output words files
    (codes "open 1 2\nappend 1 1,1 2,? 3,3 1,1 2,2 3,3 1,1\nmulti 1 1\nmulti 1 2\nmulti 1 3\n")
    ≡ codes "ok 1 0\nok 2 7\nmulti 3 5\n0 0 3\n1 0 4\n2 6 0\n3 0 0\n4 0 1\n"
    ++ codes "multi 4 5\n0 - -\n1 - -\n2 12 4\n3 - -\n4 12 2\nrefused 5 channel\n"

-- the two nearest windows of each: all different, and all equally near
abbrev pub NearestOutput : Type 0
NearestOutput =
    (files : Files) → output words files
    (codes "append 0 1 2 3 1 2 3\nnearest 0 2\nnearest 0 5\nopen 0 1\nappend 0 5 5 5 5 5 5\nnearest 0 2\n")
    ≡ codes "ok 1 6\nnearest 2 4\n0 2 0 3 6 2\n1 1 6 3\n2 1 6 0\n3 2 0 0 6 1\nrefused 3 number\n"
    ++ codes "ok 4 0\nok 5 6\nnearest 6 4\n0 2 0 2 0 3\n1 1 0 3\n2 1 0 0\n3 2 0 0 0 1\n"

-- what three channels have in common, and nothing where one of them is empty
abbrev pub ConsensusOutput : Type 0
ConsensusOutput =
    (files : Files) → output words files
    (codes "open 1 1\nopen 2 1\nappend 0 1 2 3 4\nappend 1 9 1 2 3\nappend 2 2 3 4 9\nconsensus 0 1 2\n"
    ++ codes "open 2 1\nconsensus 0 1 2\n")
    ≡ codes "ok 1 0\nok 2 0\nok 3 4\nok 4 4\nok 5 4\nconsensus 6 3 0 0\n0 0 0\n1 0 1\n2 3 0\n"
    ++ codes "ok 7 0\nconsensus 8 -\n"

-- the window lengths of a range, with windows and without
abbrev pub PanOutput : Type 0
PanOutput =
    (files : Files) → output words files (codes "append 0 1 2 3 1 2 3\npan 0 3 4\npan 0 5 7\npan 0 4 3\n")
    ≡ codes "ok 1 6\npan 2 2\n3 4 0 0 3 6 1 3\n4 3 10 0 2 10 0 2\n"
    ++ codes "pan 3 3\n5 2 - - - - - -\n6 1 - - - - - -\n7 0 - - - - - -\nrefused 4 number\n"

-- series that are made: of one window, and of windows that have a nearest one
abbrev pub MadeOutput : Type 0
MadeOutput =
    (files : Files) (bytes : List ℕ)
    → (output (codes "--window" ∷ codes "3" ∷ codes "--generate" ∷ codes "0" ∷ codes "--count" ∷ codes "3" ∷ []) files
    bytes ≡ codes "generated 3 1\nbest -\ndiscord -\nsegment -\n")
    × (output (codes "--window=3" ∷ codes "--generate=0" ∷ codes "--count=6" ∷ codes "--scale=2" ∷ []) files bytes
    ≡ codes "generated 6 4\nbest 118633 0 2\ndiscord 119349 1 3\nsegment -\n")

-- reports as JSON, each kind, and what isn't there
pub record SpelledReports : Type 0 where
  pub ok : json_line (ok_data 1 None)
      ≡ codes "{\"kind\":\"ok\",\"line\":1}\n"
  pub appended : json_line (ok_data 2 (Some 3))
      ≡ codes "{\"kind\":\"ok\",\"line\":2,\"samples\":3}\n"
  pub refused : json_line (refused_data 3 (cause.Sample 1))
      ≡ codes "{\"kind\":\"refused\",\"line\":3,\"word\":\"sample 1\"}\n"
  pub window : json_line (window_data 2 1 (Some (pos 25) ∷ None ∷ Some (pos 700) ∷ []) 2)
      ≡ codes "{\"kind\":\"window\",\"line\":2,\"samples\":[\"0.25\",\"?\",\"7.00\"],\"start\":1}\n"
  pub no_entry : json_line (entry_data 4 0 None None None)
      ≡ codes "{\"kind\":\"entry\",\"line\":4,\"window\":{\"dist\":null,\"index\":null,\"left\":null,"
      ++ codes "\"right\":null,\"start\":0}}\n"
  pub entry : json_line (entry_data 5 2 (Some (near_at 0 6)) (Some (near_at 0 6)) (Some (near_at 4 6)))
      ≡ codes "{\"kind\":\"entry\",\"line\":5,\"window\":{\"dist\":\"6\",\"index\":0,\"left\":0,\"right\":4,"
      ++ codes "\"start\":2}}\n"
  pub profile : json_line (profile_data 4 2 record {
    all = Some (near_at 0 6) ∷ None ∷ [];
    left = Some (near_at 0 6) ∷ None ∷ [];
    right = None ∷ None ∷ [];
  })
      ≡ codes "{\"kind\":\"profile\",\"line\":4,\"windows\":[{\"dist\":\"6\",\"index\":0,\"left\":0,"
      ++ codes "\"right\":null,\"start\":2},{\"dist\":null,\"index\":null,\"left\":null,\"right\":null,"
      ++ codes "\"start\":3}]}\n"
  pub advance : json_line (advance_data 3 1 2)
      ≡ codes "{\"done\":1,\"kind\":\"advance\",\"left\":2,\"line\":3}\n"
  pub partial : json_line (partial_data 4 record {
    all = Some (near_at 2 6) ∷ [];
    left = None ∷ [];
    right = Some (near_at 2 6) ∷ [];
  } 1)
      ≡ codes "{\"kind\":\"partial\",\"left\":1,\"line\":4,\"windows\":[{\"dist\":\"6\",\"index\":2,"
      ++ codes "\"left\":null,\"right\":2,\"start\":0}]}\n"
  pub no_windows : json_line (profile_data 1 0 record { all = []; left = []; right = [] })
      ≡ codes "{\"kind\":\"profile\",\"line\":1,\"windows\":[]}\n"
  pub join : json_line (slots_data (codes "join") 4 (Some (near_at 0 3) ∷ None ∷ []))
      ≡ codes "{\"kind\":\"join\",\"line\":4,\"windows\":[{\"dist\":\"3\",\"index\":0,\"start\":0},{\"dist\":null,"
      ++ codes "\"index\":null,\"start\":1}]}\n"
  pub nearest : json_line (nearest_data 2 ((near_at 3 0 ∷ near_at 2 6 ∷ []) ∷ [] ∷ []))
      ≡ codes "{\"kind\":\"nearest\",\"line\":2,\"windows\":[{\"nearest\":[{\"dist\":\"0\",\"index\":3},"
      ++ codes "{\"dist\":\"6\",\"index\":2}],\"start\":0},{\"nearest\":[],\"start\":1}]}\n"
  pub pan : json_line (pan_data 2 (record {
    length = 3;
    windows = 4;
    best = Some record { start = 0; near = near_at 3 0 };
    discord = None;
  } ∷ []))
      ≡ codes "{\"kind\":\"pan\",\"lengths\":[{\"best\":{\"dist\":\"0\",\"index\":3,\"start\":0},"
      ++ codes "\"discord\":null,\"length\":3,\"windows\":4}],\"line\":2}\n"
  pub matches : json_line (match_data 2 (near_at 0 0 ∷ near_at 3 0 ∷ []))
      ≡ codes "{\"kind\":\"match\",\"line\":2,\"matches\":[{\"dist\":\"0\",\"index\":0},{\"dist\":\"0\","
      ++ codes "\"index\":3}]}\n"
  pub motifs : json_line (motifs_data 3 (record { start = 0; matches = near_at 0 0 ∷ near_at 3 0 ∷ [] } ∷ []))
      ≡ codes "{\"kind\":\"motifs\",\"line\":3,\"motifs\":[{\"matches\":[{\"dist\":\"0\",\"index\":0},"
      ++ codes "{\"dist\":\"0\",\"index\":3}],\"start\":0}]}\n"
  pub discords : json_line (discords_data 2 (record { start = 1; near = near_at 3 6 } ∷ []))
      ≡ codes "{\"discords\":[{\"dist\":\"6\",\"index\":3,\"start\":1}],\"kind\":\"discords\",\"line\":2}\n"
  pub chain : json_line (chain_data 3 (0 ∷ 2 ∷ []))
      ≡ codes "{\"chain\":[0,2],\"kind\":\"chain\",\"line\":3}\n"
  pub chains : json_line (chains_data 3 ((0 ∷ 2 ∷ []) ∷ (1 ∷ []) ∷ (3 ∷ []) ∷ []) (Some 0))
      ≡ codes "{\"chains\":[[0,2],[1],[3]],\"kind\":\"chains\",\"line\":3,\"longest\":0}\n"
  pub no_chains : json_line (chains_data 1 [] None)
      ≡ codes "{\"chains\":[],\"kind\":\"chains\",\"line\":1,\"longest\":null}\n"
  pub segments : json_line (segments_data 2 (3 ∷ []) ((1, 1) ∷ (1, 1) ∷ (1, 1) ∷ (0, 6) ∷ []))
      ≡ codes "{\"kind\":\"segments\",\"line\":2,\"segments\":[{\"den\":6,\"num\":0,\"place\":3}]}\n"
  pub mpdist : json_line (mpdist_data 5 (Some (square 0)))
      ≡ codes "{\"dist\":\"0\",\"kind\":\"mpdist\",\"line\":5}\n"
  pub no_mpdist : json_line (mpdist_data 5 None)
      ≡ codes "{\"dist\":null,\"kind\":\"mpdist\",\"line\":5}\n"
  pub consensus : json_line (consensus_data 6 (Some record {
    radius = 3;
    series = 0;
    start = 0;
    nearest = near_at 0 0 ∷ near_at 1 0 ∷ near_at 0 3 ∷ [];
  }))
      ≡ codes "{\"centre\":{\"nearest\":[{\"dist\":\"0\",\"index\":0,\"place\":0},{\"dist\":\"0\",\"index\":1,"
      ++ codes "\"place\":1},{\"dist\":\"3\",\"index\":0,\"place\":2}],\"radius\":\"3\",\"series\":0,\"start\":0},"
      ++ codes "\"kind\":\"consensus\",\"line\":6}\n"
  pub no_consensus : json_line (consensus_data 8 None)
      ≡ codes "{\"centre\":null,\"kind\":\"consensus\",\"line\":8}\n"
