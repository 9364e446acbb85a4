-- What a line that was read asks for.
use Rattle.std.specs.Prelude.{◌≡◌, ℕ, List, [], unwrap_or, Result, Ok, Err}
use Rattle.mp_bytes.specs.Fields.{fields_in}
use Rattle.mp_replies.specs.declared.causes.Cause.{Cause}
use Rattle.mp_replies.specs.declared.causes.Cause.TheVariants as cause
use Rattle.mp_replies.specs.Command as asked
use Rattle.mp_replies.specs.Line.{Asked, Nothing, Asks, Faulty, asks}
use Rattle.mp_replies.specs.Commands.{made}
use Rattle.mp_replies.specs.MotifsCommand.{motif_query}
use Rattle.mp_replies.specs.Numbers.{columns, refs}
use Rattle.mp_replies.specs.SessionCommand.{mode_of}
use Rattle.mp_replies.specs.Shapes.{Shape, by_shape}
use Rattle.mp_lines.specs.declared.commands.Command.{Command}
use Rattle.mp_lines.specs.declared.commands.Command.TheVariants.{Blank, Session, Open, Keep, Load, Lazy, Append}
use Rattle.mp_lines.specs.declared.commands.Command.TheVariants.{Advance, Partial, Window, Profile, Entry, End}
use Rattle.mp_lines.specs.declared.commands.Command.TheVariants.{Join, Multi, Nearest, Pan, Match, Motifs}
use Rattle.mp_lines.specs.declared.commands.Command.TheVariants.{Discords, Chain, Chains, Segments, Mpdist}
use Rattle.mp_lines.specs.declared.commands.Command.TheVariants.{Consensus}
use Rattle.mp_lines.specs.declared.commands.LineFault.{LineFault}
use Rattle.mp_lines.specs.declared.commands.LineFault.TheVariants as fault

abbrev pub cause_of : LineFault → Cause
cause_of fault.Long = cause.Long
cause_of fault.Version = cause.Version
cause_of fault.Unknown = cause.Unknown
cause_of fault.Fields = cause.Fields
cause_of fault.Number = cause.Number

abbrev pub asked_by : Command → Asked
asked_by Blank = Nothing
asked_by (Session version wide json) = Asks (asked.Session (mode_of version wide json))
asked_by (Open slot channels) = Asks (asked.OpenAnew slot channels)
asked_by (Keep slot keep) = Asks (asked.KeepLast slot keep)
asked_by (Load slot file cols header) = Asks (asked.Load slot file.now (unwrap_or (columns cols.field.now) []) header)
asked_by (Lazy slot file column header) = Asks (asked.LoadLazy slot file.now column header)
asked_by (Append slot items) = Asks (asked.Append slot (fields_in items.now))
asked_by (Advance slot count) = Asks (asked.Advance slot count)
asked_by (Partial slot) = Asks (asked.Partial slot)
asked_by (Window at start) = Asks (asked.Window at start)
asked_by (Profile at) = Asks (asked.Profile at)
asked_by (Entry at start) = Asks (asked.Entry at start)
asked_by (Join a b) = Asks (asked.Join a b)
asked_by (Multi slot k) = Asks (asked.Multi slot k)
asked_by (Nearest at k) = Asks (asked.Nearest at k)
asked_by (Pan at lo hi) = Asks (asked.Pan at lo hi)
asked_by (Match at query start radius max) = Asks (asked.Match at query start radius max)
asked_by (Motifs at count cutoff radius neighbours matches) =
    Asks (asked.Motifs at (motif_query count cutoff radius neighbours matches))
asked_by (Discords at count) = Asks (asked.Discords at count)
asked_by (Chain at start) = Asks (asked.Chain at start)
asked_by (Chains at) = Asks (asked.Chains at)
asked_by (Segments at count factor) = Asks (asked.Segments at count factor)
asked_by (Mpdist a b) = Asks (asked.Mpdist a b)
asked_by (Consensus list) = Asks (asked.Consensus (unwrap_or (refs (fields_in list.field.now)) []))
asked_by End = Asks asked.End

abbrev pub read_as : Result Command LineFault → Asked
read_as (Ok command) = asked_by command
read_as (Err fault) = Faulty (cause_of fault)

-- ---- fields that were read by a shape

abbrev pub with_cause : {A : Type 0} → Result A LineFault → Result A Cause
with_cause (Ok said) = Ok said
with_cause (Err fault) = Err (cause_of fault)

-- what the fields say
abbrev pub IsReadBy : {A : Type 0} → Shape A → List (List ℕ) → Result A LineFault → Type 0
IsReadBy shape fields read = with_cause read ≡ by_shape shape fields

-- the command that is made of what the fields say
abbrev pub IsMadeBy : {A : Type 0} → (A → asked.Command) → Shape A → List (List ℕ) → Result Command LineFault → Type 0
IsMadeBy make shape fields read = read_as read ≡ asks (made make (by_shape shape fields))
