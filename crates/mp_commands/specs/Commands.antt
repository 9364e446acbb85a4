-- What requests ask for.
use Rattle.std.specs.Prelude.{[], unwrap_or}
use Rattle.mp_bytes.specs.Fields.{fields_in}
use Rattle.mp_replies.specs.Command as commands
use Rattle.mp_replies.specs.Line.{Asked, Nothing, Asks}
use Rattle.mp_replies.specs.Numbers.{columns}
use Rattle.mp_requests.specs.Requests.{reported_in}
use Rattle.mp_commands.specs.declared.requests.ChangeRequest.{ChangeRequest}
use Rattle.mp_commands.specs.declared.requests.ChangeRequest.TheVariants.{Open, Keep, Load, Lazy, Append, Advance}
use Rattle.mp_commands.specs.declared.requests.LazyLoad as lazy_loads
use Rattle.mp_commands.specs.declared.requests.Load as loads
use Rattle.mp_commands.specs.declared.requests.Request.{Request}
use Rattle.mp_commands.specs.declared.requests.Request.TheVariants.{Blank, Change, Report}

abbrev pub asks_for : loads.Load → Asked
asks_for load = Asks (commands.Load load.slot load.file.now (unwrap_or (columns load.columns.field.now) []) load.header)

abbrev pub asks_lazy : lazy_loads.LazyLoad → Asked
asks_lazy load = Asks (commands.LoadLazy load.slot load.file.now load.column load.header)

abbrev pub changed_in : ChangeRequest → Asked
changed_in (Open opening) = Asks (commands.OpenAnew opening.slot opening.channels)
changed_in (Keep keeping) = Asks (commands.KeepLast keeping.slot keeping.keep)
changed_in (Load load) = asks_for load
changed_in (Lazy load) = asks_lazy load
changed_in (Append more) = Asks (commands.Append more.slot (fields_in more.items.now))
changed_in (Advance advance) = Asks (commands.Advance advance.slot advance.count)

abbrev pub asked_in : Request → Asked
asked_in Blank = Nothing
asked_in (Change request) = changed_in request
asked_in (Report request) = reported_in request
