-- What is seen of a store of the program.
use Rattle.mp_stores.specs.declared.store.Store.{Store}
use Rattle.mp_stores.specs.declared.store.Store.TheVariants as stored
use Rattle.mp_stores.specs.Stores.{Held, Closed, Open, Kept, Lazy}

abbrev pub held_of : Store → Held
held_of stored.Closed = Closed
held_of (stored.Open channels) = Open channels.items
held_of (stored.Kept kept) = Kept kept
held_of (stored.Lazy part) = Lazy part
