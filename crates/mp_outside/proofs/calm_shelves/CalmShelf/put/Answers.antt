use Rattle.std.proofs.Common.{ap, ◌∙◌}
use Rattle.std.specs.FinMap.{from_entries, insert}
use Rattle.mp_outside.specs.Filed.{CalmShelfState, filed}
use Rattle.mp_outside.proofs.FiledLemmas.{from_entries-insert_entry}
use Rattle.mp_outside.proofs.calm_shelves.CalmShelf.put.Goals as goal

pub returns-clause-ok : goal.returns-clause-ok
returns-clause-ok c =
    ap (λ es. from_entries (filed es)) c.in_ok-insert.ensures.entries
    ∙ from_entries-insert_entry c.self.inside.files.entries c.args.name c.args.bytes
    ∙ ap (λ (shelf : CalmShelfState). insert shelf.files c.args.name.items c.args.bytes.items) c.self.view_is
