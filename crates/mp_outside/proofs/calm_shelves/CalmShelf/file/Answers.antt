use Rattle.std.proofs.Common.{ℕ, Some, Vec, Global, ap, sym, ◌∙◌}
use Rattle.std.specs.Option.{option_map}
use Rattle.std.specs.FinMap.{get}
use Rattle.mp_outside.specs.Filed.{CalmShelfState}
use Rattle.mp_outside.proofs.FiledLemmas.{get-filed}
use Rattle.mp_outside.proofs.calm_shelves.CalmShelf.file.Goals as goal

pub returns-in-Some : goal.returns-in-Some
returns-in-Some c =
    ap Some c.as_slice.ensures.value
    ∙ ap (option_map (λ (bytes : Vec ℕ Global). bytes.items)) c.in-Some.ensures.value
    ∙ sym (get-filed c.args.name.now c.self.inside.files.entries)
    ∙ ap (λ (shelf : CalmShelfState). get shelf.files c.args.name.now) c.self.view_is

pub returns-in-None : goal.returns-in-None
returns-in-None c =
    ap (option_map (λ (bytes : Vec ℕ Global). bytes.items)) c.in-None.ensures.value
    ∙ sym (get-filed c.args.name.now c.self.inside.files.entries)
    ∙ ap (λ (shelf : CalmShelfState). get shelf.files c.args.name.now) c.self.view_is
