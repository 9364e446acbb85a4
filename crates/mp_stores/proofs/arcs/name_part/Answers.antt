use Rattle.std.proofs.Common.{◌<◌, ◌∙◌, ℕ, IfSome, Option, None, get_or, ap, arith, length, set, subst, sym}
use Rattle.mp_results.specs.Arcs.{index_of}
use Rattle.mp_stores.proofs.ArcLemmas.{named_next, named_none, names_window}
use Rattle.mp_stores.proofs.arcs.name_part.Goals as goal

pub loop-i-init : goal.loop-i-init
loop-i-init c = named_none c.args.profile.now c.args.first c.args.board.now.items

pub name-requires-clause-named : goal.name-requires-clause-named
name-requires-clause-named c =
    subst (λ (named : Option ℕ). IfSome named (λ j. j < length c.loop-i.board.items)) (sym c.index_of.ensures)
    (subst (λ (n : ℕ). IfSome (index_of (get_or c.args.profile.now c.loop-i.i None)) (λ j. j < n))
    (sym (c.loop-i.invariant.as_long ∙ c.requires.places))
    (names_window c.args.profile.now c.loop-i.i (omega arith) c.requires.named))

pub loop-i-preserved : goal.loop-i-preserved
loop-i-preserved c =
    let inv = c.loop-i.invariant in
    named_next c.args.profile.now c.args.first c.loop-i.i c.args.board.now.items c.loop-i.board.items
    c.name.new.board.items (omega arith) (omega (arith, inv.as_long, c.requires.places))
    (c.name.ensures ∙ ap (λ (named : Option ℕ). set c.loop-i.board.items c.loop-i.i named) c.index_of.ensures) inv
