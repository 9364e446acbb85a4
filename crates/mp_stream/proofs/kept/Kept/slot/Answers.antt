use Rattle.std.proofs.Common.{◌≡◌, ◌∙◌, ◌+◌, ◌-◌, ◌<◌, ◌≤◌, ap, arith, get_or, length, subst, sym}
use Rattle.std.specs.Prelude.{None}
use Rattle.std.proofs.lemmas.Simd.{get_or-zip2}
use Rattle.mp_nums.specs.Near.{nearer_of}
use Rattle.mp_partial.specs.Values.{merged_column}
use Rattle.mp_defs.specs.Band.{first_kept, live_windows}
use Rattle.mp_stream.specs.Kept.{column_of}
use Rattle.mp_stream.specs.declared.kept.Column.TheVariants.{All}
use Rattle.mp_stream.proofs.KeptStands.{live_is}
use Rattle.mp_stream.proofs.kept.Kept.slot.Goals as goal

pub returns-in-All : goal.returns-in-All
returns-in-All c =
    let store = c.self.inside in
    let left = store.growing.entries.profile.left in
    let right = store.growing.entries.profile.right in
    let place = c.args.i - c.first.result in
    let of = c.self.invariant.is_of in
    let first = subst (λ seen. c.first.result ≡ first_kept seen.keep seen.count) (sym c.self.view_is) c.first.ensures in
    let low = subst (λ seen. first_kept seen.keep seen.count ≤ c.args.i) (sym c.self.view_is) c.requires.first in
    let high = subst (λ seen. c.args.i < first_kept seen.keep seen.count + live_windows seen.keep seen.m seen.count)
    (sym c.self.view_is) c.requires.last in
    let live = live_is store.m store.keep store.ring store.growing c.self.invariant in
    let within : place < length left = omega (arith, first, low, high, live, of.lefts) in
    let there : place < length right = omega (arith, within, of.lefts, of.rights) in
    c.nearer.ensures
    ∙ ap (λ xs. nearer_of (get_or xs place None) (get_or c.right.result.now place None)) c.left.ensures
    ∙ ap (λ xs. nearer_of (get_or left place None) (get_or xs place None)) c.right.ensures
    ∙ sym (get_or-zip2 nearer_of left right place None None None within there)
    ∙ ap (λ n. get_or (merged_column left right) n None) (ap (λ n. c.args.i - n) c.first.ensures)
    ∙ ap (λ seen. get_or (column_of All seen) (c.args.i - first_kept c.args.self.now.keep c.args.self.now.count) None)
    c.self.view_is
    ∙ ap (λ column. get_or (column_of column c.args.self.now)
    (c.args.i - first_kept c.args.self.now.keep c.args.self.now.count) None) (sym c.in-All.is)
