use Rattle.std.proofs.Common.{◌≡◌, length, sym, ap, ◌∙◌}
use Rattle.mp_partial.proofs.Merging.{merged_has}
use Rattle.mp_partial.proofs.profiles.Profile.of.Goals as goal

pub invariant_of-result : goal.invariant_of-result
invariant_of-result c =
    let all : length c.args.all.items ≡ length c.args.left.items =
    ap length c.requires.nearer ∙ merged_has c.args.left.items c.args.right.items c.requires.places in
    record { left_is = sym all; right_is = c.requires.places ∙ sym all; lesser = c.requires.nearer }
