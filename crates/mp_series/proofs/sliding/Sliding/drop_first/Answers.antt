use Rattle.std.proofs.Common.{drop, ap, sym, ◌∙◌}
use Rattle.std.proofs.lemmas.List.{drop-drop}
use Rattle.circular_buffer.specs.Buffer.{buffer}
use Rattle.mp_series.proofs.sliding.Sliding.drop_first.Goals as goal

pub returns : goal.returns
returns g c =
    ap (λ items. buffer items c.self.inside.capacity)
    (sym (drop-drop 1 c.self.inside.start c.self.inside.stored.items))
    ∙ ap (λ numbers. buffer (drop 1 numbers.items) numbers.capacity) c.self.view_is
