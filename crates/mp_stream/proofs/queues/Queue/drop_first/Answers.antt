use Rattle.std.proofs.Common.{drop, ap, sym, ◌∙◌}
use Rattle.std.proofs.lemmas.List.{drop-drop}
use Rattle.mp_stream.proofs.queues.Queue.drop_first.Goals as goal

pub returns-clause-items : goal.returns-clause-items
returns-clause-items g c =
    sym (drop-drop 1 c.self.inside.start c.self.inside.stored.items) ∙ ap (λ seen. drop 1 seen.items) c.self.view_is
