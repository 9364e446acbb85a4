use Rattle.std.proofs.Common.{◌≡◌, ◌∙◌, ap, false}
use Rattle.mp_feed.specs.declared.readers.Next.TheVariants.{Line}
use Rattle.mp_session.proofs.runs.next_line.Goals as goal

pub returns-in-Ok-PastLimit-clause-past : goal.returns-in-Ok-PastLimit-clause-past
returns-in-Ok-PastLimit-clause-past g c = λ _. rw c.in-Ok-PastLimit.field-0-is at c.in-Ok-PastLimit.ensures.next

pub returns-in-Ok-End-clause-next : goal.returns-in-Ok-End-clause-next
returns-in-Ok-End-clause-next g c = rw c.in-Ok-End.field-0-is at c.in-Ok-End.ensures.next

pub returns-in-Ok-Line-clause-next : goal.returns-in-Ok-Line-clause-next
returns-in-Ok-Line-clause-next g c = rw c.in-Ok-Line.field-0-is at c.in-Ok-Line.ensures.next

pub returns-in-Ok-Line-clause-fewer : goal.returns-in-Ok-Line-clause-fewer
returns-in-Ok-Line-clause-fewer g c = λ e.
    let same : c.in-Ok-Line.last ≡ false = cc in
    c.in-Ok-Line.ensures.fewer (c.in-Ok-Line.field-0-is ∙ ap Line same)
