use Rattle.std.proofs.Common.{◌∙◌}
use Rattle.mp_workers.proofs.SlotTelling.{still_whole, word_tells}
use Rattle.mp_workers.proofs.entries.Entries.slot.Goals as goal

pub returns-clause-slot : goal.returns-clause-slot
returns-clause-slot c =
    c.slot.ensures ∙ c.of_word.ensures
    ∙ word_tells c.last.result c.args.place c.args.hold.now.told _ c.last.ensures.least c.last.ensures.within
    (λ near e. c.requires.whole c.args.place near e)

pub returns-clause-whole : goal.returns-clause-whole
returns-clause-whole c =
    still_whole c.args.self.now.series c.args.hold.now.told c.last.new.hold.told c.args.place c.last.result
    c.last.ensures.told c.requires.whole
