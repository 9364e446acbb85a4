use Rattle.mp_replies.specs.Output.{usage}
use Rattle.mp_session.proofs.ServeLemmas.{whole_text}
use Rattle.mp_session.proofs.top.refuse_words.Goals as goal

pub returns-in-Ok-clause-front : goal.returns-in-Ok-clause-front
returns-in-Ok-clause-front g c = λ before written fits.
    whole_text (g.K.Sink.written c.write_report.new.out) before usage (c.in-Ok.ensures.wrote.told before written fits)

pub returns-in-Err-clause-unfinished : goal.returns-in-Err-clause-unfinished
returns-in-Err-clause-unfinished g c = λ before written fits _. c.in-Err.ensures.front.unfinished before written fits
