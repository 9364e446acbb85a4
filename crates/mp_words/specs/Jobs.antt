-- What the words ask for, as the definitions have it.
use Rattle.std.specs.Prelude.{}
use Rattle.mp_replies.specs.Words.{Job as Asked}
use Rattle.mp_words.specs.declared.jobs.Job.{Job}

abbrev pub meant_by : Job → Asked
meant_by job = record { setup = job.settings; make = job.make }
