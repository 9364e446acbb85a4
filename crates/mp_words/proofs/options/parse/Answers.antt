use Rattle.std.proofs.Common.{◌∙◌, map, sym}
use Rattle.std.specs.Prelude.{string_bytes}
use Rattle.mp_replies.specs.Words.{given}
use Rattle.mp_words.proofs.ClapLemmas.{found_numbers}
use Rattle.mp_words.proofs.GivenLemmas.{some_options}
use Rattle.clap.specs.Words.{app_of}
use Rattle.mp_words.proofs.options.parse.Goals as goal

pub returns-in-Ok : goal.returns-in-Ok
returns-in-Ok c = λ numbers asked.
    let words = map string_bytes c.args.words.now in
    let some = some_options (given words) numbers asked in
    c.numbers_found.ensures
    ∙ found_numbers c.in-Ok.matches (app_of c.in_ok-command.command) words some.0 c.in_ok-command.ensures
    c.in-Ok.ensures.matches some.1 some.2 ∙ sym some.3
