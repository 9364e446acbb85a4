-- The command that the words are read as: six options that take one text each.
use Rattle.std.specs.Prelude.{ℕ, List, true, codes, Option, Some, option_and_then}
use Rattle.clap.specs.Words.{App, Rule, first_value, new_app, new_rule, with_rule}
use Rattle.clap.specs.declared.builder.action.ArgAction.TheVariants.{Set}
use Rattle.clap.specs.declared.parser.matches.Found.{Found}
use Rattle.mp_replies.specs.Words.{word_number}
use Rattle.mp_words.specs.declared.numbers.Numbers.{Numbers}

-- an option of this name, with two dashes before it
abbrev pub option_rule : List ℕ → Rule
option_rule name = record (new_rule name) { long = Some name; action = Some Set }

-- a command of no options, whose words don't begin with the program's name and which has no help
abbrev pub bare_app : App
bare_app =
    let app = new_app (codes "mprof") in
    record app { top = record app.top { no_binary_name = true; disable_help_flag = true } }

abbrev pub words_app : App
words_app =
    with_rule (with_rule (with_rule (with_rule (with_rule (with_rule bare_app (option_rule (codes "window")))
    (option_rule (codes "scale"))) (option_rule (codes "tile"))) (option_rule (codes "workers")))
    (option_rule (codes "generate"))) (option_rule (codes "count"))

-- the numbers that were found
abbrev pub number_found : Found → List ℕ → Option ℕ
number_found found id = option_and_then word_number (first_value found id)

abbrev pub numbers_found : Found → Numbers
numbers_found found = record {
  window = number_found found (codes "window");
  scale = number_found found (codes "scale");
  tile = number_found found (codes "tile");
  workers = number_found found (codes "workers");
  generate = number_found found (codes "generate");
  count = number_found found (codes "count");
}
