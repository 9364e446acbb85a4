use Rattle.std.proofs.Common.{◌≡◌, ◌∙◌, ap, map, rules, sym, true}
use Rattle.std.specs.Prelude.{is_some, option_and_then, option_map, string_bytes}
use Rattle.mp_replies.specs.Words.{given, job}
use Rattle.mp_words.specs.Jobs.{meant_by}
use Rattle.mp_words.specs.Numbers.{numbers_of}
use Rattle.mp_words.specs.declared.jobs.WordsAnswer.TheVariants.{Words}
use Rattle.mp_words.proofs.GivenLemmas.{asked_of, few_asked, job_by, job_of_numbers, never_refused, some_numbers}
use Rattle.mp_words.proofs.words.read_words.Goals as goal

pub returns-clause-job : goal.returns-clause-job
returns-clause-job c =
    let words = map string_bytes c.args.words.now in
    let some : is_some (job words) ≡ true = search rules in
    let all = job_of_numbers (given words) in
    let numbers = some_numbers (numbers_of words) (ap is_some (sym all) ∙ some) in
    let asks : option_map meant_by c.job.result ≡ job words =
    c.job.ensures ∙ ap job_by (c.in_ok-numbers.ensures numbers.0 numbers.1)
    ∙ sym (all ∙ ap (option_and_then job_by) numbers.1) in
    asked_of meant_by (job words) c.job.result Words c.ok_or.result c.ok_or.ensures.value asks

pub returns-clause-outside : goal.returns-clause-outside
returns-clause-outside c =
    let words = map string_bytes c.args.words.now in
    let some : is_some (job words) ≡ true = search rules in
    let all = job_of_numbers (given words) in
    let numbers = some_numbers (numbers_of words) (ap is_some (sym all) ∙ some) in
    let asks : option_map meant_by c.job.result ≡ job words =
    c.job.ensures ∙ ap job_by (c.in_ok-numbers.ensures numbers.0 numbers.1)
    ∙ sym (all ∙ ap (option_and_then job_by) numbers.1) in
    never_refused meant_by (job words) c.job.result Words c.ok_or.result c.ok_or.ensures.value asks some

pub returns-clause-count : goal.returns-clause-count
returns-clause-count c =
    few_asked meant_by c.in_ok-numbers.numbers c.job.result Words c.ok_or.result c.ok_or.ensures.value c.job.ensures
