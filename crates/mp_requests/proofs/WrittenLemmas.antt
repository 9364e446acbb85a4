-- Reports that are written: what they name, and what stands there.
use Rattle.std.proofs.Common.{◌≡◌, ◌∙◌, ℕ, List, Vec, map, ap, sym, subst}
use Rattle.std.specs.Prelude.{Option}
use Rattle.std.specs.declared.alloc.Global.{Global}
use Rattle.mp_nums.specs.Listed.{Listed}
use Rattle.mp_results.specs.Chains.{longest_of}
use Rattle.mp_replies.specs.ChainsCommand.{all_chains_text, chains_text}
use Rattle.mp_replies.specs.Command.{ChainsReport}
use Rattle.mp_replies.specs.Commands.{report_text}
use Rattle.mp_replies.specs.Json.{chains_data, json_line, report_data}
use Rattle.mp_replies.specs.State.{State}
use Rattle.mp_replies.specs.declared.refs.Ref.{Ref}
use Rattle.mp_stores.specs.Stores.{Stored}
use Rattle.mp_requests.specs.declared.reports.Report as reports
use Rattle.mp_requests.specs.declared.reports.Report.TheVariants as report
use Rattle.mp_requests.specs.Requests.{AreNamed, IsWindow, report_in}

pub window_named : (held : Stored) (at : Ref) (start : ℕ) (ours : reports.Report) → ours ≡ report.Entry at start
    → AreNamed held ours → IsWindow held at start
window_named held at start ours is named = subst (AreNamed held) is named

-- the longest chain is looked for as they are written
pub chains_written : (state : State) (line : ℕ) (ours : reports.Report) (chains : Vec (Listed ℕ) Global)
    (lent : List (Listed ℕ)) (place : Option ℕ) → ours ≡ report.Chains chains → lent ≡ chains.items
    → place ≡ longest_of (map (λ chain. chain.items) lent)
    → chains_text line (map (λ chain. chain.items) lent) place ≡ report_text line (report_in state ours)
chains_written state line ours chains lent place is same longest =
    ap (chains_text line (map (λ chain. chain.items) lent)) longest
    ∙ (ap (λ (list : List (Listed ℕ)). all_chains_text line (map (λ chain. chain.items) list)) same
    ∙ ap (λ (r : reports.Report). report_text line (report_in state r)) (sym is))

pub chains_spelled : (state : State) (line : ℕ) (ours : reports.Report) (chains : Vec (Listed ℕ) Global)
    (lent : List (Listed ℕ)) (place : Option ℕ) → ours ≡ report.Chains chains → lent ≡ chains.items
    → place ≡ longest_of (map (λ chain. chain.items) lent)
    → json_line (chains_data line (map (λ chain. chain.items) lent) place)
    ≡ json_line (report_data line (report_in state ours))
chains_spelled state line ours chains lent place is same longest =
    ap (λ (o : Option ℕ). json_line (chains_data line (map (λ chain. chain.items) lent) o)) longest
    ∙ (ap (λ (list : List (Listed ℕ)). json_line (report_data line (ChainsReport (map (λ chain. chain.items) list))))
    same
    ∙ ap (λ (r : reports.Report). json_line (report_data line (report_in state r))) (sym is))
