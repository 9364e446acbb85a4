-- What is seen of the sources, sinks and shelves whose failing calls are planned.
use Rattle.std.specs.Prelude.{ℕ, refl, ◌+◌, ◌-◌, ◌^◌, ◌==◌, min, Bool, if◌then◌else◌, List}
use Rattle.std.specs.List.{list_any}
use Rattle.std.specs.Ordering.{nat_cmp}
use Rattle.std.specs.Cmp.Lexicographic.{slice_cmp}
use Rattle.std.specs.Coded.{Coded, code_by, coded×, coded_list, coded_ℕ}
use Rattle.std.specs.FinMap as map
use Rattle.mp_outside.specs.States.{SourceState, SinkState}

-- the numbers of the calls that are to fail, counted from 0, how many calls were made, and how many failed
pub record PlanState : Type 0 where
  pub fail : List ℕ
  pub calls : ℕ
  pub faults : ℕ

-- whether the next call is to fail
abbrev pub is_next_to_fail : PlanState → Bool
is_next_to_fail plan = list_any (λ number. number == plan.calls) plan.fail

-- after one more call
abbrev pub after_call : PlanState → PlanState
after_call plan = record plan {
  calls = min (plan.calls + 1) (2 ^ 128 - 1);
  faults = if is_next_to_fail plan then min (plan.faults + 1) (2 ^ 64 - 1) else plan.faults;
}

pub record MemSourceState : Type 0 where
  pub source : SourceState
  pub plan : PlanState

-- a sink, and how many bytes one write takes at most
pub record MemSinkState : Type 0 where
  pub sink : SinkState
  pub step : ℕ
  pub plan : PlanState

pub record MemShelfState : Type 0 where
  pub files : map.FinMap (slice_cmp nat_cmp) (List ℕ)
  pub plan : PlanState

-- it is stored as its parts
abbrev pub mem_shelf_code : Coded MemShelfState
mem_shelf_code =
    code_by (map.FinMap (slice_cmp nat_cmp) (List ℕ) × (List ℕ × (ℕ × ℕ)))
    (coded× (map.code (coded_list coded_ℕ) (coded_list coded_ℕ)) (coded× (coded_list coded_ℕ) (coded× coded_ℕ coded_ℕ)))
    (λ shelf. (shelf.files, (shelf.plan.fail, (shelf.plan.calls, shelf.plan.faults))))
    (λ parts. record {
      files = parts.0;
      plan = record { fail = parts.1.0; calls = parts.1.1.0; faults = parts.1.1.1 };
    })
    (λ _. refl)
