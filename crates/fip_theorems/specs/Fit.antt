-- What is so of a plan that breaks no rule of the writer, in plain facts.
use Rattle.std.specs.Prelude.{◌≡◌, false, List, ℕ, ◌+◌, ◌≤◌, ◌<◌, ltb, Ok}
use Rattle.std.proofs.Common.{arith}
use Rattle.std.proofs.lemmas.Bool.{eqb-false}
use Rattle.rules.specs.Choice.{not_second}
use Rattle.rules.specs.Tests.{Clear}
use Rattle.tools.specs.Search.{any_not}
use Rattle.fip_entries.specs.Entries.{offset, size}
use Rattle.fip_table.specs.Table.{blank, twins}
use Rattle.fip_table.specs.Meaning.{single_one, all_inside}
use Rattle.fip_plan.specs.Plan.{total, planned, hindrances, weighed}
use Rattle.fip_plan.specs.Weighing.{unhindered, few_planned, short_planned, roomy_planned}

-- where `room` image bytes and a space of `space` bytes are lent
pub record Fit (serial : ℕ) (d : List ℕ) (room space : ℕ) : Type 0 where
  pub numbered : serial ≡ 0 → ⊥
  pub few : planned d ≤ 64
  pub marked : (k : ℕ) → k < planned d → blank d k ≡ false
  pub single : (i j : ℕ) → i < planned d → j < i → twins d i j ≡ false
  pub inside : (k : ℕ) → k < planned d → offset d k + size d k ≤ room
  pub short : total d (planned d) ≤ 65536
  pub roomy : total d (planned d) ≤ space

pub fit : (serial : ℕ) (d : List ℕ) (room space : ℕ) → weighed serial d room space ≡ Ok tt → Fit serial d room space
unfolding Clear hindrances
fit serial d room space e =
    let n = planned d in
    let c = unhindered serial d room space e in
    record {
      numbered = eqb-false serial 0 c.0;
      few = few_planned serial d room space e;
      marked = λ k h. any_not (blank d) 0 n k (not_second (ltb 64 n) _ c.1.0) (omega arith) (omega arith);
      single = single_one d n c.1.1.0;
      inside = all_inside d room n c.1.1.1.0;
      short = short_planned serial d room space e;
      roomy = roomy_planned serial d room space e;
    }
