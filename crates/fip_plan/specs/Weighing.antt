-- What is known once a plan has been weighed.
use Rattle.std.specs.Prelude.{◌≡◌, Bool, true, false, ◌||◌, List, ℕ, ◌≤◌, ◌<◌, ltb, length, ⊤, Result, Ok, Err}
use Rattle.std.proofs.Math.Path.{refl}
use Rattle.std.proofs.Common.{sym, ◌∙◌, arith}
use borrow.Author.Tests.{eq-eqb, ne_eqb, lt-ltb, le-ltb, ltb-true, ltb-false}
use Rattle.rules.specs.Choice.{picked, passed, chosen, first_or, second_or, neither, not_first, not_second}
use Rattle.rules.specs.Tests.{sieve, Clear, stops, goes, ends, said}
use Rattle.fip_entries.specs.declared.Fault.{Fault}
use Rattle.fip_entries.specs.Faults.{accepted_clear}
use Rattle.fip_table.specs.Table.{table_end, slots}
use Rattle.fip_plan.specs.Plan.{planned, total, capped, hindrances, weighed}

-- ---- how many images there are
module _ (d : List ℕ) (n : ℕ) (e : n ≡ slots (length d)) where
  -- fewer than are looked at
  pub few_are : n ≤ 64 → n ≡ planned d
  unfolding slots
  few_are h =
      e ∙ chosen (λ (m : ℕ). n ≡ m → m ≡ planned d) (ltb (planned d) 65) (planned d) 65 (λ y q. refl) (λ y q. absurd (omega arith)) e

  pub many_are : (b : Bool) → 64 < n → (ltb 64 (planned d) || b) ≡ true
  unfolding slots
  many_are b h =
      first_or (ltb 64 (planned d)) b (lt-ltb 64 (planned d)
      (chosen (λ (m : ℕ). n ≡ m → 64 < planned d) (ltb (planned d) 65) (planned d) 65 (λ y q. omega arith) (λ y q. let g = ltb-false (planned d) 65 y in omega arith) e))

pub few_slots : (d : List ℕ) → planned d ≤ 64 → slots (length d) ≡ planned d
unfolding slots
few_slots d h = sym (picked _ _ _ _ (lt-ltb (planned d) 65 (omega arith)) refl)

-- ---- how long the package is
module _ (t : ℕ) where
  pub capped_over : 65536 < t → 65537 ≡ capped t
  unfolding capped
  capped_over h = picked _ _ _ _ (lt-ltb 65536 t h) refl

  pub capped_under : (r : ℕ) → r ≡ t → r ≤ 65536 → r ≡ capped t
  unfolding capped
  capped_under r e h = passed _ _ _ _ (le-ltb 65536 t (omega arith)) e

  module _ (r : ℕ) (e : r ≡ capped t) where
    -- it is that, or both are over the most
    capped_low : r ≤ 65536 → r ≡ t
    unfolding capped
    capped_low h = e ∙ chosen (λ (m : ℕ). r ≡ m → m ≡ t) (ltb 65536 t) 65537 t (λ y q. absurd (omega arith)) (λ y q. refl) e

    pub capped_is : t ≤ 65536 → r ≡ t
    unfolding capped
    capped_is h = e ∙ chosen (λ (m : ℕ). m ≡ t) (ltb 65536 t) 65537 t (λ y. absurd (let g = ltb-true 65536 t y in omega arith)) (λ y. refl)

    capped_high : 65536 < r → 65536 < t
    unfolding capped
    capped_high h = chosen (λ (m : ℕ). r ≡ m → 65536 < t) (ltb 65536 t) 65537 t (λ y q. ltb-true 65536 t y) (λ y q. omega arith) e

    module _ (space : ℕ) where
      pub too_long : 65536 < r → (ltb 65536 t || ltb space t) ≡ true
      too_long h = first_or (ltb 65536 t) (ltb space t) (lt-ltb 65536 t (capped_high h))

      pub no_room : r ≤ 65536 → space < r → (ltb 65536 t || ltb space t) ≡ true
      no_room h l = let q = capped_low h in second_or (ltb 65536 t) (ltb space t) (lt-ltb space t (omega arith))

      pub has_room : r ≤ 65536 → r ≤ space → (ltb 65536 t || ltb space t) ≡ false
      has_room h l = let q = capped_low h in neither (ltb 65536 t) (ltb space t) (le-ltb 65536 t (omega arith)) (le-ltb space t (omega arith))

-- the table alone is too long
pub table_over : (d : List ℕ) (n at : ℕ) → at ≡ table_end n → 65536 < at → 65537 ≡ capped (total d n)
unfolding total
table_over d n at e h = capped_over (total d n) (omega arith)

pub ruleset weighings = (stops, goes, ends, said, eq-eqb, ne_eqb, lt-ltb, le-ltb, first_or, second_or, neither, too_long, no_room, has_room)

-- what the tests say of the images counted is what they say of the plan
pub weighed_by : (serial : ℕ) (d : List ℕ) (n room space : ℕ) (r : Result ⊤ Fault) → n ≡ planned d → r ≡ sieve Err (hindrances serial d n room space) (Ok tt) → r ≡ weighed serial d room space
unfolding weighed
weighed_by serial d n room space r e h = rw e at h

-- ---- a plan that is not refused
module _ (serial : ℕ) (d : List ℕ) (room space : ℕ) (e : weighed serial d room space ≡ Ok tt) where
  pub unhindered : Clear (hindrances serial d (planned d) room space)
  unfolding weighed
  unhindered = (accepted_clear (hindrances serial d (planned d) room space) tt tt e).0

  pub few_planned : planned d ≤ 64
  unfolding hindrances Clear
  few_planned = ltb-false 64 (planned d) (not_first _ _ unhindered.1.0)

  pub short_planned : total d (planned d) ≤ 65536
  unfolding hindrances Clear
  short_planned = ltb-false 65536 (total d (planned d)) (not_first _ _ unhindered.1.1.1.1.0)

  pub roomy_planned : total d (planned d) ≤ space
  unfolding hindrances Clear
  roomy_planned = ltb-false space (total d (planned d)) (not_second (ltb 65536 (total d (planned d))) _ unhindered.1.1.1.1.0)
