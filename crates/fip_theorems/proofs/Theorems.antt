-- The theorems: what is stated holds of every write that keeps the writer's promise, whatever the numbers and the bytes.
use Rattle.std.proofs.Math.Path.{◌≡◌, refl, sym, ap}
use Rattle.std.proofs.Common.{◌∙◌, take_at, drop_at}
use Rattle.std.specs.Prelude.{ℕ, ◌+◌, ◌<◌, take, drop, Result, Ok, Err}
use mathlib.Core.List.{List, ◌++◌}
use native.Mathlib.Omega.{arith}
use Rattle.std.proofs.Math.ListN.{length}
use Rattle.tools.specs.Laid.{laid, length_laid}
use Rattle.fip_entries.specs.declared.Fault.{Fault}
use Rattle.fip_entries.specs.Faults.{fault_among}
use Rattle.fip_plan.specs.Plan.{total, planned, hindrances, weighed}
use Rattle.fip_write.specs.Packed.{packed, length_packed}
use Rattle.fip_write.specs.Writing.{wrote, wrote_done, wrote_not}
use Rattle.fip_theorems.specs.Statements.{Done, Denied}
use Rattle.fip_theorems.specs.Over.{laid_is}
use Rattle.fip_theorems.specs.Fit.{fit}
use Rattle.fip_theorems.proofs.Back.{read_back}

-- ---- a write, whatever it answers and leaves of the space o, if it keeps the writer's promise
module _ (serial flags : ℕ) (d pool o : List ℕ) (answer : Result ℕ Fault) (o' : List ℕ) (promise : (answer, o') ≡ wrote serial flags d pool o) where
  -- A plan that breaks no rule is written, and reading gives everything back.
  pub any_written : serial < 0x100000000 → flags < 0x10000000000000000 → weighed serial d (length pool) (length o) ≡ Ok tt → Done serial flags d pool o answer o'
  any_written u32 u64 e =
      let n = planned d in
      let l = total d n in
      let p = packed serial flags d pool n in
      let f = fit serial d (length pool) (length o) e in
      let r = promise ∙ sym (wrote_done serial flags d pool o n l (laid o 0 p) e refl refl refl) in
      let s : o' ≡ laid o 0 p = ap (λ (x : Result ℕ Fault × List ℕ). x.1) r in
      let q : length p ≡ l = length_packed serial flags d pool n in
      let i : laid o 0 p ≡ p ++ drop (0 + l) o = laid_is o p 0 l q (omega (arith, f.roomy)) in
      let z : 0 + l ≡ l = omega arith in
      let t : take l o' ≡ p = rw (s, i) (take_at p (drop (0 + l) o) l q) in
      record {
        answered = ap (λ (x : Result ℕ Fault × List ℕ). x.0) r;
        as_long = rw s (length_laid o 0 p);
        past = rw (s, i, z) (drop_at p (drop l o) l q);
        written = rw t (read_back serial flags d pool (length o) u32 u64 f);
      }

  -- Any other plan is refused with the first rule that it breaks, and no byte changes.
  pub any_refused : (f : Fault) → weighed serial d (length pool) (length o) ≡ Err f → Denied f o answer o'
  unfolding weighed hindrances
  any_refused f e =
      let r = promise ∙ sym (wrote_not serial flags d pool o f (sym e)) in
      record {
        answered = ap (λ (x : Result ℕ Fault × List ℕ). x.0) r;
        kept = ap (λ (x : Result ℕ Fault × List ℕ). x.1) r;
        reason = fault_among (hindrances serial d (planned d) (length pool) (length o)) tt f e;
      }
