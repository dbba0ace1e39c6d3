-- What the writer answers and leaves, for any plan, image bytes and space. The serial number has 4 bytes and each flags 8, as their types say.
use Rattle.std.specs.Prelude.{◌≡◌, List, ℕ, ◌≤◌, length, Result, Ok, Err}
use Rattle.std.proofs.Common.{sym, ◌∙◌}
use Rattle.rules.specs.Tests.{sieve}
use Rattle.tools.specs.Laid.{laid}
use Rattle.fip_entries.specs.declared.Fault.{Fault}
use Rattle.fip_entries.specs.Faults.{clear_stands, fault_denies}
use Rattle.fip_table.specs.Table.{slots}
use Rattle.fip_plan.specs.Plan.{planned, total, hindrances, weighed}
use Rattle.fip_plan.specs.Weighing.{few_slots, unhindered, few_planned, short_planned}
use Rattle.fip_write.specs.Packed.{packed}

-- a refused write: the fault, and the space as it was
unfoldable pub kept : List ℕ → Fault → Result ℕ Fault × List ℕ
kept o f = (Err f, o)

-- the answer and the space o after it: the package over its first bytes, or nothing
unfoldable pub wrote : ℕ → ℕ → List ℕ → List ℕ → List ℕ → Result ℕ Fault × List ℕ
wrote serial flags d pool o =
    sieve (kept o) (hindrances serial d (planned d) (length pool) (length o)) (Ok (total d (planned d)), laid o 0 (packed serial flags d pool (planned d)))

-- ---- a plan that is not refused, and one that is
module _ (serial flags : ℕ) (d pool o : List ℕ) where
  pub wrote_done :
      (n r : ℕ) (p : List ℕ) → weighed serial d (length pool) (length o) ≡ Ok tt → n ≡ planned d → r ≡ total d n → p ≡ laid o 0 (packed serial flags d pool n) →
      (Ok r, p) ≡ wrote serial flags d pool o
  unfolding wrote
  wrote_done n r p e q f g =
      rw (g, f, q) (clear_stands (kept o) (hindrances serial d (planned d) (length pool) (length o)) _ (unhindered serial d (length pool) (length o) e))

  pub wrote_not : (f : Fault) → Err f ≡ weighed serial d (length pool) (length o) → (Err f, o) ≡ wrote serial flags d pool o
  unfolding wrote weighed kept
  wrote_not f e = fault_denies (kept o) (hindrances serial d (planned d) (length pool) (length o)) tt _ f e

-- ---- what the code has in hand: a plan that is weighed, and n images
module _ (serial : ℕ) (d : List ℕ) (room space n : ℕ) (e : Ok tt ≡ weighed serial d room space) (q : n ≡ slots (length d)) where
  all_planned : n ≡ planned d
  all_planned = q ∙ few_slots d (few_planned serial d room space (sym e))

  pub fits : (n ≤ 64) × (total d n ≤ 65536)
  fits = rw all_planned (few_planned serial d room space (sym e), short_planned serial d room space (sym e))

pub wrote_filled :
    (serial flags : ℕ) (d pool o : List ℕ) (n r : ℕ) (p : List ℕ) → Ok tt ≡ weighed serial d (length pool) (length o) → n ≡ slots (length d) →
    r ≡ total d n → p ≡ laid o 0 (packed serial flags d pool n) → (Ok r, p) ≡ wrote serial flags d pool o
wrote_filled serial flags d pool o n r p e q f g =
    wrote_done serial flags d pool o n r p (sym e) (all_planned serial d (length pool) (length o) n e q) f g
