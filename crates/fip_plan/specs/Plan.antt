-- A plan: an entry for each image of a package, as the package's table has it, but with its offset into the image bytes that are lent. No end entry belongs to it.
use Rattle.std.specs.Prelude.{◌≡◌, Bool, true, false, ◌||◌, ℕ, zero, suc, ◌+◌, ◌-◌, ◌/◌, ◌≤◌, ◌<◌, ltb, eqb, length, ⊤, Result, Ok, Err}
use Rattle.std.proofs.Math.Path.{refl}
use Rattle.std.proofs.Common.{ap, ◌∙◌, add-one, lt-ltb, le-ltb}
use mathlib.Core.List.{List, [], ◌∷◌}
use native.Mathlib.Omega.{arith}
use Rattle.std.proofs.Math.Seq.{take_all}
use Rattle.rules.specs.Choice.{pick, picked, passed}
use Rattle.tools.specs.Search.{any}
use Rattle.rules.specs.Tests.{Test, refuses, sieve}
use Rattle.tools.specs.Laid.{laid}
use Rattle.fip_entries.specs.declared.Fault.{Fault}
use Rattle.fip_entries.specs.declared.Fault.TheVariants.{WrongHeader, WrongTable, SameIdentifiers, WrongPlace, NoRoom}
use Rattle.fip_entries.specs.Entries.{entry, size}
use Rattle.fip_table.specs.Table.{blank, doubled, strays, table_end}
use Rattle.fip_lay.specs.Bytes.{copied, entry_of, copied_is}

-- how many images a plan names: its whole entries
abbrev pub planned : List ℕ → ℕ
planned d = length d / 40

-- whether the plan has an entry for image k, and the plan with that entry set, or as it was
unfoldable pub planned_at : List ℕ → ℕ → List ℕ → ℕ → ℕ → ℕ → Bool × List ℕ
planned_at d k id offset size flags = pick (ltb k (planned d)) (true, laid d (entry k) (entry_of id offset size flags)) (false, d)

-- how many bytes n images from image k on have
unfoldable pub sizes : List ℕ → ℕ → ℕ → ℕ
sizes d k zero = 0
sizes d k (suc n) = size d k + sizes d (suc k) n

-- how long the package of n images is
unfoldable pub total : List ℕ → ℕ → ℕ
total d n = table_end n + sizes d 0 n

-- a length, or one more than the most where it is longer than that
unfoldable pub capped : ℕ → ℕ
capped t = pick (ltb 65536 t) 65537 t

-- ---- what is tested of n images, in this order, where `room` image bytes and a space of `space` bytes are lent
unfoldable pub hindrances : ℕ → List ℕ → ℕ → ℕ → ℕ → List (Test Fault)
hindrances serial d n room space =
    refuses (eqb serial 0) WrongHeader
    ∷ refuses (ltb 64 n || any (blank d) 0 n) WrongTable
    ∷ refuses (doubled d n) SameIdentifiers
    ∷ refuses (strays d room n) WrongPlace
    ∷ refuses (ltb 65536 (total d n) || ltb space (total d n)) NoRoom
    ∷ []

-- nothing stands against it, or the first hindrance
unfoldable pub weighed : ℕ → List ℕ → ℕ → ℕ → Result ⊤ Fault
weighed serial d room space = sieve Err (hindrances serial d (planned d) room space) (Ok tt)

-- ---- what planning an image leaves
module _ (d : List ℕ) (k : ℕ) (id : List ℕ) (offset size flags : ℕ) where
  pub plan_kept : planned d ≤ k → (false, d) ≡ planned_at d k id offset size flags
  unfolding planned_at
  plan_kept h = passed _ _ _ _ (le-ltb k (planned d) h) refl

  pub plan_laid :
      (p : List ℕ) → k < planned d → length id ≡ 16 → p ≡ laid d (0 + entry k) (entry_of (copied id 0 16) offset size flags) → (true, p) ≡ planned_at d k id offset size flags
  unfolding planned_at
  plan_laid p h l e =
      let z : 0 + entry k ≡ entry k = omega arith in
      let w : copied id 0 16 ≡ id = copied_is id 0 16 (omega arith) ∙ take_all 16 id (omega arith) in
      picked _ _ _ _ (lt-ltb k (planned d) h) (ap (λ (q : List ℕ). (true, q)) (e ∙ rw (z, w)))

-- ---- where each image begins
sizes_next : (d : List ℕ) (k n : ℕ) → 0 < n → sizes d k n ≡ size d k + sizes d (k + 1) (n - 1)
unfolding sizes
sizes_next d k zero h = absurd (omega arith)
sizes_next d k (suc n) h = let e : suc n - 1 ≡ n = omega arith in rw (e, add-one)

sizes_none : (d : List ℕ) (k n : ℕ) → n ≤ 0 → sizes d k n ≡ 0
unfolding sizes
sizes_none d k zero h = refl
sizes_none d k (suc n) h = absurd (omega arith)

-- of n images k have been passed, and the first that is left begins at `at`
pub record Reached (d : List ℕ) (n k at : ℕ) : Type 0 where
  pub passed : k ≤ n
  pub reaches : at + sizes d k (n - k) ≡ total d n

pub reached_start : (d : List ℕ) (n at : ℕ) → at ≡ table_end n → Reached d n 0 at
unfolding total
reached_start d n at e = let z : n - 0 ≡ n = omega arith in record { passed = omega arith; reaches = rw (e, z) }

module _ (d : List ℕ) (n k at : ℕ) (i : Reached d n k at) where
  module _ (z : ℕ) (e : z ≡ size d k) (h : k < n) where
    more : at + z + sizes d (k + 1) (n - k - 1) ≡ total d n
    more = omega (arith, i.reaches, sizes_next d k (n - k) (omega arith))

    pub reached_next : Reached d n (k + 1) (at + z)
    reached_next = let y : n - (k + 1) ≡ n - k - 1 = omega arith in record { passed = omega arith; reaches = rw y more }

    -- image k lies in the package
    pub reached_in : at + z ≤ total d n
    reached_in = omega (arith, more)

  pub reached_end : n ≤ k → at ≡ total d n
  reached_end h = omega (arith, i.reaches, sizes_none d k (n - k) (omega arith))
