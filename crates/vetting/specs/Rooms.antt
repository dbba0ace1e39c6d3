-- Where entries and tables lie among the addresses.
use Rattle.std.specs.Prelude.{◌≡◌, refl, ℕ, zero, suc, ◌+◌, ◌-◌, ◌*◌, ◌%◌, ◌≤◌, ◌<◌}
use Rattle.std.proofs.Common.{mul-le-mul_right, suc-mul, arith}
use Rattle.descriptors.specs.Numbers.{span}
use Rattle.vetting.specs.Pass.{place}

-- the addresses from b on of one entry
pub record Part (k b : ℕ) : Type 0 where
  pub level : k ≤ 2
  pub ends : b + span k ≤ 549755813888
  pub aligned : b % span k ≡ 0

-- the addresses from a on of one table
pub record Room (k a : ℕ) : Type 0 where
  pub level : k ≤ 2
  pub ends : a + 512 * span k ≤ 549755813888
  pub aligned : a % (512 * span k) ≡ 0

-- a table's region is what the entry above it has
pub region_is : (k : ℕ) → suc k ≤ 2 → 512 * span k ≡ span (suc k)
unfolding span
region_is zero h = refl
region_is (suc zero) h = refl
region_is (suc (suc k)) h = absurd (omega arith)

pub part_aligned : (k a i : ℕ) → k ≤ 2 → a % (512 * span k) ≡ 0 → place k a i % span k ≡ 0
unfolding span
part_aligned zero a i h e = omega arith
part_aligned (suc zero) a i h e = omega arith
part_aligned (suc (suc zero)) a i h e = omega arith
part_aligned (suc (suc (suc k))) a i h e = absurd (omega arith)

-- two addresses of one entry are as far apart as what they have past the multiples of its span
pub apart : (k b x y : ℕ) → b % span k ≡ 0 → b ≤ x → x ≤ y → y < b + span k → y % span k ≡ x % span k + (y - x)
unfolding span
apart zero b x y a l m u = omega arith
apart (suc zero) b x y a l m u = omega arith
apart (suc (suc k)) b x y a l m u = omega arith

-- an entry's part ends in its table's region
pub entry_ends : (s i n : ℕ) → i < n → i * s + s ≤ n * s
entry_ends s i n h = let z : suc i * s ≤ n * s = mul-le-mul_right s h in omega (arith, suc-mul i s)

module _ (k a i : ℕ) (r : Room k a) (h : i < 512) where
  pub place_fits : (s : ℕ) → s ≡ span k → a + i * s ≤ 549755813888
  place_fits s e = omega (arith, entry_ends s i 512 h, r.ends)

  pub part_of : (b : ℕ) → b ≡ place k a i → Part k b
  part_of b e =
      rw e (record { level = r.level; ends = omega (arith, entry_ends (span k) i 512 h, r.ends); aligned = part_aligned k a i r.level r.aligned })

  pub part_ends : (b : ℕ) → b ≡ place k a i → (s : ℕ) → s ≡ span k → b + s ≤ 549755813888
  part_ends b e s f = omega (arith, (part_of b e).ends)

pub room_of : (k b : ℕ) → Part k b → (k ≡ 0 → ⊥) → Room (k - 1) b
room_of zero b p d = absurd (d refl)
room_of (suc k) b p d =
    let z : suc k - 1 ≡ k = omega arith in
    let r = region_is k p.level in
    rw z (record { level = omega (arith, p.level); ends = rw r p.ends; aligned = rw r p.aligned })

pub top_room : Room 2 0
unfolding span
top_room = record { level = omega arith; ends = omega arith; aligned = refl }
