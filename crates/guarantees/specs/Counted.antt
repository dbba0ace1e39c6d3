-- The number that is told of the cores that are ON is their plain count, core by core.
use Rattle.std.specs.Prelude.{◌≡◌, Bool, true, false}
use Rattle.std.proofs.Math.Path.{refl}
use Prim.Native.Nat.{ℕ, zero, suc, ◌+◌, ◌-◌, ◌*◌, ◌/◌, ◌%◌, ◌≤◌}
use native.Mathlib.Omega.{arith}
use Rattle.std.specs.Int.Count.{ones, ones_step}
use Rattle.rules.specs.Choice.{pick}
use Rattle.rules.specs.Sizes.{most_cores}
use Rattle.cores.specs.Count.{bit, bit_le}
use Rattle.cores.specs.Power.{is_on}
use Rattle.cores.specs.Cores.{power, on_count, Masked, masked_none, masked_more, masked_all, mask_counts}
use Rattle.frames.specs.Frames.{Machine}
use Rattle.guarantees.specs.Statements.{on_below}

bit_picks : (b : Bool) → bit b ≡ pick b 1 0
unfolding bit pick
bit_picks true = refl
bit_picks false = refl

ones_digit : (d n : ℕ) → d ≤ 1 → ones (d + 2 * n) ≡ d + ones n
ones_digit d n h =
    let low : (d + 2 * n) % 2 ≡ d = omega arith in
    let rest : (d + 2 * n) / 2 ≡ n = omega arith in
    rw (ones_step (d + 2 * n), low, rest)

module _ (m : Machine) where
  -- the mask of the cores from k on has a one for each of the eight that is not counted below k
  record Split (k : ℕ) : Type 0 where
    mask : ℕ
    is : Masked m.powers k mask
    counts : ones mask + on_below m k ≡ on_below m most_cores

  split_none : Split most_cores
  unfolding ones
  split_none = let z : ones 0 ≡ 0 = refl in record { mask = 0; is = masked_none m.powers; counts = omega (arith, z) }

  split_more : (k : ℕ) → Split (suc k) → Split k
  unfolding on_below
  split_more k s =
      let back : suc k - 1 ≡ k = omega arith in
      let d = bit (is_on (power m.powers k)) in
      let n = ones_digit d s.mask (bit_le _) in
      record {
        mask = d + 2 * s.mask;
        is = rw back at (masked_more m.powers (suc k) s.mask d s.is (omega arith) (rw back));
        counts = omega (arith, n, s.counts, bit_picks (is_on (power m.powers k)));
      }

  split_all : (k : ℕ) → Split k → Split 0
  split_all zero s = s
  split_all (suc k) s = split_all k (split_more k s)

  pub on_counted : on_count m.powers ≡ on_below m most_cores
  unfolding on_below
  on_counted =
      let s = split_all most_cores split_none in
      let n = mask_counts m.powers s.mask (masked_all m.powers 0 s.mask s.is (omega arith)) in
      omega (arith, n, s.counts)
