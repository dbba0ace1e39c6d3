-- Bytes laid over others: what stands there afterwards.
use Rattle.std.specs.Prelude.{◌≡◌, refl, List, ◌++◌, ℕ, ◌+◌, ◌-◌, ◌≤◌, length, take, drop}
use Rattle.std.proofs.Common.{◌∙◌, append_assoc, arith, length-take-le}
use Rattle.std.proofs.Math.Seq.{sets-eq}
use Rattle.tools.specs.Laid.{laid}
use Rattle.fip_lay.specs.Bytes.{copied}
use Rattle.fip_theorems.specs.Bytes.{copied_front, copied_drop, copied_take}
use Rattle.fip_theorems.specs.Layout.{first_part, second_part}

module _ (o w : List ℕ) (at n : ℕ) (e : length w ≡ n) (h : at + n ≤ length o) where
  pub laid_is : laid o at w ≡ take at o ++ (w ++ drop (at + n) o)
  unfolding laid
  laid_is = sets-eq w o at (omega arith) ∙ rw (e, append_assoc)

  before_long : length (take at o) ≡ at
  before_long = length-take-le at o (omega arith)

  -- what was laid
  pub laid_here : copied (laid o at w) at n ≡ w
  laid_here = rw laid_is (second_part (take at o) (w ++ drop (at + n) o) at before_long w at 0 n (omega arith) (first_part w (drop (at + n) o) n e))

  -- what was there, before it and behind it
  pub laid_before : (a m : ℕ) → a + m ≤ at → copied (laid o at w) a m ≡ copied o a m
  laid_before a m l = rw laid_is (copied_front (take at o) (w ++ drop (at + n) o) a m (omega (arith, before_long)) ∙ copied_take o at a m l)

  pub laid_behind : (a m : ℕ) → at + n ≤ a → copied (laid o at w) a m ≡ copied o a m
  laid_behind a m l =
      let z : at + n + (a - (at + n)) ≡ a = omega arith in
      rw laid_is
      (second_part (take at o) (w ++ drop (at + n) o) at before_long _ a (n + (a - (at + n))) m (omega arith)
      (second_part w (drop (at + n) o) n e _ _ (a - (at + n)) m refl (copied_drop o (at + n) (a - (at + n)) m ∙ rw z)))
