-- The bytes of numbers: the lowest first, as a number lies in memory, and the highest first, once its bytes are swapped.
use Rattle.std.specs.Prelude.{◌≡◌, refl, List, [], ◌∷◌, ◌++◌, length, set, replicate}
use Rattle.std.proofs.Common.{◌∙◌, add-zero}
use Prim.Native.Nat.{ℕ, zero, suc, ◌+◌, ◌-◌, ◌*◌, ◌/◌, ◌%◌, ◌≤◌, ◌<◌}
use native.Mathlib.Omega.{arith}
use Rattle.std.proofs.Math.ListN.{length-set}
use Rattle.tools.specs.Laid.{laid}
use Rattle.hex_digits.specs.Swap.{swap, quotient, rest, swap_two_lem, swap_four_lem, swap_eight}

-- n bytes of a number, the lowest first
unfoldable pub low_bytes : ℕ → ℕ → List ℕ
low_bytes v zero = []
low_bytes v (suc n) = v % 256 ∷ low_bytes (v / 256) n

-- four numbers, the highest byte of each first
unfoldable pub four_of : ℕ → ℕ → ℕ → ℕ → List ℕ
four_of x0 x1 x2 x3 = low_bytes (swap x0) 8 ++ (low_bytes (swap x1) 8 ++ (low_bytes (swap x2) 8 ++ low_bytes (swap x3) 8))

-- ---- a number's bytes, one after the other
-- y is what is left of the number when i of its bytes are put
pub record Lower (out₀ out : List ℕ) (at v i y : ℕ) : Type 0 where
  pub size : length out ≡ length out₀
  pub upto : i ≤ 8
  pub left : laid out (at + i) (low_bytes y (8 - i)) ≡ laid out₀ at (low_bytes v 8)

pub lower_none : (out : List ℕ) (at v : ℕ) → Lower out out at v 0 v
lower_none out at v = record { size = refl; upto = omega arith; left = rw add-zero }

module _ (out₀ out : List ℕ) (at v i y : ℕ) (p : Lower out₀ out at v i y) where
  pub lower_more : i < 8 → Lower out₀ (set out (at + i) (y % 256)) at v (i + 1) (y / 256)
  unfolding low_bytes laid
  lower_more h =
      let n : 8 - i ≡ suc (8 - (i + 1)) = omega arith in
      let k : at + (i + 1) ≡ suc (at + i) = omega arith in
      record {
        size = length-set out (at + i) (y % 256) ∙ p.size;
        upto = omega arith;
        left = rw k (rw n at p.left);
      }

  pub lower_all : 8 ≤ i → out ≡ laid out₀ at (low_bytes v 8)
  unfolding low_bytes laid
  lower_all h = let e : i ≡ 8 = omega (arith, p.upto) in rw e at p.left

pub ruleset lowering = (lower_none, lower_more, lower_all)

-- four numbers, one after the other, in 32 bytes
pub four_laid :
    (z o₁ o₂ o₃ o₄ : List ℕ) (x0 x1 x2 x3 t0 t1 t2 t3 : ℕ) → t0 ≡ swap x0 → t1 ≡ swap x1 → t2 ≡ swap x2 → t3 ≡ swap x3 → z ≡ replicate 32 0 →
    o₁ ≡ laid z 0 (low_bytes t0 8) → o₂ ≡ laid o₁ 8 (low_bytes t1 8) → o₃ ≡ laid o₂ 16 (low_bytes t2 8) → o₄ ≡ laid o₃ 24 (low_bytes t3 8) → o₄ ≡ four_of x0 x1 x2 x3
unfolding four_of laid low_bytes
four_laid z o₁ o₂ o₃ o₄ x0 x1 x2 x3 t0 t1 t2 t3 a b c d q e f g h = rw (h, g, f, e, q, a, b, c, d)

-- ---- the bytes of a sum of bytes
low_next : (n a w v : ℕ) (t : List ℕ) → a < 256 → v ≡ w * 256 + a → low_bytes w n ≡ t → low_bytes v (suc n) ≡ a ∷ t
unfolding low_bytes
low_next n a w v t h e f = rw (rest v w 256 a e h, quotient v w 256 a e h, f)

eight_is :
    (a b c d e f g h v : ℕ) → a < 256 → b < 256 → c < 256 → d < 256 → e < 256 → f < 256 → g < 256 → h < 256 →
    v ≡ a + b * 256 + (c + d * 256) * 0x10000 + (e + f * 256 + (g + h * 256) * 0x10000) * 0x100000000 → low_bytes v 8 ≡ a ∷ b ∷ c ∷ d ∷ e ∷ f ∷ g ∷ h ∷ []
unfolding low_bytes
eight_is a b c d e f g h v ga gb gc gd ge gf gg gh q =
    let w6 : ℕ = h * 256 + g in
    let w5 : ℕ = w6 * 256 + f in
    let w4 : ℕ = w5 * 256 + e in
    let w3 : ℕ = w4 * 256 + d in
    let w2 : ℕ = w3 * 256 + c in
    let w1 : ℕ = w2 * 256 + b in
    low_next 7 a w1 v _ ga (omega arith) (low_next 6 b w2 w1 _ gb refl (low_next 5 c w3 w2 _ gc refl (low_next 4 d w4 w3 _ gd refl
    (low_next 3 e w5 w4 _ ge refl (low_next 2 f w6 w5 _ gf refl (low_next 1 g h w6 _ gg refl (low_next 0 h 0 h [] gh (omega arith) refl)))))))

-- with its bytes swapped a number's lowest byte is the highest
pub swapped_bytes :
    (a b c d e f g h : ℕ) → a < 256 → b < 256 → c < 256 → d < 256 → e < 256 → f < 256 → g < 256 → h < 256 →
    low_bytes (swap (a + b * 256 + (c + d * 256) * 0x10000 + (e + f * 256 + (g + h * 256) * 0x10000) * 0x100000000)) 8 ≡ h ∷ g ∷ f ∷ e ∷ d ∷ c ∷ b ∷ a ∷ []
swapped_bytes a b c d e f g h ga gb gc gd ge gf gg gh =
    eight_is h g f e d c b a _ gh gg gf ge gd gc gb ga
    (swap_eight (a + b * 256 + (c + d * 256) * 0x10000) (e + f * 256 + (g + h * 256) * 0x10000) (omega arith)
    ∙ rw (swap_four_lem (a + b * 256) (c + d * 256) (omega arith), swap_four_lem (e + f * 256) (g + h * 256) (omega arith), swap_two_lem a b ga, swap_two_lem c d gc, swap_two_lem e f ge, swap_two_lem g h gg)
    (omega arith))

pub mod_byte : (v : ℕ) → v % 256 < 256
mod_byte v = omega arith
