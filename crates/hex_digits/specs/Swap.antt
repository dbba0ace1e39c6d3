-- A number with its bytes in the other order.
use Rattle.std.specs.Prelude.{◌≡◌, ℕ, ◌+◌, ◌*◌, ◌/◌, ◌%◌, ◌<◌}
use Rattle.std.proofs.Common.{add_comm}
use Rattle.std.proofs.Math.Arith.{digits_div, digits_mod}

-- two bytes in the other order; four of them; eight of them
abbrev pub swap_two : ℕ → ℕ
swap_two v = v % 256 * 0x100 + v / 0x100

abbrev pub swap_four : ℕ → ℕ
swap_four v = swap_two (v % 0x10000) * 0x10000 + swap_two (v / 0x10000)

unfoldable pub swap : ℕ → ℕ
swap v = swap_four (v % 0x100000000) * 0x100000000 + swap_four (v / 0x100000000)

-- the quotient and the rest, where both are known
module _ (v q m r : ℕ) (e : v ≡ q * m + r) (h : r < m) where
  pub quotient : v / m ≡ q
  quotient = rw e (digits_div q h)

  pub rest : v % m ≡ r
  rest = rw e (digits_mod q h)

-- ---- a number by its halves
module _ (m a b : ℕ) (h : a < m) where
  lower : (a + b * m) % m ≡ a
  lower = rest (a + b * m) b m a (add_comm a (b * m)) h

  upper : (a + b * m) / m ≡ b
  upper = quotient (a + b * m) b m a (add_comm a (b * m)) h

pub swap_two_lem : (a b : ℕ) → a < 256 → swap_two (a + b * 0x100) ≡ a * 0x100 + b
swap_two_lem a b h = rw (lower 0x100 a b h, upper 0x100 a b h)

pub swap_four_lem : (a b : ℕ) → a < 0x10000 → swap_four (a + b * 0x10000) ≡ swap_two a * 0x10000 + swap_two b
swap_four_lem a b h = rw (lower 0x10000 a b h, upper 0x10000 a b h)

pub swap_eight : (a b : ℕ) → a < 0x100000000 → swap (a + b * 0x100000000) ≡ swap_four a * 0x100000000 + swap_four b
unfolding swap
swap_eight a b h = rw (lower 0x100000000 a b h, upper 0x100000000 a b h)
