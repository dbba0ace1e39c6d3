-- What a handler does not know, and what is not for the caller's world, in the paper's numbers: such a call is refused with -1.
use Rattle.std.specs.Prelude.{◌≡◌, List, [], ◌∷◌, ◌⊎◌, ℕ, ◌≤◌, ◌<◌}
use Rattle.rules.specs.declared.Reason.TheVariants as Reason

-- the key is one of these, or none of them
abbrev pub OneOf : ℕ → List ℕ → Type 0
OneOf k [] = ⊥
OneOf k (n ∷ ns) = (k ≡ n) ⊎ OneOf k ns

abbrev pub NoneOf : ℕ → List ℕ → Type 0
NoneOf k [] = Unit {0}
NoneOf k (n ∷ ns) = (k ≡ n → ⊥) × NoneOf k ns

-- by the handler, a call that it does not know; handler 3 knows every one
pub data Unknown : ℕ → ℕ → Type 0 where
  by_architecture : (k : ℕ) → NoneOf k (0x80000000 ∷ 0x80000001 ∷ []) → Unknown 0 k
  by_board : (k : ℕ) → NoneOf k (0xC2000010 ∷ 0xC2000011 ∷ 0xC2000012 ∷ 0xC2000020 ∷ 0xC2000021 ∷ 0xC2000022 ∷ 0xC2000030 ∷ []) → Unknown 1 k
  by_standard : (k : ℕ) → NoneOf k (0x84000000 ∷ 0x84000002 ∷ 0x84000003 ∷ 0xC4000003 ∷ 0x84000004 ∷ 0xC4000004 ∷ 0x8400000A ∷ 0xC40001B0 ∷ 0xC40001B1 ∷ [])
      → (k < 0xC4000150) ⊎ (0xC400018F < k) → Unknown 2 k

-- by the handler and the world, a call that it knows and that is for another world
pub data Barred : ℕ → ℕ → ℕ → Type 0 where
  of_power : (k w : ℕ) → OneOf k (0x84000000 ∷ 0x84000002 ∷ 0x84000003 ∷ 0xC4000003 ∷ 0x84000004 ∷ 0xC4000004 ∷ 0x8400000A ∷ []) → (w ≡ 2 → ⊥) → Barred 2 k w
  of_granules : (k w : ℕ) → OneOf k (0xC40001B0 ∷ 0xC40001B1 ∷ []) → (w ≡ 3 → ⊥) → Barred 2 k w
  of_pages : (k w : ℕ) → OneOf k (0xC2000010 ∷ 0xC2000011 ∷ []) → (w ≡ 1 → ⊥) → (w ≡ 3 → ⊥) → Barred 1 k w
  to_realm : (k w : ℕ) → 0xC4000150 ≤ k → k ≤ 0xC400018E → (w ≡ 2 → ⊥) → Barred 2 k w
  from_realm : (w : ℕ) → (w ≡ 3 → ⊥) → Barred 2 0xC400018F w
  to_secure : (k w : ℕ) → (k ≡ 0xF2000000 → ⊥) → (w ≡ 2 → ⊥) → Barred 3 k w
  from_secure : (w : ℕ) → (w ≡ 1 → ⊥) → Barred 3 0xF2000000 w
