-- An entry: an identifier of 16 bytes, then offset, size and flags of the image, 8 bytes each. Of a package's table, which follows the header, offsets still count from the package's first byte.
use Rattle.std.specs.Prelude.{◌≡◌, Bool, true, not, ◌&&◌, List, ◌⊎◌, ℕ, zero, suc, ◌+◌, ◌*◌, ◌≤◌, ◌<◌, ltb, eqb, get_or, replicate}
use Rattle.std.proofs.Math.Bool.{false}
use Rattle.std.proofs.Math.Path.{refl}
use Rattle.std.specs.List.{list_all, range_with_len}
use Rattle.std.proofs.Math.Logic.{inl, inr}
use Rattle.std.proofs.Common.{⊎_elim, ◌∙◌, add-one, arith}
use borrow.Author.Tests.{ltb-false, le-ltb, eqb-true, eqb-false, eq-eqb, ne_eqb}
use Rattle.std.proofs.lemmas.List.{get_or-replicate}
use Rattle.rules.specs.Choice.{either, left_false, right_false, not_true}
use Rattle.tools.specs.Search.{all, all_at, all_if}
use Rattle.fip_entries.specs.Numbers.{eight}

-- where entry k begins
abbrev pub entry : ℕ → ℕ
entry k = 40 * k

unfoldable pub offset : List ℕ → ℕ → ℕ
offset t k = eight t (entry k + 16)

unfoldable pub size : List ℕ → ℕ → ℕ
size t k = eight t (entry k + 24)

unfoldable pub flags : List ℕ → ℕ → ℕ
flags t k = eight t (entry k + 32)

-- ---- identifiers
-- byte i of the identifier at a in s is that of the one at b in t
unfoldable pub agrees : List ℕ → ℕ → List ℕ → ℕ → ℕ → Bool
agrees s a t b i = eqb (get_or s (a + i) 0) (get_or t (b + i) 0)

-- both are one identifier
unfoldable pub same : List ℕ → ℕ → List ℕ → ℕ → Bool
same s a t b = all (agrees s a t b) 0 16

-- the identifier of zeros, which no image has
abbrev pub zeros : List ℕ
zeros = replicate 16 0

-- ---- images
-- image k does not end within the first `room` bytes; one of no bytes may begin where they end
unfoldable pub outside : List ℕ → ℕ → ℕ → Bool
outside t room k = ltb room (offset t k + size t k)

-- image i begins before image j ends
unfoldable pub begins : List ℕ → ℕ → ℕ → Bool
begins t i j = ltb (offset t i) (offset t j + size t j)

-- image j has bytes, and if image i has some too they share one
unfoldable pub shares : List ℕ → ℕ → ℕ → Bool
shares t i j = not (eqb (size t j) 0) && (begins t i j && begins t j i)

-- ---- identifiers that are compared
-- a chain over the numbers of a range asks what `all` asks
all_list : (p : ℕ → Bool) (a n : ℕ) → list_all p (range_with_len a n) ≡ all p a n
unfolding all
all_list p a zero = refl
all_list p a (suc n) = rw (all_list p (a + 1) n, add-one)

pub agrees_all : (s : List ℕ) (a : ℕ) (t : List ℕ) (b : ℕ) (r : Bool) → r ≡ list_all (agrees s a t b) (range_with_len 0 16) → r ≡ same s a t b
unfolding same
agrees_all s a t b r e = e ∙ all_list (agrees s a t b) 0 16

-- ---- what the tests mean
module _ (s : List ℕ) (a : ℕ) (t : List ℕ) (b : ℕ) where
  pub same_bytes : same s a t b ≡ true → (i : ℕ) → i < 16 → get_or s (a + i) 0 ≡ get_or t (b + i) 0
  unfolding same agrees
  same_bytes e i h = eqb-true (get_or s (a + i) 0) (get_or t (b + i) 0) (all_at (agrees s a t b) 0 16 i e (omega arith) (omega arith))

  pub bytes_same : ((i : ℕ) → i < 16 → get_or s (a + i) 0 ≡ get_or t (b + i) 0) → same s a t b ≡ true
  unfolding same agrees
  bytes_same f = all_if (agrees s a t b) 0 16 (λ i h l. eq-eqb (get_or s (a + i) 0) (get_or t (b + i) 0) (f i (omega arith)))

pub zeros_byte : (i : ℕ) → i < 16 → get_or zeros (0 + i) 0 ≡ 0
zeros_byte i h = let e : 0 + i ≡ i = omega arith in rw e (get_or-replicate 16 i 0 0 h)

-- where the first of two tests passes, both do unless the second fails
pub rest_false : (a b : Bool) → (a && b) ≡ false → a ≡ true → b ≡ false
rest_false a b e h = rw h at e

-- one of images i and j ends before the other begins
abbrev pub Apart : List ℕ → ℕ → ℕ → Type 0
Apart t i j = (offset t i + size t i ≤ offset t j) ⊎ (offset t j + size t j ≤ offset t i)

module _ (t : List ℕ) (i j : ℕ) where
  pub shares_apart : shares t i j ≡ false → (size t j ≡ 0 → ⊥) → Apart t i j
  unfolding shares begins
  shares_apart e z =
      let h : (begins t i j && begins t j i) ≡ false = rest_false _ _ e (not_true _ (ne_eqb (size t j) 0 z)) in
      either (begins t i j) (λ y. inl (ltb-false (offset t j) (offset t i + size t i) (rest_false (begins t i j) (begins t j i) h y)))
      (λ y. inr (ltb-false (offset t i) (offset t j + size t j) y))

  pub apart_shares : ((size t j ≡ 0 → ⊥) → Apart t i j) → shares t i j ≡ false
  unfolding shares begins
  apart_shares f =
      either (eqb (size t j) 0) (λ y. left_false (not (eqb (size t j) 0)) (begins t i j && begins t j i) (rw y))
      (λ y. right_false (not (eqb (size t j) 0)) _
      (⊎_elim (λ (h : offset t i + size t i ≤ offset t j). right_false (begins t i j) _ (le-ltb (offset t j) (offset t i + size t i) h))
      (λ (h : offset t j + size t j ≤ offset t i). left_false _ (begins t j i) (le-ltb (offset t i) (offset t j + size t j) h))
      (f (eqb-false (size t j) 0 y))))
