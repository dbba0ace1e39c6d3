-- Bytes copied out of others: which they are, and what number they spell.
use Rattle.std.specs.Prelude.{◌≡◌, refl, List, [], ◌∷◌, ◌++◌, ℕ, zero, suc, ◌+◌, ◌*◌, ◌/◌, ◌%◌, ◌^◌, ◌≤◌, ◌<◌, length, get_or, take, drop}
use Rattle.std.proofs.Common.{sym, ap, ◌∙◌, arith, pow-suc, get_or-append-add, get_or-drop, get_or-take}
use Rattle.std.proofs.Math.Nat.{pow-zero}
use Rattle.std.proofs.Math.ListN.{get_or-append}
use Rattle.std.proofs.Math.Seq.{take-length}
use Rattle.fip_entries.specs.Numbers.{two, four, eight}
use Rattle.fip_lay.specs.Bytes.{spell, copied, copied_is}

-- ---- what is copied, byte by byte
pub copied_byte : (s : List ℕ) (a n i : ℕ) → i < n → get_or (copied s a n) i 0 ≡ get_or s (a + i) 0
unfolding copied
copied_byte s a zero i h = absurd (omega arith)
copied_byte s a (suc n) zero h = let z : a ≡ a + 0 = omega arith in rw (← z)
copied_byte s a (suc n) (suc i) h = let z : suc a + i ≡ a + suc i = omega arith in rw (← z) (copied_byte s (suc a) n i (omega arith))

-- two copies are one where their bytes are, and only there
pub copied_same : (s t : List ℕ) (a b n : ℕ) → ((i : ℕ) → i < n → get_or s (a + i) 0 ≡ get_or t (b + i) 0) → copied s a n ≡ copied t b n
unfolding copied
copied_same s t a b zero f = refl
copied_same s t a b (suc n) f =
    let x : a + 0 ≡ a = omega arith in
    let y : b + 0 ≡ b = omega arith in
    let h : get_or s a 0 ≡ get_or t b 0 = rw (x, y) at (f 0 (omega arith)) in
    rw (
      h,
      copied_same s t (suc a) (suc b) n (λ i l.
          let p : suc a + i ≡ a + suc i = omega arith in
          let q : suc b + i ≡ b + suc i = omega arith in
          rw (p, q) (f (suc i) (omega arith))),
    )

pub same_copied : (s t : List ℕ) (a b n : ℕ) → copied s a n ≡ copied t b n → (i : ℕ) → i < n → get_or s (a + i) 0 ≡ get_or t (b + i) 0
same_copied s t a b n e i h = sym (copied_byte s a n i h) ∙ ap (λ (l : List ℕ). get_or l i 0) e ∙ copied_byte t b n i h

-- ---- a copy out of bytes that are put together, or cut
module _ (s t : List ℕ) (a n : ℕ) where
  pub copied_front : a + n ≤ length s → copied (s ++ t) a n ≡ copied s a n
  copied_front h = copied_same (s ++ t) s a a n (λ i l. get_or-append s t 0 (a + i) (omega arith))

  pub copied_past : (m : ℕ) → length s ≡ m → copied (s ++ t) (m + a) n ≡ copied t a n
  copied_past m e =
      copied_same (s ++ t) t (m + a) a n (λ i l. let z : m + a + i ≡ length s + (a + i) = omega arith in rw z (get_or-append-add s t (a + i) 0))

module _ (s : List ℕ) (m a n : ℕ) where
  pub copied_drop : copied (drop m s) a n ≡ copied s (m + a) n
  copied_drop =
      copied_same (drop m s) s a (m + a) n (λ i l. let z : m + a + i ≡ m + (a + i) = omega arith in rw z (get_or-drop m s (a + i) 0))

  pub copied_take : a + n ≤ m → copied (take m s) a n ≡ copied s a n
  copied_take h = copied_same (take m s) s a a n (λ i l. get_or-take m s (a + i) 0 (omega arith))

-- a copy out of a copy, and a copy of all
pub copied_in : (s w : List ℕ) (a n i m : ℕ) → copied s a n ≡ w → i + m ≤ n → copied s (a + i) m ≡ copied w i m
copied_in s w a n i m e h =
    copied_same s w (a + i) i m (λ j l.
    let z : a + i + j ≡ a + (i + j) = omega arith in
    rw (z, ← e) (sym (copied_byte s a n (i + j) (omega arith))))

pub copied_whole : (s : List ℕ) (n : ℕ) → length s ≡ n → copied s 0 n ≡ s
copied_whole s n e = rw (← e) (copied_is s 0 (length s) (omega arith) ∙ take-length s)

-- ---- numbers
-- the number that bytes spell, the lowest first
unfoldable pub number : List ℕ → ℕ
number [] = 0
number (b ∷ l) = b + 256 * number l

-- what is spelled reads back
pub number_spell : (n v : ℕ) → v < 256 ^ n → number (spell n v) ≡ v
unfolding number spell
number_spell zero v h = let z : 0 ≡ v = omega (arith, pow-zero 256) in z
number_spell (suc n) v h =
    let e : number (spell n (v / 256)) ≡ v / 256 = number_spell n (v / 256) (omega (arith, pow-suc 256 n)) in
    rw e (let z : v % 256 + 256 * (v / 256) ≡ v = omega arith in z)

pub four_number : (s : List ℕ) (a : ℕ) → four s a ≡ number (copied s a 4)
unfolding four two number copied
four_number s a =
    let x : a + 1 ≡ suc a = omega arith in
    let y : a + 2 ≡ suc (suc a) = omega arith in
    let z : suc (suc a) + 1 ≡ suc (suc (suc a)) = omega arith in
    rw (x, y, z) (omega arith)

pub eight_number : (s : List ℕ) (a : ℕ) → eight s a ≡ number (copied s a 8)
unfolding eight number copied
eight_number s a =
    let y : a + 4 ≡ suc (suc (suc (suc a))) = omega arith in
    rw (y, four_number s a, four_number s (suc (suc (suc (suc a))))) (omega arith)
