-- Numbers spelled in bytes, bytes copied out of others, and an entry made of them.
use Rattle.std.specs.Prelude.{◌≡◌, refl, List, [], ◌∷◌, ◌++◌, ℕ, zero, suc, ◌+◌, ◌-◌, ◌/◌, ◌%◌, ◌≤◌, ◌<◌, length, get_or, take, drop}
use Rattle.std.proofs.Common.{sym, ap, add-one, arith, drop-cons}
use Rattle.std.proofs.Math.ListN.{get_or-eq_default}

-- a number in n bytes, the lowest first
unfoldable pub spell : ℕ → ℕ → List ℕ
spell zero v = []
spell (suc n) v = v % 256 ∷ spell n (v / 256)

-- n bytes of s from a on; past its end 0
unfoldable pub copied : List ℕ → ℕ → ℕ → List ℕ
copied s a zero = []
copied s a (suc n) = get_or s a 0 ∷ copied s (suc a) n

-- identifier, offset, size and flags
unfoldable pub entry_of : List ℕ → ℕ → ℕ → ℕ → List ℕ
entry_of id offset size flags = id ++ (spell 8 offset ++ (spell 8 size ++ spell 8 flags))

pub past_end : (s : List ℕ) (a i : ℕ) → length s ≤ a + i → 0 ≡ get_or s (a + i) 0
past_end s a i h = sym (get_or-eq_default s 0 h)

-- ---- how long they are
pub length_spell : (n v : ℕ) → length (spell n v) ≡ n
unfolding spell
length_spell zero v = refl
length_spell (suc n) v = ap suc (length_spell n (v / 256))

pub length_copied : (s : List ℕ) (a n : ℕ) → length (copied s a n) ≡ n
unfolding copied
length_copied s a zero = refl
length_copied s a (suc n) = ap suc (length_copied s (suc a) n)

-- bytes that are all there, copied
pub copied_is : (s : List ℕ) (a n : ℕ) → a + n ≤ length s → copied s a n ≡ take n (drop a s)
unfolding copied
copied_is s a zero h = refl
copied_is s a (suc n) h = rw (drop-cons s a 0 (omega arith), copied_is s (suc a) n (omega arith))

-- ---- the first of what is left, and nothing left
one_less : (n : ℕ) → suc n - 1 ≡ n
one_less n = omega arith

pub spell_next : (n v : ℕ) → 0 < n → spell n v ≡ (v % 256 ∷ []) ++ spell (n - 1) (v / 256)
unfolding spell
spell_next zero v h = absurd (omega arith)
spell_next (suc n) v h = rw (one_less n)

pub copied_next : (s : List ℕ) (a n : ℕ) → 0 < n → copied s a n ≡ (get_or s a 0 ∷ []) ++ copied s (a + 1) (n - 1)
unfolding copied
copied_next s a zero h = absurd (omega arith)
copied_next s a (suc n) h = rw (one_less n, add-one)

pub spell_none : (n v : ℕ) → n ≤ 0 → spell n v ≡ []
unfolding spell
spell_none zero v h = refl
spell_none (suc n) v h = absurd (omega arith)

pub copied_none : (s : List ℕ) (a n : ℕ) → n ≤ 0 → copied s a n ≡ []
unfolding copied
copied_none s a zero h = refl
copied_none s a (suc n) h = absurd (omega arith)
