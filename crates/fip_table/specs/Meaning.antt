-- What the tests of a table mean, as plain statements about bytes and numbers.
use Rattle.std.specs.Prelude.{◌≡◌, Bool, true, not, ◌||◌, List, ℕ, ◌+◌, ◌*◌, ◌/◌, ◌≤◌, ◌<◌, ltb, eqb, length, get_or, Option, Some, None, MatchOption}
use Rattle.std.specs.Option.{unwrap_or}
use Rattle.std.proofs.Math.Path.{sym}
use Rattle.std.proofs.Common.{◌∙◌, arith}
use Rattle.std.proofs.Math.Bool.{false}
use borrow.Author.Tests.{ltb-true, ltb-false, le-ltb, eqb-false, ne_eqb, not-false}
use Rattle.rules.specs.Choice.{chosen, either, yes_or_no, left_false, right_false, neither, not_first, not_second, not_true}
use Rattle.tools.specs.Search.{any, first, Firstly, first_is, any_not, any_if_not}
use Rattle.fip_entries.specs.Entries.{entry, offset, size, zeros, outside, shares, same_bytes, bytes_same, zeros_byte, rest_false}
use Rattle.fip_table.specs.Table.{blank, twins, repeated, doubled, strays, table_end, covers, crowded, slots, count, unended}

-- ---- identifiers
module _ (t : List ℕ) (k : ℕ) where
  pub blank_zero : blank t k ≡ true → (i : ℕ) → i < 16 → get_or t (entry k + i) 0 ≡ 0
  unfolding blank
  blank_zero e i h = same_bytes t (entry k) zeros 0 e i h ∙ zeros_byte i h

  pub zero_blank : ((i : ℕ) → i < 16 → get_or t (entry k + i) 0 ≡ 0) → blank t k ≡ true
  unfolding blank
  zero_blank f = bytes_same t (entry k) zeros 0 (λ i h. f i h ∙ sym (zeros_byte i h))

module _ (t : List ℕ) (n : ℕ) where
  -- of two entries the later one is compared with the earlier
  pub single_one : doubled t n ≡ false → (i j : ℕ) → i < n → j < i → twins t i j ≡ false
  unfolding doubled repeated
  single_one e i j h l = any_not (twins t i) 0 i j (any_not (repeated t) 0 n i e (omega arith) (omega arith)) (omega arith) (omega arith)

  pub one_single : ((i j : ℕ) → i < n → j < i → twins t i j ≡ false) → doubled t n ≡ false
  unfolding doubled repeated
  one_single f = any_if_not (repeated t) 0 n (λ i h l. any_if_not (twins t i) 0 i (λ j g m. f i j (omega arith) (omega arith)))

-- ---- images
module _ (t : List ℕ) (room n : ℕ) where
  pub all_inside : strays t room n ≡ false → (k : ℕ) → k < n → offset t k + size t k ≤ room
  unfolding strays outside
  all_inside e k h = ltb-false room (offset t k + size t k) (any_not (outside t room) 0 n k e (omega arith) (omega arith))

  pub inside_all : ((k : ℕ) → k < n → offset t k + size t k ≤ room) → strays t room n ≡ false
  unfolding strays outside
  inside_all f = any_if_not (outside t room) 0 n (λ k h l. le-ltb room (offset t k + size t k) (f k (omega arith)))

module _ (t : List ℕ) (n : ℕ) where
  pub all_clear : crowded t n ≡ false → (i : ℕ) → i < n → (size t i ≡ 0 → ⊥) → (table_end n ≤ offset t i) × ((j : ℕ) → j < i → shares t i j ≡ false)
  unfolding crowded covers
  all_clear e i h z =
      let g : (ltb (offset t i) (table_end n) || any (shares t i) 0 i) ≡ false = rest_false _ _ (any_not (covers t n) 0 n i e (omega arith) (omega arith)) (not_true _ (ne_eqb (size t i) 0 z)) in
      (ltb-false (offset t i) (table_end n) (not_first _ _ g), λ j l. any_not (shares t i) 0 i j (not_second (ltb (offset t i) (table_end n)) _ g) (omega arith) (omega arith))

  pub clear_all : ((i : ℕ) → i < n → (size t i ≡ 0 → ⊥) → (table_end n ≤ offset t i) × ((j : ℕ) → j < i → shares t i j ≡ false)) → crowded t n ≡ false
  unfolding crowded covers
  clear_all f =
      any_if_not (covers t n) 0 n (λ i h l. either (eqb (size t i) 0) (λ y. left_false (not (eqb (size t i) 0)) (ltb (offset t i) (table_end n) || any (shares t i) 0 i) (rw y))
      (λ y. let g = f i (omega arith) (eqb-false (size t i) 0 y) in
      right_false (not (eqb (size t i) 0)) _
      (neither (ltb (offset t i) (table_end n)) (any (shares t i) 0 i) (le-ltb (offset t i) (table_end n) g.0) (any_if_not (shares t i) 0 i (λ j a b. g.1 j (omega arith))))))

-- ---- where the table ends
-- the entries that are looked at: at most 65, all whole, and each whole one of the first 65
pub slots_most : (n : ℕ) → slots n ≤ 65
unfolding slots
slots_most n = chosen (λ (k : ℕ). k ≤ 65) (ltb (n / 40) 65) (n / 40) 65 (λ e. let h = ltb-true (n / 40) 65 e in omega arith) (λ e. omega arith)

pub slots_room : (n : ℕ) → 40 * slots n ≤ n
unfolding slots
slots_room n = chosen (λ (k : ℕ). 40 * k ≤ n) (ltb (n / 40) 65) (n / 40) 65 (λ e. omega arith) (λ e. let h = ltb-false (n / 40) 65 e in omega arith)

pub slots_have : (n k : ℕ) → k < 65 → 40 * k + 40 ≤ n → k < slots n
unfolding slots
slots_have n k l h = chosen (λ (m : ℕ). k < m) (ltb (n / 40) 65) (n / 40) 65 (λ e. omega arith) (λ e. l)

-- a search for the first has one answer
pub firstly_one : (p : ℕ → Bool) (a n j k : ℕ) → Firstly p a n j → Firstly p a n k → j ≡ k
firstly_one p a n j k f g =
    either (ltb j k)
    (λ y. let h = ltb-true j k y in absurd (yes_or_no (p j) (f.passes (omega (arith, g.high))) (g.before j f.low h)))
    (λ y. either (ltb k j) (λ z. let h = ltb-true k j z in absurd (yes_or_no (p k) (g.passes (omega (arith, f.high))) (f.before k g.low h)))
    (λ z. let h = ltb-false j k y in let l = ltb-false k j z in omega arith))

-- a chain that finds the first number below n that passes, or else has n
pub found_first :
    (p : ℕ → Bool) (n : ℕ) (o : Option ℕ) → MatchOption o ((k : ℕ) → 0 ≤ k → k < n → p k ≡ false) (λ i. (0 ≤ i) × (i < n) × (p i ≡ true) × ((k : ℕ) → 0 ≤ k → k < i → p k ≡ false)) →
    unwrap_or o n ≡ first p 0 n
found_first p n None f =
    firstly_one p 0 n n (first p 0 n)
    (record { low = omega arith; high = omega arith; before = λ i h l. f i h l; passes = λ h. absurd (omega arith) })
    (first_is p 0 n)
found_first p n (Some i) f =
    firstly_one p 0 n i (first p 0 n)
    (record { low = f.0; high = omega (arith, f.1); before = λ k h l. f.3 k h l; passes = λ h. f.2 })
    (first_is p 0 n)

module _ (t : List ℕ) where
  pub count_is : Firstly (blank t) 0 (slots (length t)) (count t)
  unfolding count
  count_is = first_is (blank t) 0 (slots (length t))

  pub count_room : unended t ≡ false → count t < slots (length t)
  unfolding unended
  count_room e = ltb-true (count t) (slots (length t)) (not-false (ltb (count t) (slots (length t))) e)
