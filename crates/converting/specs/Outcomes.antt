-- How the code meets the two conversions: a law for each part of 88, and one for each outcome.
use Rattle.std.specs.Prelude.{◌≡◌, Bool, true, false, ◌||◌, List, ℕ, ◌≤◌, ◌<◌, eqb, length}
use Rattle.std.proofs.Math.Path.{refl, sym}
use Rattle.std.proofs.Common.{◌∙◌, ltb-false, lt-ltb, le-ltb, eq-eqb, ne_eqb}
use Rattle.std.proofs.Math.Dec.{ltb}
use Rattle.std.proofs.lemmas.Bool.{eqb-false}
use Rattle.rules.specs.Sizes.{most_pages}
use Rattle.rules.specs.Choice.{first_or, second_or, neither, not_first, not_second}
use Rattle.rules.specs.Tests.{stops, goes, ends}
use Rattle.tools.specs.Laid.{laid}
use Rattle.conversions.specs.Conversions.{numbers_for, cramped, stray_bytes, stray_marks, number_for, byte_for, listed, kept, packed, unpacked}
use Rattle.conversions.specs.Laws.{laid_written}

-- ---- 88
module _ (n bytes numbers : ℕ) where
  pub cramped_none : n ≡ 0 → true ≡ cramped n bytes numbers
  unfolding cramped
  cramped_none h = sym (first_or _ _ (first_or _ _ (eq-eqb n 0 h)))

  pub cramped_many : most_pages < n → true ≡ cramped n bytes numbers
  unfolding cramped
  cramped_many h = sym (first_or _ _ (second_or (eqb n 0) _ (lt-ltb most_pages n h)))

  pub cramped_bytes : bytes < n → true ≡ cramped n bytes numbers
  unfolding cramped
  cramped_bytes h = sym (second_or (eqb n 0 || ltb most_pages n) _ (first_or _ _ (lt-ltb bytes n h)))

  pub cramped_numbers : numbers < numbers_for n → true ≡ cramped n bytes numbers
  unfolding cramped
  cramped_numbers h = sym (second_or (eqb n 0 || ltb most_pages n) _ (second_or (ltb bytes n) _ (lt-ltb numbers (numbers_for n) h)))

  pub roomy : (n ≡ 0 → ⊥) → n ≤ most_pages → n ≤ bytes → numbers_for n ≤ numbers → false ≡ cramped n bytes numbers
  unfolding cramped
  roomy some most b h =
      sym (neither _ _ (neither _ _ (ne_eqb n 0 some) (le-ltb most_pages n most)) (neither _ _ (le-ltb bytes n b) (le-ltb numbers (numbers_for n) h)))

  -- what is so where it is not
  module _ (e : cramped n bytes numbers ≡ false) where
    right_count : (eqb n 0 || ltb most_pages n) ≡ false
    unfolding cramped
    right_count = not_first (eqb n 0 || ltb most_pages n) (ltb bytes n || ltb numbers (numbers_for n)) e

    enough_space : (ltb bytes n || ltb numbers (numbers_for n)) ≡ false
    unfolding cramped
    enough_space = not_second (eqb n 0 || ltb most_pages n) (ltb bytes n || ltb numbers (numbers_for n)) e

    pub some_pages : n ≡ 0 → ⊥
    some_pages = eqb-false n 0 (not_first (eqb n 0) (ltb most_pages n) right_count)

    pub most_pages_lem : n ≤ most_pages
    most_pages_lem = ltb-false most_pages n (not_second (eqb n 0) (ltb most_pages n) right_count)

    pub bytes_fit : n ≤ bytes
    bytes_fit = ltb-false bytes n (not_first (ltb bytes n) (ltb numbers (numbers_for n)) enough_space)

    pub numbers_fit : numbers_for n ≤ numbers
    numbers_fit = ltb-false numbers (numbers_for n) (not_second (ltb bytes n) (ltb numbers (numbers_for n)) enough_space)

-- ---- the outcomes
module _ (n : ℕ) (bytes numbers : List ℕ) where
  module _ (e : cramped n (length bytes) (length numbers) ≡ true) where
    pub pack_cramped : (0x88, numbers) ≡ packed n bytes numbers
    unfolding packed kept
    pack_cramped = stops _ _ _ _ _ _ e refl

    pub unpack_cramped : (0x88, bytes) ≡ unpacked n numbers bytes
    unfolding unpacked kept
    unpack_cramped = stops _ _ _ _ _ _ e refl

  -- the page count is one that was judged
  module _ (m : ℕ) (k : m ≡ n) (e : cramped n (length bytes) (length numbers) ≡ false) (b : Bool) where
    module _ (f : b ≡ stray_bytes m bytes) where
      pub pack_stray : b ≡ true → (0x89, numbers) ≡ packed n bytes numbers
      unfolding packed kept
      pack_stray y = goes _ _ _ _ _ _ e (stops _ _ _ _ _ _ (rw k at (sym f ∙ y)) refl)

      pub pack_done : (p : List ℕ) → b ≡ false → p ≡ laid numbers 0 (listed (number_for m bytes) 0 (numbers_for m)) → (0, p) ≡ packed n bytes numbers
      unfolding packed
      pack_done p z g =
          goes _ _ _ _ _ _ e
          (goes _ _ _ _ _ _ (rw k at (sym f ∙ z)) (ends _ _ _
          (rw (g, k, laid_written (number_for n bytes) (numbers_for n) numbers (numbers_fit n (length bytes) (length numbers) e)))))

    module _ (f : b ≡ stray_marks m numbers) where
      pub unpack_stray : b ≡ true → (0x89, bytes) ≡ unpacked n numbers bytes
      unfolding unpacked kept
      unpack_stray y = goes _ _ _ _ _ _ e (stops _ _ _ _ _ _ (rw k at (sym f ∙ y)) refl)

      pub unpack_done : (p : List ℕ) → b ≡ false → p ≡ laid bytes 0 (listed (byte_for numbers) 0 m) → (0, p) ≡ unpacked n numbers bytes
      unfolding unpacked
      unpack_done p z g =
          goes _ _ _ _ _ _ e
          (goes _ _ _ _ _ _ (rw k at (sym f ∙ z)) (ends _ _ _ (rw (g, k, laid_written (byte_for numbers) n bytes (bytes_fit n (length bytes) (length numbers) e)))))

pub ruleset outcomes = (pack_cramped, pack_stray, pack_done, unpack_cramped, unpack_stray, unpack_done)
