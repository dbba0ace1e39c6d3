-- Which numbers are reserved, bit by bit. A number that leads somewhere has bit 0 set.
use Rattle.std.specs.Prelude.{◌≡◌, true, false, ℕ, ◌+◌, ◌-◌, ◌*◌, ◌/◌, ◌%◌, ◌<◌, eqb, ltb}
use Rattle.std.proofs.Common.{sym, ◌∙◌}
use native.Mathlib.Omega.{arith}
use borrow.Author.Tests.{eq-eqb, ne_eqb, eqb-true}
use Rattle.rules.specs.Sizes.{page_size}
use Rattle.rules.specs.Choice.{pick_yes, pick_no, either, both_true, right_true, right_false, not_true, yes_or_no}
use Rattle.descriptors.specs.Numbers.{span, kind_of, base_of, attr_of, leaf_number, table_number}
use Rattle.descriptors.specs.Meaning.{is_table, proper, reserved, last_level, proper_kept}

-- ---- what is not reserved is proper, where bit 0 is set
kept_proper : (k e : ℕ) → (e % 2 ≡ 0 → ⊥) → reserved k e ≡ false → proper k e ≡ true
unfolding reserved
kept_proper k e o h = either (proper k e) (λ y. y) (λ n. absurd (yes_or_no _ (both_true _ _ (not_true _ (ne_eqb (e % 2) 0 o)) (not_true _ n)) h))

-- ---- a table: 3 in its lowest twelve bits, and nothing above bit 47
table_sum : (e : ℕ) → e ≡ table_number (base_of page_size e) → (e % 4096 ≡ 3) × (e / 281474976710656 ≡ 0)
table_sum e h = (omega arith, omega arith)

sum_table : (e : ℕ) → e % 4096 ≡ 3 → e / 281474976710656 ≡ 0 → e ≡ table_number (base_of page_size e)
sum_table e h g = omega arith

module _ (k e : ℕ) (t : is_table k e ≡ true) where
  table_odd : e % 2 ≡ 0 → ⊥
  unfolding is_table
  table_odd z = let y = eqb-true (e % 4) 3 (right_true (ltb 0 k) _ t) in omega arith

  pub table_bits : reserved k e ≡ false → (e % 4096 ≡ 3) × (e / 281474976710656 ≡ 0)
  unfolding proper
  table_bits r = table_sum e (eqb-true e _ (sym (pick_yes _ _ _ t) ∙ kept_proper k e table_odd r))

  pub bits_table : e % 4096 ≡ 3 → e / 281474976710656 ≡ 0 → reserved k e ≡ false
  unfolding proper
  bits_table h g = proper_kept k e (pick_yes _ _ _ t ∙ eq-eqb e _ (sum_table e h g))

-- ---- a page or block: its kind, bit 10, bit 7 as it may be and no other bit below those of its address; above bit 47 only bit 54, as it may be
pub record Bits (kind size e : ℕ) : Type 0 where
  pub low : e % size ≡ kind + 1024 + 128 * (e / 128 % 2)
  pub high : e / 281474976710656 ≡ 64 * (e / 18014398509481984 % 2)

-- the two attribute bits as they are written
bit_7 : (e : ℕ) → 1 - attr_of e % 2 ≡ e / 128 % 2
bit_7 e = omega arith

bit_54 : (e : ℕ) → 1 - attr_of e / 2 % 2 ≡ e / 18014398509481984 % 2
bit_54 e = omega arith

-- an address that is cut twice
page_cut : (e : ℕ) → base_of 4096 (base_of 4096 e) ≡ base_of 4096 e
page_cut e = omega arith

block_cut : (e : ℕ) → base_of 4096 (base_of 2097152 e) ≡ base_of 2097152 e
block_cut e = omega arith

-- the number by its parts, and the parts by the number
module _ (e b x : ℕ) (hb : b < 2) (hx : x < 2) where
  page_parts : e ≡ 3 + 1024 + 128 * b + base_of 4096 e + 18014398509481984 * x → (e % 4096 ≡ 3 + 1024 + 128 * b) × (e / 281474976710656 ≡ 64 * x)
  page_parts h = (omega arith, omega arith)

  page_whole : e % 4096 ≡ 3 + 1024 + 128 * b → e / 281474976710656 ≡ 64 * x → e ≡ 3 + 1024 + 128 * b + base_of 4096 e + 18014398509481984 * x
  page_whole h g = omega arith

  block_parts : e ≡ 1 + 1024 + 128 * b + base_of 2097152 e + 18014398509481984 * x → (e % 2097152 ≡ 1 + 1024 + 128 * b) × (e / 281474976710656 ≡ 64 * x)
  block_parts h = (omega arith, omega arith)

  block_whole : e % 2097152 ≡ 1 + 1024 + 128 * b → e / 281474976710656 ≡ 64 * x → e ≡ 1 + 1024 + 128 * b + base_of 2097152 e + 18014398509481984 * x
  block_whole h g = omega arith

module _ (e : ℕ) where
  low_bit : e / 128 % 2 < 2
  low_bit = omega arith

  high_bit : e / 18014398509481984 % 2 < 2
  high_bit = omega arith

  page_number : leaf_number 0 (base_of (span 0) e) (attr_of e) ≡ 3 + 1024 + 128 * (e / 128 % 2) + base_of 4096 e + 18014398509481984 * (e / 18014398509481984 % 2)
  unfolding span kind_of
  page_number = rw (bit_7 e, bit_54 e, page_cut e)

  block_number : leaf_number 1 (base_of (span 1) e) (attr_of e) ≡ 1 + 1024 + 128 * (e / 128 % 2) + base_of 2097152 e + 18014398509481984 * (e / 18014398509481984 % 2)
  unfolding span kind_of
  block_number = rw (bit_7 e, bit_54 e, block_cut e)

  page_proper : proper 0 e ≡ eqb e (leaf_number 0 (base_of (span 0) e) (attr_of e))
  unfolding proper
  page_proper = pick_no _ _ _ (last_level e)

  -- **At level 3** a number with bit 0 set is reserved exactly where it has not these bits: 1 in bits 1 to 0 is.
  pub page_bits : (e % 2 ≡ 0 → ⊥) → reserved 0 e ≡ false → Bits 3 4096 e
  page_bits o r =
      let h = eqb-true e _ (sym page_proper ∙ kept_proper 0 e o r) ∙ page_number in
      let q = page_parts e (e / 128 % 2) (e / 18014398509481984 % 2) low_bit high_bit h in
      record { low = q.0; high = q.1 }

  pub bits_page : Bits 3 4096 e → reserved 0 e ≡ false
  bits_page q = proper_kept 0 e (page_proper ∙ eq-eqb e _ (page_whole e _ _ low_bit high_bit q.low q.high ∙ sym page_number))

  -- **At level 2**, 1 in bits 1 to 0 is a block.
  module _ (b : e % 4 ≡ 1) where
    no_table : (k : ℕ) → is_table k e ≡ false
    unfolding is_table
    no_table k = right_false (ltb 0 k) _ (ne_eqb (e % 4) 3 (λ (z : e % 4 ≡ 3). omega arith))

    odd : e % 2 ≡ 0 → ⊥
    odd z = omega arith

    block_proper : proper 1 e ≡ eqb e (leaf_number 1 (base_of (span 1) e) (attr_of e))
    unfolding proper
    block_proper = pick_no _ _ _ (no_table 1)

    pub block_bits : reserved 1 e ≡ false → Bits 1 2097152 e
    block_bits r =
        let h = eqb-true e _ (sym block_proper ∙ kept_proper 1 e odd r) ∙ block_number in
        let q = block_parts e (e / 128 % 2) (e / 18014398509481984 % 2) low_bit high_bit h in
        record { low = q.0; high = q.1 }

    pub bits_block : Bits 1 2097152 e → reserved 1 e ≡ false
    bits_block q = proper_kept 1 e (block_proper ∙ eq-eqb e _ (block_whole e _ _ low_bit high_bit q.low q.high ∙ sym block_number))

    -- **At level 1** it is reserved.
    pub gib_reserved : reserved 2 e ≡ true
    unfolding reserved proper
    gib_reserved = rw (ne_eqb (e % 2) 0 odd, pick_no (is_table 2 e) _ _ (no_table 2))
