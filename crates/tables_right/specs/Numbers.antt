-- The numbers that a build writes say what they were written for.
use Rattle.std.specs.Prelude.{◌≡◌, true}
use Rattle.std.proofs.Math.Path.{refl}
use Rattle.std.proofs.Common.{sym, ◌∙◌, mod-eq_of_lt}
use Rattle.std.proofs.Math.Bool.{false}
use Prim.Native.Nat.{ℕ, zero, suc, ◌+◌, ◌-◌, ◌*◌, ◌/◌, ◌%◌, ◌≤◌, ◌<◌}
use native.Mathlib.Omega.{arith}
use borrow.Author.Tests.{eq-eqb, lt-ltb, le-leb}
use Rattle.rules.specs.Choice.{pick_yes, pick_no, both_true}
use Rattle.descriptors.specs.Numbers.{span, kind_of, base_of, attr_of, leaf_number, table_number}
use Rattle.descriptors.specs.Meaning.{is_table, proper, meaning, means_clear, means_table, means_leaf, proper_kept}
use Rattle.descriptors.specs.declared.Descriptor.TheVariants.{Nothing, Table, Leaf}

-- an unused entry
pub nothing_means : (k x : ℕ) → meaning k x 0 ≡ Nothing
nothing_means k x = means_clear k 0 x refl

-- ---- a table, by its number
module _ (k t : ℕ) (u : t < 68719476736) where
  table_number_lem : table_number (4096 * t) ≡ 3 + 4096 * t
  table_number_lem = omega arith

  table_base : base_of 4096 (3 + 4096 * t) ≡ 4096 * t
  table_base = omega arith

  table_kind : (3 + 4096 * t) % 4 ≡ 3
  table_kind = omega arith

  table_is : is_table (suc k) (3 + 4096 * t) ≡ true
  unfolding is_table
  table_is = both_true _ _ (lt-ltb 0 (suc k) (omega arith)) (eq-eqb ((3 + 4096 * t) % 4) 3 table_kind)

  table_proper : proper (suc k) (3 + 4096 * t) ≡ true
  unfolding proper
  table_proper = pick_yes _ _ _ table_is ∙ eq-eqb (3 + 4096 * t) _ (rw table_base (sym table_number_lem))

  pub table_means : (x : ℕ) → meaning (suc k) x (table_number (4096 * t)) ≡ Table (4096 * t)
  table_means x =
      rw table_number_lem
      (means_table (suc k) (3 + 4096 * t) x (λ (z : (3 + 4096 * t) % 2 ≡ 0). omega arith) (proper_kept (suc k) (3 + 4096 * t) table_proper) table_is ∙ rw table_base)

-- ---- a page or block, put together of its parts
unfoldable joined : ℕ → ℕ → ℕ → ℕ → ℕ
joined kind ro q xn = kind + 1024 + 128 * ro + q * 4096 + 18014398509481984 * xn

module _ (kind ro q xn : ℕ) (hk : kind < 4) (hr : ro < 2) (hx : xn < 2) (hq : q < 68719476736) where
  joined_kind : joined kind ro q xn % 4 ≡ kind
  unfolding joined
  joined_kind = omega arith

  joined_ro : joined kind ro q xn / 128 % 2 ≡ ro
  unfolding joined
  joined_ro = omega arith

  joined_xn : joined kind ro q xn / 18014398509481984 % 2 ≡ xn
  unfolding joined
  joined_xn = omega arith

  joined_page : base_of 4096 (joined kind ro q xn) ≡ q * 4096
  unfolding joined
  joined_page = omega arith

  joined_block : q % 512 ≡ 0 → base_of 2097152 (joined kind ro q xn) ≡ q * 4096
  unfolding joined
  joined_block h = omega arith

  joined_odd : kind % 2 ≡ 1 → joined kind ro q xn % 2 ≡ 0 → ⊥
  unfolding joined
  joined_odd h z = omega arith

attr_back : (a : ℕ) → a ≤ 2 → 1 - (1 - a % 2) + 2 * (1 - (1 - a / 2 % 2)) ≡ a
attr_back zero h = refl
attr_back (suc zero) h = refl
attr_back (suc (suc zero)) h = refl
attr_back (suc (suc (suc a))) h = absurd (omega arith)

-- what is its own number at its level, and no table, leads on
leaf_by : (k x n p a : ℕ) → k ≤ 1 → (n % 2 ≡ 0 → ⊥) → is_table k n ≡ false → base_of (span k) n ≡ p → attr_of n ≡ a → n ≡ leaf_number k p a → meaning k x n ≡ Leaf (p + x % span k) a
unfolding proper
leaf_by k x n p a h o t f g e =
    let r : proper k n ≡ true = pick_no _ _ _ t ∙ both_true _ _ (le-leb k 1 h) (eq-eqb n _ (rw (f, g) e)) in
    means_leaf k n x o (proper_kept k n r) t ∙ rw (f, g)

slot_pages : (p : ℕ) → p % 2097152 ≡ 0 → p / 4096 % 512 ≡ 0
slot_pages p e = omega arith

module _ (p a : ℕ) (l : p < 281474976710656) (u : a ≤ 2) where
  abbrev q : ℕ
  q = p / 4096

  abbrev ro : ℕ
  ro = 1 - a % 2

  abbrev xn : ℕ
  xn = 1 - a / 2 % 2

  hr : ro < 2
  hr = omega arith

  hx : xn < 2
  hx = omega arith

  hq : q < 68719476736
  hq = omega arith

  attrs : (kind : ℕ) → kind < 4 → attr_of (joined kind ro q xn) ≡ a
  attrs kind hk = rw (joined_ro kind ro q xn hk hr hx hq, joined_xn kind ro q xn hk hr hx hq) (attr_back a u)

  whole_pages : p % 4096 ≡ 0 → q * 4096 ≡ p
  whole_pages e = omega arith

  number_is : (k : ℕ) → p % 4096 ≡ 0 → joined (kind_of k) ro q xn ≡ leaf_number k p a
  unfolding joined
  number_is k e = let z : p / 4096 * 4096 ≡ base_of 4096 p = rw (mod-eq_of_lt l) in rw (← z)

  leaf_means_at : (k x : ℕ) → k ≤ 1 → p % span k ≡ 0 → meaning k x (leaf_number k p a) ≡ Leaf (p + x % span k) a
  unfolding span kind_of is_table
  leaf_means_at zero x h e =
      let n = joined 3 ro q xn in
      let hk : 3 < 4 = omega arith in
      let i : n ≡ leaf_number 0 p a = number_is 0 e in
      rw (← i) (leaf_by 0 x n p a (omega arith) (joined_odd 3 ro q xn hk hr hx hq refl) refl (joined_page 3 ro q xn hk hr hx hq ∙ whole_pages e) (attrs 3 hk) i)
  leaf_means_at (suc zero) x h e =
      let n = joined 1 ro q xn in
      let hk : 1 < 4 = omega arith in
      let e' : p % 4096 ≡ 0 = omega arith in
      let d : q % 512 ≡ 0 = slot_pages p e in
      let i : n ≡ leaf_number 1 p a = number_is 1 e' in
      let t : is_table 1 n ≡ false = rw (joined_kind 1 ro q xn hk hr hx hq) in
      rw (← i) (leaf_by 1 x n p a (omega arith) (joined_odd 1 ro q xn hk hr hx hq refl) t (joined_block 1 ro q xn hk hr hx hq d ∙ whole_pages e') (attrs 1 hk) i)
  leaf_means_at (suc (suc k)) x h e = absurd (omega arith)

pub leaf_means : (k x p a : ℕ) → k ≤ 1 → p % span k ≡ 0 → p < 281474976710656 → a ≤ 2 → meaning k x (leaf_number k p a) ≡ Leaf (p + x % span k) a
leaf_means k x p a h e l u = leaf_means_at p a l u k x h e
