-- What one number of a table says.
use Rattle.std.specs.Prelude.{◌≡◌, refl, Bool, true, false, not, ◌&&◌, ℕ, ◌+◌, ◌-◌, ◌%◌, ◌≤◌, ◌<◌, eqb, leb, ltb}
use Rattle.std.proofs.Common.{sym, ◌∙◌}
use native.Mathlib.Omega.{arith}
use borrow.Author.Tests.{eq-eqb, ne_eqb, eqb-true, eqb-false, le-leb, lt-leb, lt-ltb}
use Rattle.rules.specs.Sizes.{page_size}
use Rattle.rules.specs.Choice.{pick, picked, passed, either, pick_yes, pick_no, right_true, not_false, yes_or_no}
use Rattle.descriptors.specs.Numbers.{span, base_of, attr_of, leaf_number, table_number}
use Rattle.descriptors.specs.declared.Descriptor.{Descriptor}
use Rattle.descriptors.specs.declared.Descriptor.TheVariants.{Nothing, Table, Leaf}

-- with a level below it, 3 in bits 1 to 0 is a table
unfoldable pub is_table : ℕ → ℕ → Bool
is_table k e = ltb 0 k && eqb (e % 4) 3

-- a page or block, for an address in it
abbrev pub leaf_at : ℕ → ℕ → ℕ → Descriptor
leaf_at k x e = Leaf (base_of (span k) e + x % span k) (attr_of e)

-- the very number of the table, page or block that it leads to; of GiBs there are no blocks
unfoldable pub proper : ℕ → ℕ → Bool
proper k e = pick (is_table k e) (eqb e (table_number (base_of page_size e))) (leb k 1 && eqb e (leaf_number k (base_of (span k) e) (attr_of e)))

-- bit 0 is set, and a part of the number has no meaning
unfoldable pub reserved : ℕ → ℕ → Bool
reserved k e = not (eqb (e % 2) 0) && not (proper k e)

-- with bit 0 clear it leads nowhere, nor does it where it is reserved; else it is a table, a page or a block
unfoldable pub meaning : ℕ → ℕ → ℕ → Descriptor
meaning k x e =
    pick (eqb (e % 2) 0) Nothing (pick (reserved k e) Nothing (pick (is_table k e) (Table (base_of page_size e)) (leaf_at k x e)))

-- ---- how the code meets these
pub leaf_by : (k x e start rest a : ℕ) → start ≡ base_of (span k) e → rest ≡ x % span k → a ≡ attr_of e → Leaf (start + rest) a ≡ leaf_at k x e
leaf_by k x e start rest a f g h = rw (f, g, h)

module _ (k e : ℕ) where
  pub table_last : k ≡ 0 → false ≡ is_table k e
  unfolding is_table
  table_last h = rw h

  pub table_by : (k ≡ 0 → ⊥) → eqb (e % 4) 3 ≡ is_table k e
  unfolding is_table
  table_by h = rw (lt-ltb 0 k (omega arith))

  module _ (t : Bool) (f : t ≡ is_table k e) where
    pub proper_table : (b r : ℕ) → t ≡ true → b ≡ base_of page_size e → r ≡ table_number b → eqb e r ≡ proper k e
    unfolding proper
    proper_table b r h g i = picked _ _ _ _ (sym f ∙ h) (rw (i, g))

    pub proper_leaf : (b a r : ℕ) → t ≡ false → k ≤ 1 → b ≡ base_of (span k) e → a ≡ attr_of e → r ≡ leaf_number k b a → eqb e r ≡ proper k e
    unfolding proper
    proper_leaf b a r h l g i j = passed _ _ _ _ (sym f ∙ h) (rw (le-leb k 1 l, j, g, i))

    pub proper_none : t ≡ false → 1 < k → false ≡ proper k e
    unfolding proper
    proper_none h l = passed _ _ _ _ (sym f ∙ h) (rw (lt-leb k 1 l))

  pub reserved_clear : e % 2 ≡ 0 → false ≡ reserved k e
  unfolding reserved
  reserved_clear h = rw (eq-eqb (e % 2) 0 h)

  pub reserved_by : (p : Bool) → (e % 2 ≡ 0 → ⊥) → p ≡ proper k e → not p ≡ reserved k e
  unfolding reserved
  reserved_by p h f = rw (ne_eqb (e % 2) 0 h, f)

-- ---- what a number says, by the three tests
module _ (k e x : ℕ) where
  pub means_clear : e % 2 ≡ 0 → meaning k x e ≡ Nothing
  unfolding meaning
  means_clear h = pick_yes _ _ _ (eq-eqb (e % 2) 0 h)

  module _ (o : e % 2 ≡ 0 → ⊥) where
    pub means_reserved : reserved k e ≡ true → meaning k x e ≡ Nothing
    unfolding meaning
    means_reserved h = pick_no _ _ _ (ne_eqb (e % 2) 0 o) ∙ pick_yes _ _ _ h

    module _ (p : reserved k e ≡ false) where
      pub means_table : is_table k e ≡ true → meaning k x e ≡ Table (base_of page_size e)
      unfolding meaning
      means_table h = pick_no _ _ _ (ne_eqb (e % 2) 0 o) ∙ pick_no _ _ _ p ∙ pick_yes _ _ _ h

      pub means_leaf : is_table k e ≡ false → meaning k x e ≡ leaf_at k x e
      unfolding meaning
      means_leaf h = pick_no _ _ _ (ne_eqb (e % 2) 0 o) ∙ pick_no _ _ _ p ∙ pick_no _ _ _ h

  pub meaning_clear : e % 2 ≡ 0 → Nothing ≡ meaning k x e
  meaning_clear h = sym (means_clear h)

  module _ (v : Bool) (o : e % 2 ≡ 0 → ⊥) (f : v ≡ reserved k e) where
    pub meaning_reserved : v ≡ true → Nothing ≡ meaning k x e
    meaning_reserved h = sym (means_reserved o (sym f ∙ h))

    module _ (q : v ≡ false) (t : Bool) (g : t ≡ is_table k e) where
      pub meaning_table : (b : ℕ) → t ≡ true → b ≡ base_of page_size e → Table b ≡ meaning k x e
      meaning_table b h i = rw i (sym (means_table o (sym f ∙ q) (sym g ∙ h)))

      pub meaning_leaf : (d : Descriptor) → t ≡ false → d ≡ leaf_at k x e → d ≡ meaning k x e
      meaning_leaf d h i = i ∙ sym (means_leaf o (sym f ∙ q) (sym g ∙ h))

pub ruleset meanings = (leaf_by, table_last, table_by, proper_table, proper_leaf, proper_none, reserved_clear, reserved_by, meaning_clear, meaning_reserved, meaning_table, meaning_leaf)

-- ---- plain facts
pub last_level : (e : ℕ) → is_table 0 e ≡ false
unfolding is_table
last_level e = refl

pub proper_kept : (k e : ℕ) → proper k e ≡ true → reserved k e ≡ false
unfolding reserved
proper_kept k e h = Rattle.rules.specs.Choice.right_false (not (eqb (e % 2) 0)) _ (not_false _ h)

module _ (k e x : ℕ) where
  odd_table : is_table k e ≡ true → e % 2 ≡ 0 → ⊥
  unfolding is_table
  odd_table h o = let z = eqb-true (e % 4) 3 (right_true (ltb 0 k) (eqb (e % 4) 3) h) in omega arith

  -- a table that is not reserved leads to its offset
  pub table_says : is_table k e ≡ true → reserved k e ≡ false → meaning k x e ≡ Table (base_of page_size e)
  table_says h r = means_table k e x (odd_table h) r h

-- what a number says of two addresses, by what it may be
pub means_two :
    (k e x y : ℕ) (P : Descriptor → Descriptor → Type 0) → P Nothing Nothing
    → (is_table k e ≡ true → reserved k e ≡ false → P (Table (base_of page_size e)) (Table (base_of page_size e)))
    → (is_table k e ≡ false → reserved k e ≡ false → P (leaf_at k x e) (leaf_at k y e)) → P (meaning k x e) (meaning k y e)
means_two k e x y P p q r =
    either (eqb (e % 2) 0) (λ c. let h = eqb-true (e % 2) 0 c in rw (means_clear k e x h, means_clear k e y h) p)
    (λ n. let o = eqb-false (e % 2) 0 n in
    either (reserved k e) (λ v. rw (means_reserved k e x o v, means_reserved k e y o v) p)
    (λ v. either (is_table k e) (λ t. rw (means_table k e x o v t, means_table k e y o v t) (q t v)) (λ t. rw (means_leaf k e x o v t, means_leaf k e y o v t) (r t v))))

-- what is no table leads nowhere, or is a page or block
pub other_says : (k e x : ℕ) → is_table k e ≡ false → (P : Descriptor → Type 0) → P Nothing → P (leaf_at k x e) → P (meaning k x e)
other_says k e x h P p q = means_two k e x x (λ (d c : Descriptor). P d) p (λ t v. absurd (yes_or_no _ t h)) (λ t v. q)
