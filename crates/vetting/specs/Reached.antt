-- Whether a table was reached before: it is that of level 1, or an entry before this one leads to it.
use Rattle.std.specs.Prelude.{◌≡◌, Bool, true, false, ◌&&◌, ◌||◌, List, ℕ, ◌+◌, ◌-◌, ◌*◌, ◌/◌, ◌≤◌, ◌<◌, eqb}
use Rattle.std.proofs.Common.{◌∙◌, mul-le-mul_right, arith, eq-eqb, ne_eqb}
use Rattle.rules.specs.Sizes.{page_size}
use Rattle.rules.specs.Choice.{pick, picked, passed}
use Rattle.tools.specs.Search.{any, any_goes, any_stops, any_ends}
use Rattle.descriptors.specs.Numbers.{span, slot_size, span_most, base_of}
use Rattle.descriptors.specs.Meaning.{is_table, meaning}
use Rattle.descriptors.specs.declared.Descriptor.{Descriptor}
use Rattle.descriptors.specs.declared.Descriptor.TheVariants.{Nothing, Table, Leaf}
use Rattle.walks.specs.Walk.{entry_for}

-- the table at this byte offset
unfoldable pub is_at : ℕ → Descriptor → Bool
is_at to Nothing = false
is_at to (Table at) = eqb at to
is_at to (Leaf p a) = false

-- how many entries of level 1 come before an entry for the addresses from b on: of an entry of level 2, the one above it does too
unfoldable pub gibs_before : ℕ → ℕ → ℕ
gibs_before k b = b / 1073741824 + pick (eqb k 1) 1 0

module _ (numbers : List ℕ) where
  -- what the entry of level 1 says of an address
  unfoldable pub gib : ℕ → Descriptor
  gib x = meaning 2 x (entry_for numbers 2 0 x)

  -- what the entry of level 2 says of it, where that of level 1 is a table
  unfoldable pub under : ℕ → Descriptor → Descriptor
  under x Nothing = Nothing
  under x (Table at) = meaning 1 x (entry_for numbers 1 at x)
  under x (Leaf p a) = Nothing

  unfoldable pub slot : ℕ → Descriptor
  slot x = under x (gib x)

  unfoldable pub says : ℕ → ℕ → Descriptor
  says k x = pick (eqb k 2) (gib x) (slot x)

  -- the i-th entry of a level leads to the table
  unfoldable pub leads : ℕ → ℕ → ℕ → Bool
  leads k to i = is_at to (says k (i * span k))

  -- before the entry for the addresses from b on
  unfoldable pub earlier : ℕ → ℕ → ℕ → Bool
  earlier k b to = eqb to 0 || (any (leads 2 to) 0 (gibs_before k b) || any (leads 1 to) 0 (b / slot_size))

  -- it is a table, and was reached before
  unfoldable pub again : ℕ → ℕ → ℕ → Bool
  again k b e = is_table k e && earlier k b (base_of page_size e)

-- ---- how the code meets it
module _ (to : ℕ) (d : Descriptor) where
  pub at_nothing : d ≡ Nothing → false ≡ is_at to d
  unfolding is_at
  at_nothing h = rw h

  pub at_table : (t : ℕ) → d ≡ Table t → eqb t to ≡ is_at to d
  unfolding is_at
  at_table t h = rw h

  pub at_leaf : (p a : ℕ) → d ≡ Leaf p a → false ≡ is_at to d
  unfolding is_at
  at_leaf p a h = rw h

module _ (numbers : List ℕ) (x : ℕ) where
  pub gib_is : (e : ℕ) (d : Descriptor) → e ≡ entry_for numbers 2 0 x → d ≡ meaning 2 x e → d ≡ gib numbers x
  unfolding gib
  gib_is e d f g = g ∙ rw f

  module _ (g : Descriptor) (f : g ≡ gib numbers x) where
    pub slot_nothing : g ≡ Nothing → Nothing ≡ slot numbers x
    unfolding slot under
    slot_nothing h = rw (← f, h)

    pub slot_leaf : (p a : ℕ) → g ≡ Leaf p a → Nothing ≡ slot numbers x
    unfolding slot under
    slot_leaf p a h = rw (← f, h)

    pub slot_table : (t e : ℕ) (d : Descriptor) → g ≡ Table t → e ≡ entry_for numbers 1 t x → d ≡ meaning 1 x e → d ≡ slot numbers x
    unfolding slot under
    slot_table t e d h i j = rw (← f, h, ← i) j

module _ (numbers : List ℕ) (k : ℕ) where
  pub says_gib : (x : ℕ) (d : Descriptor) → k ≡ 2 → d ≡ gib numbers x → d ≡ says numbers k x
  unfolding says
  says_gib x d e f = picked _ _ _ _ (eq-eqb k 2 e) f

  pub says_slot : (x : ℕ) (d : Descriptor) → (k ≡ 2 → ⊥) → d ≡ slot numbers x → d ≡ says numbers k x
  unfolding says
  says_slot x d e f = passed _ _ _ _ (ne_eqb k 2 e) f

  pub leads_so : (to i s : ℕ) (d : Descriptor) (r c : Bool) → s ≡ span k → d ≡ says numbers k (i * s) → r ≡ is_at to d → r ≡ c → leads numbers k to i ≡ c
  unfolding leads
  leads_so to i s d r c e f g h = rw (← e, ← f, ← g) h

pub ruleset saying = (at_nothing, at_table, at_leaf, gib_is, slot_nothing, slot_leaf, slot_table, says_gib, says_slot)

pub steps_fit : (k s i : ℕ) → s ≡ span k → i ≤ 1048576 → i * s ≤ 1125899906842624
steps_fit k s i e h = let z = mul-le-mul_right s h in omega (arith, span_most k)

module _ (k b : ℕ) where
  pub gibs_under : k ≡ 1 → b / 1073741824 + 1 ≡ gibs_before k b
  unfolding gibs_before pick
  gibs_under h = rw h

  pub gibs_top : (k ≡ 1 → ⊥) → b / 1073741824 ≡ gibs_before k b
  unfolding gibs_before pick
  gibs_top h = rw (ne_eqb k 1 h) (omega arith)

  module _ (numbers : List ℕ) (to : ℕ) where
    pub earlier_zero : to ≡ 0 → true ≡ earlier numbers k b to
    unfolding earlier
    earlier_zero h = rw h

    module _ (n : ℕ) (g : Bool) (d : to ≡ 0 → ⊥) (e : n ≡ gibs_before k b) (f : g ≡ any (leads numbers 2 to) 0 n) where
      pub earlier_gib : g ≡ true → true ≡ earlier numbers k b to
      unfolding earlier
      earlier_gib h = rw (ne_eqb to 0 d, ← e, ← f, h)

      pub earlier_slot : (s : Bool) → g ≡ false → s ≡ any (leads numbers 1 to) 0 (b / slot_size) → s ≡ earlier numbers k b to
      unfolding earlier
      earlier_slot s h j = rw (ne_eqb to 0 d, ← e, ← f, h) j

pub ruleset reaching = (gibs_under, gibs_top, earlier_zero, earlier_gib, earlier_slot)

module _ (k e : ℕ) (t : Bool) (f : t ≡ is_table k e) (numbers : List ℕ) (b : ℕ) where
  pub again_not : t ≡ false → false ≡ again numbers k b e
  unfolding again
  again_not h = rw (← f, h)

  pub again_by : (r : ℕ) (v : Bool) → t ≡ true → r ≡ base_of page_size e → v ≡ earlier numbers k b r → v ≡ again numbers k b e
  unfolding again
  again_by r v h g i = rw (← f, h, ← g) i

-- the loop over the first n of a level
module _ (p : ℕ → Bool) (n : ℕ) where
  pub any_whole : any p 0 n ≡ any p 0 (n - 0)
  any_whole = let z : n - 0 ≡ n = omega arith in rw z

  module _ (i : ℕ) (k : Bool) (inv : k ≡ any p i (n - i)) where
    pub any_on : i < n → p i ≡ false → k ≡ any p (i + 1) (n - (i + 1))
    any_on h e = let z : n - (i + 1) ≡ n - i - 1 = omega arith in rw z (any_goes p i (n - i) k inv (omega arith) e)

    pub any_here : i < n → p i ≡ true → true ≡ k
    any_here h e = any_stops p i (n - i) k inv (omega arith) e

    pub any_over : n ≤ i → false ≡ k
    any_over h = any_ends p i (n - i) k inv (omega arith)
