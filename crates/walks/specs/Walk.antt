-- The walk, a level at a time as the hardware goes.
use Rattle.std.specs.Prelude.{◌≡◌, List, ltb, get_or, length, None, Option}
use Rattle.std.proofs.Math.Path.{sym}
use Rattle.std.proofs.Common.{ap, ◌∙◌, lt-ltb, le-ltb}
use Prim.Native.Nat.{ℕ, zero, suc, ◌+◌, ◌-◌, ◌/◌, ◌%◌, ◌<◌, ◌≤◌}
use native.Mathlib.Omega.{arith}
use Rattle.std.proofs.Math.ListN.{get_or-eq_default}
use Rattle.mapping.specs.Leads.{To}
use Rattle.mapping.specs.declared.Lead.{Lead}
use Rattle.rules.specs.Sizes.{virtual_limit}
use Rattle.rules.specs.Choice.{pick, pick_yes, pick_no}
use Rattle.descriptors.specs.Numbers.{span}
use Rattle.descriptors.specs.Meaning.{meaning}
use Rattle.descriptors.specs.declared.Descriptor.{Descriptor}
use Rattle.descriptors.specs.declared.Descriptor.TheVariants.{Nothing, Table, Leaf}

-- an entry of the table at a byte offset; past the numbers it is 0
abbrev pub entry_of : List ℕ → ℕ → ℕ → ℕ
entry_of numbers table i = get_or numbers (table / 8 + i) 0

-- the entry for an address
unfoldable pub entry_for : List ℕ → ℕ → ℕ → ℕ → ℕ
entry_for numbers k table x = entry_of numbers table (x / span k % 512)

-- where an entry leads, `deeper` being the walk by the table that it leads to
unfoldable pub led : (ℕ → Option Lead) → Descriptor → Option Lead
led deeper Nothing = None
led deeper (Table at) = deeper at
led deeper (Leaf phys attr) = To phys attr

-- where the address leads by the table at a byte offset, with so many levels to go
unfoldable pub descended : List ℕ → ℕ → ℕ → ℕ → Option Lead
descended numbers zero table x = None
descended numbers (suc k) table x = led (λ (at : ℕ). descended numbers k at x) (meaning k x (entry_for numbers k table x))

-- from level 1 at 0 on; no address from 2^32 on leads anywhere
unfoldable pub walked : List ℕ → ℕ → Option Lead
walked numbers x = pick (ltb x virtual_limit) (descended numbers 3 0 x) None

-- ---- an address by where it lies
pub walked_low : (numbers : List ℕ) (x : ℕ) → x < virtual_limit → walked numbers x ≡ descended numbers 3 0 x
unfolding walked
walked_low numbers x h = pick_yes _ _ _ (lt-ltb x virtual_limit h)

pub walked_high : (numbers : List ℕ) (x : ℕ) → virtual_limit ≤ x → walked numbers x ≡ None
unfolding walked
walked_high numbers x h = pick_no _ _ _ (le-ltb x virtual_limit h)

-- ---- how the code meets it
pub past_end : (l : List ℕ) (i : ℕ) → length l ≤ i → 0 ≡ get_or l i 0
past_end l i h = rw (get_or-eq_default l 0 h)

pub entry_is : (numbers : List ℕ) (k table x whole e : ℕ) → whole ≡ x / span k → e ≡ get_or numbers (table / 8 + whole % 512) 0 → e ≡ entry_for numbers k table x
unfolding entry_for
entry_is numbers k table x whole e s h = rw (← s) h

module _ (numbers : List ℕ) (levels table x : ℕ) where
  pub descended_none : levels ≡ 0 → None ≡ descended numbers levels table x
  unfolding descended
  descended_none h = rw h

  module _ (d : levels ≡ 0 → ⊥) (e : ℕ) (m : Descriptor) (f : e ≡ entry_for numbers (levels - 1) table x) (g : m ≡ meaning (levels - 1) x e) where
    descended_by : descended numbers levels table x ≡ led (λ (at : ℕ). descended numbers (levels - 1) at x) m
    unfolding descended
    descended_by = let z : levels ≡ suc (levels - 1) = omega arith in (ap (λ (k : ℕ). descended numbers k table x) z) ∙ rw (g, f)

    pub descended_nothing : m ≡ Nothing → None ≡ descended numbers levels table x
    unfolding led
    descended_nothing h = sym (descended_by ∙ rw h)

    pub descended_table : (at : ℕ) (r : Option Lead) → m ≡ Table at → r ≡ descended numbers (levels - 1) at x → r ≡ descended numbers levels table x
    unfolding led
    descended_table at r h i = i ∙ sym (descended_by ∙ rw h)

    pub descended_leaf : (phys attr : ℕ) → m ≡ Leaf phys attr → To phys attr ≡ descended numbers levels table x
    unfolding led
    descended_leaf phys attr h = sym (descended_by ∙ rw h)

module _ (numbers : List ℕ) (x : ℕ) where
  pub walked_above : virtual_limit ≤ x → None ≡ walked numbers x
  walked_above h = sym (walked_high numbers x h)

  pub walked_below : (r : Option Lead) → x < virtual_limit → r ≡ descended numbers 3 0 x → r ≡ walked numbers x
  walked_below r h f = f ∙ sym (walked_low numbers x h)

pub ruleset walking = (past_end, entry_is, descended_none, descended_nothing, descended_table, descended_leaf, walked_above, walked_below)
