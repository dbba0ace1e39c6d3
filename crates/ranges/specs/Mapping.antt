-- One mapping: what may be asked of it, and what may be wrong with it by itself.
use Rattle.std.specs.Prelude.{◌≡◌, Bool, true, false, not, ◌&&◌, ◌||◌, ℕ, ◌+◌, ◌*◌, ◌/◌, ◌%◌, ◌≤◌, ◌<◌, ltb, leb, eqb, None, Option, Some}
use Rattle.std.proofs.Math.Path.{refl}
use Rattle.std.proofs.Common.{sym, ◌∙◌, eq-eqb, ne_eqb, le-leb}
use Rattle.std.proofs.lemmas.Bool.{lt-leb}
use Rattle.rules.specs.Choice.{pick, picked, passed}
use Rattle.rules.specs.Sizes.{page_size, virtual_limit, last_attributes}
use Rattle.pages.specs.Window.{run_of}
use Rattle.pages.specs.declared.Window.{Window}
use Rattle.ranges.specs.Ranges.{within, meet, inside, level}
use Rattle.ranges.specs.declared.Mapping.{Mapping}

-- ---- what is asked of a mapping

-- it has exactly this start and size
unfoldable pub exact : ℕ → ℕ → Mapping → Bool
exact v s m = eqb m.virt v && eqb m.size s

-- its physical range meets this one
abbrev pub on_range : ℕ → ℕ → Mapping → Bool
on_range start size m = meet start size m.phys m.size

-- its physical range meets the run of pages
unfoldable pub on_pages : ℕ → ℕ → Mapping → Bool
on_pages start count m = on_range start (count * page_size) m

-- its virtual range meets this one
abbrev pub touches : ℕ → ℕ → Mapping → Bool
touches start size m = meet start size m.virt m.size

-- the virtual address lies in it
unfoldable pub holds : ℕ → Mapping → Bool
holds x m = within x m.virt m.size

-- the two meet, in virtual or in physical addresses
unfoldable pub meets : Mapping → Mapping → Bool
meets n m = meet n.virt n.size m.virt m.size || meet n.phys n.size m.phys m.size

-- the first lies wholly inside the second, or around it
unfoldable pub inside_or_around : Mapping → Mapping → Bool
inside_or_around n m = inside n.virt n.size m.virt m.size || inside m.virt m.size n.virt n.size

-- virtual less physical is equal in both, their ranges differ, and one lies inside the other: so it does in physical addresses too
unfoldable pub nested : Mapping → Mapping → Bool
nested n m = level n.virt n.phys m.virt m.phys && (not (exact n.virt n.size m) && inside_or_around n m)

-- the two meet, and are not nested
unfoldable pub clashes : Mapping → Mapping → Bool
clashes n m = meets n m && not (nested n m)

-- which of two decides an address: the first where it holds the address and is no larger than the second, which may be nobody, of size 0
unfoldable pub preferred : ℕ → Mapping → Mapping → Mapping
preferred x m b = pick (holds x m) (pick (eqb b.size 0) m (pick (leb m.size b.size) m b)) b

-- ---- what is wrong with it

-- not a multiple of 4096
abbrev pub unaligned : ℕ → Bool
unaligned x = not (eqb (x % page_size) 0)

-- a start or the size is no whole number of pages, or there are no such attributes
unfoldable pub malformed : Mapping → Bool
malformed m = unaligned m.virt || (unaligned m.phys || (unaligned m.size || ltb last_attributes m.attr))

-- where its physical pages lie
abbrev pub pages_of : Window → Mapping → Option ℕ
pages_of w m = run_of w m.phys (m.size / page_size)

unfoldable pub is_outside : Option ℕ → Bool
is_outside (Some first) = false
is_outside None = true

-- it reaches past the window, or past the last virtual address
unfoldable pub beyond : Window → Mapping → Bool
beyond w m = is_outside (pages_of w m) || ltb virtual_limit (m.virt + m.size)

-- ---- how the code's tests meet these: by the place of the mapping's pages
module _ (k : Option ℕ) (w : Window) (m : Mapping) (said : k ≡ pages_of w m) where
  pub beyond_window : k ≡ None → true ≡ beyond w m
  unfolding beyond is_outside
  beyond_window e = rw (← said, e)

  pub beyond_end : (first : ℕ) (r : Bool) → k ≡ Some first → r ≡ ltb virtual_limit (m.virt + m.size) → r ≡ beyond w m
  unfolding beyond is_outside
  beyond_end first r e h = rw (← said, e) h

pub ruleset page_tests = (beyond_window, beyond_end)

-- by which of the two the code's arms take
module _ (x : ℕ) (m b : Mapping) (r : Bool) (said : r ≡ within x m.virt m.size) where
  pub prefers_other : r ≡ false → b ≡ preferred x m b
  unfolding preferred holds
  prefers_other e = passed _ _ _ _ (sym said ∙ e) refl

  module _ (e : r ≡ true) where
    pub prefers_only : b.size ≡ 0 → m ≡ preferred x m b
    unfolding preferred holds
    prefers_only h = picked _ _ _ _ (sym said ∙ e) (picked _ _ _ _ (eq-eqb _ _ h) refl)

    module _ (h : b.size ≡ 0 → ⊥) where
      pub prefers_smaller : m.size ≤ b.size → m ≡ preferred x m b
      unfolding preferred holds
      prefers_smaller l = picked _ _ _ _ (sym said ∙ e) (passed _ _ _ _ (ne_eqb _ _ h) (picked _ _ _ _ (le-leb _ _ l) refl))

      pub prefers_not_larger : b.size < m.size → b ≡ preferred x m b
      unfolding preferred holds
      prefers_not_larger l = picked _ _ _ _ (sym said ∙ e) (passed _ _ _ _ (ne_eqb _ _ h) (passed _ _ _ _ (lt-leb _ _ l) refl))

pub ruleset preferences = (prefers_other, prefers_only, prefers_smaller, prefers_not_larger)
