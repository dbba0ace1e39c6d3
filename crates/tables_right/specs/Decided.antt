-- By which mapping the addresses of one entry are decided, in a list whose mappings are well formed.
use Rattle.std.specs.Prelude.{◌≡◌, List, eqb, leb, None, Option, Some}
use Rattle.std.proofs.Math.Path.{refl, sym}
use Rattle.std.proofs.Common.{ap, ◌∙◌, arith}
use Rattle.std.proofs.Math.Bool.{true, false}
use Prim.Native.Nat.{ℕ, zero, suc, ◌+◌, ◌-◌, ◌*◌, ◌/◌, ◌%◌, ◌^◌, ◌≤◌, ◌<◌}
use Rattle.std.specs.Int.Count.{count_trailing_zeros}
use borrow.Author.Tests.{eqb-true, eq-eqb, leb-true, le-leb}
use Rattle.rules.specs.Choice.{either, left_true, right_true, both_true, yes_or_no}
use Rattle.rules.specs.Sizes.{page_size}
use Rattle.tools.specs.Search.{all_at, all_if}
use Rattle.pages.specs.Window.{Acceptable}
use Rattle.pages.specs.declared.Window.{Window}
use Rattle.ranges.specs.declared.Mapping.{Mapping}
use Rattle.mapping.specs.Mapping.{holds, deciding}
use Rattle.mapping.specs.Entries.{Every, every_of, every_among}
use Rattle.mapping.specs.Deciding.{smallest_alike}
use Rattle.mapping.proofs.Deciding.{deciding_is, deciding_low}
use Rattle.mapping.specs.Sound.{Formed}
use Rattle.descriptors.specs.Numbers.{span}
use Rattle.entries.specs.Touched.{holds_low, holds_high, holds_if}
use Rattle.entries.specs.Entries.{same, is_by, decides, throughout, physical, allowed, block_by, block, whole}
use Rattle.tables_right.specs.Zeros.{zeros_slot, slot_zeros}

-- a mapping of whole pages holds an address where it holds the start of its page
same_page : (w : Window) (m : Mapping) → Formed w m → (b x : ℕ) → b % 4096 ≡ 0 → b ≤ x → x < b + 4096 → holds x m ≡ holds b m
same_page w m f b x a h u =
    either (holds b m)
    (λ y. holds_if x m (omega (arith, holds_low b m y)) (omega (arith, holds_high b m y, f.virt_aligned, f.size_aligned)) ∙ sym y)
    (λ n. either (holds x m)
    (λ y. absurd (yes_or_no (holds b m) (holds_if b m (omega (arith, holds_low x m y, f.virt_aligned)) (omega (arith, holds_high x m y))) n))
    (λ k. k ∙ sym n))

-- one mapping by its four numbers
same_is : (m n : Mapping) → same m n ≡ true → m ≡ n
unfolding same
same_is m n e =
    let f = right_true (eqb m.virt n.virt) _ e in
    let g = right_true (eqb m.phys n.phys) _ f in
    let p1 = eqb-true m.virt n.virt (left_true (eqb m.virt n.virt) _ e) in
    let p2 = eqb-true m.phys n.phys (left_true (eqb m.phys n.phys) _ f) in
    let p3 = eqb-true m.size n.size (left_true (eqb m.size n.size) _ g) in
    let p4 = eqb-true m.attr n.attr (right_true (eqb m.size n.size) _ g) in
    λ i. record { virt = p1 i; phys = p2 i; size = p3 i; attr = p4 i }

same_self : (m : Mapping) → same m m ≡ true
unfolding same
same_self m = both_true _ _ (eq-eqb m.virt m.virt refl) (both_true _ _ (eq-eqb m.phys m.phys refl) (both_true _ _ (eq-eqb m.size m.size refl) (eq-eqb m.attr m.attr refl)))

by_is : (m : Mapping) (d : Option Mapping) → is_by m d ≡ true → d ≡ Some m
unfolding is_by
by_is m None e = let z : false ≡ true = e in absurd (yes_or_no false z refl)
by_is m (Some n) e = ap Some (sym (same_is m n e))

by_self : (m : Mapping) (d : Option Mapping) → d ≡ Some m → is_by m d ≡ true
unfolding is_by
by_self m d e = rw e (same_self m)

-- ---- which mapping decides
module _ (w : Window) (l : List Mapping) (formed : Every (Formed w) l) where
  pub decider_formed : (x : ℕ) (m : Mapping) → deciding l x ≡ Some m → Formed w m
  decider_formed x m e = every_among (Formed w) l m formed (deciding_is l x m e).among

  pub decider_low : (x : ℕ) (m : Mapping) → deciding l x ≡ Some m → m.virt ≤ x
  decider_low x m e = deciding_low l x m e

  decider_high : (x : ℕ) (m : Mapping) → deciding l x ≡ Some m → x < m.virt + m.size
  decider_high x m e = holds_high x m (deciding_is l x m e).passes

  -- all addresses of a page by one
  on_page : (b x : ℕ) → b % 4096 ≡ 0 → b ≤ x → x < b + 4096 → deciding l x ≡ deciding l b
  unfolding deciding
  on_page b x a h u =
      smallest_alike (holds x) (holds b) l (every_of (λ (m : Mapping). holds x m ≡ holds b m) l (λ m z. same_page w m (every_among (Formed w) l m formed z) b x a h u))

  -- none from 2^32 on
  pub nobody_above : (x : ℕ) → 4294967296 ≤ x → deciding l x ≡ None
  nobody_above x h = go (deciding l x) refl
    where
      go : (d : Option Mapping) → deciding l x ≡ d → d ≡ None
      go None e = refl
      go (Some m) e = absurd (omega (arith, decider_high x m e, (decider_formed x m e).ends))

  -- ---- a page of a slot
  -- where page x lies in its slot
  page_of : (b x : ℕ) → b ≤ x → x < b + 2097152 → (b + (x - b) / 4096 * 4096 ≤ x) × ((x < b + (x - b) / 4096 * 4096 + 4096) × ((x - b) / 4096 < 512))
  page_of b x h u = (omega arith, (omega arith, omega arith))

  cut_is : (b i : ℕ) → b ≤ 549755813888 → i < 512 → (b + i * page_size) % 2 ^ 64 ≡ b + i * 4096
  cut_is b i h u = omega arith

  module _ (b : ℕ) (a : b % 2097152 ≡ 0) (h : b ≤ 549755813888) (m : Mapping) where
    pub throughout_is : throughout l m b ≡ true → (x : ℕ) → b ≤ x → x < b + 2097152 → deciding l x ≡ Some m
    unfolding throughout decides
    throughout_is t x lo hi =
        let p = page_of b x lo hi in
        let i = (x - b) / 4096 in
        let y = b + i * 4096 in
        let e = by_is m _ (all_at (decides l m b) 0 512 i t (omega arith) p.1.1) in
        let f : deciding l y ≡ Some m = rw (cut_is b i h p.1.1) at e in
        on_page y x (omega arith) p.0 p.1.0 ∙ f

    pub throughout_if : ((x : ℕ) → b ≤ x → x < b + 2097152 → deciding l x ≡ Some m) → throughout l m b ≡ true
    unfolding throughout decides
    throughout_if f =
        all_if (decides l m b) 0 512
        (λ i z u. by_self m _ (rw (cut_is b i h (omega arith)) (f (b + i * 4096) (omega arith) (omega arith))))

-- ---- where it leads
module _ (w : Window) (acc : Acceptable w) (l : List Mapping) (formed : Every (Formed w) l) where
  -- the physical address is exact, and below 2^48
  pub exact_physical : (x : ℕ) (m : Mapping) → deciding l x ≡ Some m → (physical m x ≡ m.phys + (x - m.virt)) × (m.phys + (x - m.virt) < 281474976710656)
  exact_physical x m e =
      let f = decider_formed w l formed x m e in
      let low = decider_low w l formed x m e in
      let high = decider_high w l formed x m e in
      let z : m.phys + (x - m.virt) < 281474976710656 = omega (arith, f.high, acc.ends) in
      (omega arith, z)

  -- one mapping for all addresses of an entry, at a physical address that such an entry may have
  pub record One (k b x : ℕ) : Type 0 where
    pub alike : deciding l x ≡ deciding l b
    pub starts : (m : Mapping) → deciding l b ≡ Some m → physical m b % span k ≡ 0

  page_starts : (b : ℕ) (m : Mapping) → b % 4096 ≡ 0 → deciding l b ≡ Some m → physical m b % 4096 ≡ 0
  page_starts b m a e =
      let f = decider_formed w l formed b m e in
      let low = decider_low w l formed b m e in
      rw (exact_physical b m e).0 (omega (arith, f.virt_aligned, f.phys_aligned))

  pub whole_one : (k b x : ℕ) → whole l k b ≡ true → b ≤ 549755813888 → b % span k ≡ 0 → b ≤ x → x < b + span k → One k b x
  unfolding whole span block block_by allowed
  whole_one zero b x e h a lo hi = record { alike = on_page w l formed b x a lo hi; starts = λ m i. page_starts b m a i }
  whole_one (suc zero) b x e h a lo hi = slot (deciding l b) refl e
    where
      slot : (d : Option Mapping) → deciding l b ≡ d → block_by l b d ≡ true → One 1 b x
      slot None i f = let z : false ≡ true = f in absurd (yes_or_no false z refl)
      slot (Some m) i f =
          let z = leb-true 21 (count_trailing_zeros 64 (physical m b)) (left_true (leb 21 (count_trailing_zeros 64 (physical m b))) _ f) in
          let t = throughout_is w l formed b a h m (right_true (leb 21 (count_trailing_zeros 64 (physical m b))) _ f) in
          record {
            alike = t x lo hi ∙ sym i;
            starts = λ n j. let g : Some n ≡ Some m = sym j ∙ i in let v : n ≡ m = cc in rw v (zeros_slot (physical m b) z);
          }
  whole_one (suc (suc k)) b x e h a lo hi = let z : false ≡ true = e in absurd (yes_or_no false z refl)

  -- ---- the paper's words for a block: one mapping decides throughout the slot, and the trailing zeros of both its addresses allow it
  pub record Block (b : ℕ) : Type 0 where
    pub by : Mapping
    pub decides_it : (x : ℕ) → b ≤ x → x < b + 2097152 → deciding l x ≡ Some by
    pub virtual_zeros : 21 ≤ count_trailing_zeros 64 b
    pub physical_zeros : 21 ≤ count_trailing_zeros 64 (by.phys + (b - by.virt))

  module _ (b : ℕ) (a : b % 2097152 ≡ 0) (h : b ≤ 549755813888) where
    pub block_is : block l b ≡ true → Block b
    unfolding block block_by allowed
    block_is = go (deciding l b) refl
      where
        go : (d : Option Mapping) → deciding l b ≡ d → block_by l b d ≡ true → Block b
        go None i f = let z : false ≡ true = f in absurd (yes_or_no false z refl)
        go (Some m) i f = record {
          by = m;
          decides_it = throughout_is w l formed b a h m (right_true (leb 21 (count_trailing_zeros 64 (physical m b))) _ f);
          virtual_zeros = slot_zeros b a;
          physical_zeros = rw (exact_physical b m i).0 at (leb-true 21 (count_trailing_zeros 64 (physical m b)) (left_true (leb 21 (count_trailing_zeros 64 (physical m b))) _ f));
        }

    pub block_if : Block b → block l b ≡ true
    unfolding block block_by allowed
    block_if k =
        let i = k.decides_it b (omega arith) (omega arith) in
        rw i (both_true _ _ (le-leb 21 (count_trailing_zeros 64 (physical k.by b)) (rw (exact_physical b k.by i).0 k.physical_zeros)) (throughout_if w l formed b a h k.by k.decides_it))
