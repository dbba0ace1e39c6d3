-- Whatever a sound list maps, it touches at most 39 slots of 2 MiB: a mapping touches as many slots as its pages fill and at most
-- the rest of two more, there are at most sixteen, and those that lie in no other have at most the 4096 pages of a window between them.
use Rattle.std.specs.Prelude.{◌≡◌, Bool, true, false, ℕ, ◌+◌, ◌-◌, ◌*◌, ◌/◌, ◌≤◌, leb, length}
use Rattle.std.proofs.Math.Path.{refl}
use mathlib.Core.List.{List, [], ◌∷◌}
use Rattle.std.proofs.Math.Logic.{inl, inr, ⊎_elim}
use native.Mathlib.Omega.{arith}
use borrow.Author.Tests.{leb-true, leb-false}
use Rattle.rules.specs.Choice.{either, neither, not_first, not_second}
use Rattle.rules.specs.Sizes.{page_size}
use Rattle.tools.specs.Count.{count, count_le}
use Rattle.pages.specs.Window.{acceptable, Acceptable, accepted}
use Rattle.pages.specs.declared.Window.{Window}
use Rattle.ranges.specs.Ranges.{meet, meet_before, meet_if, meet_not}
use Rattle.ranges.specs.Nested.{Inner, windowed}
use Rattle.ranges.specs.Mapping.{meets}
use Rattle.mapping.specs.Mapping.{any_of, clash, clashes, on_pages, touched}
use Rattle.mapping.specs.Entries.{Every, Apart}
use Rattle.mapping.specs.Sound.{page_start, on_page, Formed, Sound, covered_whole}
use Rattle.ranges.specs.declared.Mapping.{Mapping}
use Rattle.slots.specs.Ranges.{count_most, count_least, count_apart, count_grows, added, any_added}
use Rattle.slots.specs.Outermost.{Clear, Kin, AllClear, AllKin, Grows, outermost}

-- the size of a slot
abbrev pub slot : ℕ
slot = 2097152

-- the mapping's virtual range meets the slot
unfoldable pub in_slot : Mapping → ℕ → Bool
in_slot m i = meet (i * slot) slot m.virt m.size

-- ---- one mapping
module _ (w : Window) (m : Mapping) (f : Formed w m) where
  -- the slots that it touches
  one_touches : (n : ℕ) → slot * count (in_slot m) 0 n ≤ m.size + 4186112
  unfolding in_slot
  one_touches n =
      let low = m.virt / slot in
      let high = (m.virt + m.size - 1) / slot + 1 in
      let some = f.some in
      let most = count_most (λ (i : ℕ). meet (i * slot) slot m.virt m.size) low high
      (λ i e. let b = meet_before (i * slot) slot m.virt m.size e (omega arith) some in (omega arith, omega arith)) 0 n in
      let v = f.virt_aligned in
      let s = f.size_aligned in
      omega arith

  -- the pages of the window that it covers
  abbrev pages_in : ℕ → Bool
  pages_in page = on_page w page m

  one_covers : Acceptable w → m.size ≤ page_size * count pages_in 0 w.pages
  unfolding on_pages
  one_covers a =
      let first = (m.phys - w.base) / page_size in
      let b = a.aligned in
      let p = f.phys_aligned in
      let s = f.size_aligned in
      let lo = f.low in
      let hi = f.high in
      let least = count_least pages_in first (first + m.size / page_size)
      (λ i l h. meet_if (page_start w i) (1 * page_size) m.phys m.size (omega arith) (omega arith)) w.pages (omega arith) in
      omega arith

-- ---- mappings that are clear of each other
unfoldable sizes : List Mapping → ℕ
sizes [] = 0
sizes (m ∷ l) = m.size + sizes l

module _ (w : Window) where
  all_touch : (n : ℕ) (l : List Mapping) → Every (Formed w) l → slot * added in_slot l n ≤ sizes l + length l * 4186112
  unfolding Every added sizes
  all_touch n [] f = omega arith
  all_touch n (m ∷ l) f = omega (arith, one_touches w m f.0 n, all_touch n l f.1)

  module _ (a : Acceptable w) where
    -- a page that one covers no other does
    not_both : (page : ℕ) (m n : Mapping) → Formed w m → Formed w n → Clear m n → on_page w page m ≡ true → on_page w page n ≡ false
    not_both page m n f g c e =
        either (on_page w page n)
        (λ y. let b = covered_whole w a m f page e in
        let d = covered_whole w a n g page y in
        ⊎_elim (λ (z : m.phys + m.size ≤ n.phys). absurd (omega arith)) (λ (z : n.phys + n.size ≤ m.phys). absurd (omega arith)) c)
        (λ k. k)

    none_covers : (page : ℕ) (m : Mapping) → Formed w m → on_page w page m ≡ true → (l : List Mapping) → Every (Formed w) l → Every (Clear m) l → any_of (on_page w page) l ≡ false
    unfolding Every any_of
    none_covers page m f e [] g c = refl
    none_covers page m f e (n ∷ l) g c = neither (on_page w page n) _ (not_both page m n f g.0 c.0 e) (none_covers page m f e l g.1 c.1)

    all_cover : (l : List Mapping) → Every (Formed w) l → AllClear l → sizes l ≤ page_size * count (λ (page : ℕ). any_of (on_page w page) l) 0 w.pages
    unfolding Every AllClear sizes any_of
    all_cover [] f c = omega arith
    all_cover (m ∷ l) f c =
        let here = one_covers w m f.0 a in
        let rest = all_cover l f.1 c.1 in
        let both = count_apart (λ (page : ℕ). on_page w page m) (λ (page : ℕ). any_of (on_page w page) l) (λ page e. none_covers page m f.0 e l f.1 c.0) 0 w.pages in
        omega arith

    -- so their pages are no more than the window's
    clear_fit : (l : List Mapping) → Every (Formed w) l → AllClear l → sizes l ≤ 16777216
    clear_fit l f c =
        let covered = all_cover l f c in
        let most = count_le (λ (page : ℕ). any_of (on_page w page) l) 0 w.pages in
        let window = a.most in
        omega arith

-- ---- any that are kin
slot_grows : (i : ℕ) → Grows (λ (m : Mapping). in_slot m i)
unfolding in_slot
slot_grows i n m h e =
    let b = meet_before (i * slot) slot n.virt n.size e (omega arith) h.some in
    let low = h.low in
    let high = h.high in
    meet_if (i * slot) slot m.virt m.size (omega arith) (omega arith)

pub few_touched :
    (w : Window) → Acceptable w → (l : List Mapping) → Every (Formed w) l → AllKin l → length l ≤ 16 →
    (n : ℕ) → count (λ (i : ℕ). any_of (λ (m : Mapping). in_slot m i) l) 0 n ≤ 39
few_touched w a l f k h n =
    let o = outermost l k in
    let g = o.still (Formed w) f in
    let grows = count_grows (λ (i : ℕ). any_of (λ (m : Mapping). in_slot m i) l) (λ (i : ℕ). any_of (λ (m : Mapping). in_slot m i) o.outer)
    (λ i e. o.touches (λ (m : Mapping). in_slot m i) (slot_grows i) e) 0 n in
    let one = any_added in_slot o.outer n in
    let all = all_touch w n o.outer g in
    let fit = clear_fit w a o.outer g o.clear in
    let few = o.few in
    omega arith

-- ---- a sound list
module _ (w : Window) where
  -- two that do not clash
  kin_two : (m n : Mapping) → Formed w m → Formed w n → clashes m n ≡ false → Kin m n
  unfolding meets
  kin_two m n f g c =
      either (meets m n)
      (λ y. ⊎_elim (λ (i : Inner m n). inl (record { some = f.some; low = i.low; high = i.high }))
      (λ (i : Inner n m). inr (inl (record { some = g.some; low = i.low; high = i.high }))) (windowed m n c y))
      (λ k. inr (inr
      (let h = not_second (meet m.virt m.size n.virt n.size) _ k in
      either (leb (m.phys + m.size) n.phys) (λ y. inl (leb-true _ _ y))
      (λ z. let a = leb-false (m.phys + m.size) n.phys z in
      either (leb (n.phys + n.size) m.phys) (λ y. inr (leb-true _ _ y))
      (λ u. let b = leb-false (n.phys + n.size) m.phys u in absurd (meet_not m.phys m.size n.phys n.size h (omega arith) (omega arith)))))))

  kin_one : (m : Mapping) → Formed w m → (l : List Mapping) → Every (Formed w) l → clash l m ≡ false → Every (Kin m) l
  unfolding Every clash any_of
  kin_one m f [] g c = tt
  kin_one m f (n ∷ l) g c = (kin_two m n f g.0 (not_first (clashes m n) _ c), kin_one m f l g.1 (not_second (clashes m n) _ c))

  kin_all : (l : List Mapping) → Every (Formed w) l → Apart l → AllKin l
  unfolding Every Apart AllKin
  kin_all [] f a = tt
  kin_all (m ∷ l) f a = (kin_one m f.0 l f.1 a.0, kin_all l f.1 a.1)

-- A list that a run reaches touches at most 39 slots of the n from 0 on.
pub few_slots :
    (w : Window) (o : List ℕ) (world : ℕ) (l : List Mapping) → acceptable w ≡ true → Sound w o world l →
    (n : ℕ) → count (λ (i : ℕ). touched l (i * slot) slot) 0 n ≤ 39
unfolding touched in_slot
few_slots w o world l ok s n = few_touched w (accepted w ok) l s.formed (kin_all w l s.formed s.apart) s.few n
