-- What a build leaves, in plain statements: of any list of mappings whatever, and of one whose mappings are well formed.
use Rattle.std.specs.Prelude.{◌≡◌, Option, Some, None, false, not, ℕ, zero, suc, ◌+◌, ◌*◌, ◌≤◌, ◌<◌, leb, ltb, length}
use Rattle.std.proofs.Math.Path.{refl}
use Rattle.std.proofs.Common.{◌∙◌, leb-true, leb-false, ltb-true, ltb-false}
use mathlib.Core.List.{List, []}
use native.Mathlib.Omega.{arith}
use Rattle.std.proofs.Math.ListN.{get_or}
use Rattle.rules.specs.Choice.{pick, pick_no, chosen, either, right_false}
use Rattle.tools.specs.Count.{count}
use Rattle.tools.specs.Laid.{laid, length_laid}
use Rattle.pages.specs.Window.{Acceptable}
use Rattle.pages.specs.declared.Window.{Window}
use Rattle.ranges.specs.declared.Mapping.{Mapping}
use Rattle.mapping.specs.Mapping.{any_of, leading, lead_of, touched}
use Rattle.mapping.specs.Entries.{Every}
use Rattle.mapping.specs.Sound.{Formed}
use Rattle.descriptors.specs.Numbers.{span}
use Rattle.walks.specs.Walk.{walked, walked_low, walked_high}
use Rattle.entries.specs.Entries.{whole, deeper, entry}
use Rattle.layout.specs.Rows.{Stands, total_most, stands_laid, past_stays}
use Rattle.layout.specs.Layout.{part, tables, below, below_at, entry_at, tree}
use Rattle.layout.proofs.Laws.{tables_are, length_tree, few_tables}
use Rattle.building.specs.Built.{status, built}
use Rattle.tables_right.specs.Counted.{gib_touched, slot_paged, tables_counted}
use Rattle.tables_right.specs.Decided.{nobody_above}
use Rattle.tables_right.specs.Walked.{walk_right}

-- ---- of any list and any numbers lent
module _ (l : List Mapping) (numbers : List ℕ) where
  -- what a build answers, and what it makes of the numbers
  abbrev pub said : Option ℕ
  said = (built l numbers).0

  abbrev pub left : List ℕ
  left = (built l numbers).1

  -- a statement about both, by whether the tables fit
  pub by_room : (P : Option ℕ × List ℕ → Type 0) → (512 * tables l 2 0 ≤ length numbers → P (Some (tables l 2 0), laid numbers 0 (tree l 2 0 0))) → (length numbers < 512 * tables l 2 0 → P (None, numbers)) → P (built l numbers)
  unfolding built
  by_room P y n = chosen P (leb (512 * tables l 2 0) (length numbers)) _ _ (λ e. y (leb-true _ _ e)) (λ e. n (leb-false _ _ e))

  -- There is one table of level 1, one of level 2 for each GiB touched, and one of level 3 for each touched slot that is no block.
  pub counted : tables l 2 0 ≡ 1 + count (gib_touched l) 0 512 + count (slot_paged l) 0 262144
  counted = tables_counted l

  -- It is refused with 88 exactly where 512 numbers for each table are more than were lent.
  pub refused_only : status said ≡ 0x88 → length numbers < 512 * tables l 2 0
  refused_only = by_room (λ (o : Option ℕ × List ℕ). status o.0 ≡ 0x88 → length numbers < 512 * tables l 2 0) (λ h (e : 0 ≡ 0x88). absurd (omega arith)) (λ h e. h)

  pub refused_where : length numbers < 512 * tables l 2 0 → status said ≡ 0x88
  refused_where g = by_room (λ (o : Option ℕ × List ℕ). status o.0 ≡ 0x88) (λ h. absurd (omega arith)) (λ h. refl)

  -- Then nothing is written.
  pub refused_same : status said ≡ 0x88 → left ≡ numbers
  refused_same = by_room (λ (o : Option ℕ × List ℕ). status o.0 ≡ 0x88 → o.1 ≡ numbers) (λ h (e : 0 ≡ 0x88). absurd (omega arith)) (λ h e. refl)

  -- Else it says how many tables there are.
  pub says_count : status said ≡ 0 → said ≡ Some (tables l 2 0)
  says_count = by_room (λ (o : Option ℕ × List ℕ). status o.0 ≡ 0 → o.0 ≡ Some (tables l 2 0)) (λ h e. refl) (λ h (e : 0x88 ≡ 0). absurd (omega arith))

  -- Numbers past the tables stay, and none comes or goes.
  pub past_stay : (i : ℕ) → 512 * tables l 2 0 ≤ i → get_or left i 0 ≡ get_or numbers i 0
  past_stay i g =
      by_room (λ (o : Option ℕ × List ℕ). get_or o.1 i 0 ≡ get_or numbers i 0) (λ h. past_stays (tree l 2 0 0) numbers 0 i (omega (arith, length_tree l 2 0 0))) (λ h. refl)

  pub length_stays : length left ≡ length numbers
  length_stays = by_room (λ (o : Option ℕ × List ℕ). length o.1 ≡ length numbers) (λ h. length_laid numbers 0 (tree l 2 0 0)) (λ h. refl)

  -- What stands in the tables owes nothing to what stood there before.
  pub tables_stand : status said ≡ 0 → (i : ℕ) → i < 512 * tables l 2 0 → get_or left i 0 ≡ get_or (tree l 2 0 0) i 0
  unfolding Stands
  tables_stand =
      by_room (λ (o : Option ℕ × List ℕ). status o.0 ≡ 0 → (i : ℕ) → i < 512 * tables l 2 0 → get_or o.1 i 0 ≡ get_or (tree l 2 0 0) i 0)
      (λ h e i u. let z : 0 + i ≡ i = omega arith in
      rw z at (stands_laid numbers (tree l 2 0 0) 0 (omega (arith, length_tree l 2 0 0)) i (omega (arith, length_tree l 2 0 0))))
      (λ h (e : 0x88 ≡ 0). absurd (omega arith))

-- ---- of well formed mappings in a window
module _ (w : Window) (acc : Acceptable w) (l : List Mapping) (formed : Every (Formed w) l) (numbers : List ℕ) where
  low_right : (x : ℕ) → x < 4294967296 → 512 * tables l 2 0 ≤ length numbers → walked (laid numbers 0 (tree l 2 0 0)) x ≡ lead_of l x
  unfolding span
  low_right x u h =
      walked_low (laid numbers 0 (tree l 2 0 0)) x u
      ∙ walk_right w acc l formed (laid numbers 0 (tree l 2 0 0)) x 2 0 0 (omega arith) refl (omega arith) (omega arith) (omega arith) (omega (arith, few_tables l 0))
      (stands_laid numbers (tree l 2 0 0) 0 (omega (arith, length_tree l 2 0 0)))

  high_right : (x : ℕ) → 4294967296 ≤ x → (n : List ℕ) → walked n x ≡ lead_of l x
  unfolding lead_of leading
  high_right x u n = walked_high n x u ∙ rw (nobody_above w l formed x u)

  -- The walk of the tables leads every address where the list does.
  pub leads_alike : status (said l numbers) ≡ 0 → (x : ℕ) → walked (left l numbers) x ≡ lead_of l x
  leads_alike =
      by_room l numbers (λ (o : Option ℕ × List ℕ). status o.0 ≡ 0 → (x : ℕ) → walked o.1 x ≡ lead_of l x)
      (λ h e x. either (ltb x 4294967296) (λ y. low_right x (ltb-true _ _ y) h) (λ n. high_right x (ltb-false _ _ n) (laid numbers 0 (tree l 2 0 0))))
      (λ h (e : 0x88 ≡ 0). absurd (omega arith))

-- ---- of no mapping
none_below : (k b : ℕ) → below [] k b ≡ 0
unfolding below deeper touched any_of
none_below zero b = refl
none_below (suc k) b = pick_no _ _ _ (right_false (not (whole [] (suc k) b)) false refl)

-- An empty list has one table, of zeros.
pub empty_one : tables [] 2 0 ≡ 1
unfolding below_at
empty_one = let z = total_most (below_at [] 2 0) 0 (λ i. omega (arith, none_below 2 (part 2 0 i))) 512 in omega (arith, tables_are [] 2 0)

pub empty_zeros : (i : ℕ) → entry_at [] 2 0 0 i ≡ 0
unfolding entry_at entry whole touched any_of pick
empty_zeros i = refl
