-- How many tables a list can need that a run reaches: 44, of 512 numbers each.
use Rattle.std.specs.Prelude.{◌≡◌, Option, refl, true, not, List, ℕ, ◌*◌, ◌≤◌, ◌<◌, length}
use Rattle.std.proofs.Common.{arith}
use Rattle.rules.specs.Choice.{left_true}
use Rattle.tools.specs.Count.{count}
use Rattle.pages.specs.Window.{acceptable}
use Rattle.pages.specs.declared.Window.{Window}
use Rattle.ranges.specs.Ranges.{meet_before}
use Rattle.ranges.specs.declared.Mapping.{Mapping}
use Rattle.mapping.specs.Mapping.{touched, touches}
use Rattle.mapping.specs.Entries.{Every, every_among, among_any}
use Rattle.mapping.specs.Sound.{Formed, Sound}
use Rattle.entries.specs.Entries.{block}
use Rattle.slots.specs.Few.{few_slots}
use Rattle.slots.specs.Ranges.{count_grows, count_most}
use Rattle.layout.specs.Layout.{tables}
use Rattle.building.specs.Built.{status}
use Rattle.tables_right.specs.Counted.{gib_touched, slot_touched, slot_paged, tables_counted}
use Rattle.tables_right.specs.Theorems.{said, by_room}

-- only the first four GiB are touched
low_gibs : (w : Window) (l : List Mapping) → Every (Formed w) l → (g : ℕ) → gib_touched l g ≡ true → (0 ≤ g) × (g < 4)
unfolding gib_touched touched
low_gibs w l formed g e =
    let r = among_any (touches (g * 1073741824) 1073741824) l e in
    let m = r.0 in
    let f = every_among (Formed w) l m formed r.1.0 in
    let h = meet_before (g * 1073741824) 1073741824 m.virt m.size r.1.1 (omega arith) f.some in
    (omega arith, omega (arith, f.ends))

paged_touched : (l : List Mapping) (s : ℕ) → slot_paged l s ≡ true → slot_touched l s ≡ true
unfolding slot_paged
paged_touched l s e = left_true (slot_touched l s) (not (block l (s * 2097152))) e

module _ (w : Window) (o : List ℕ) (world : ℕ) (l : List Mapping) (ok : acceptable w ≡ true) (s : Sound w o world l) where
  slots_few : count (slot_touched l) 0 262144 ≤ 39
  unfolding slot_touched
  slots_few = few_slots w o world l ok s 262144

  -- A list that a run reaches needs at most 44 tables: one of level 1, 4 of level 2, 39 of level 3.
  pub most_tables : tables l 2 0 ≤ 44
  most_tables =
      let a = count_grows (slot_paged l) (slot_touched l) (paged_touched l) 0 262144 in
      let b = count_most (gib_touched l) 0 4 (low_gibs w l s.formed) 0 512 in
      omega (arith, tables_counted l, slots_few)

  -- So who lends 22,528 numbers is never refused.
  pub never_refused : (numbers : List ℕ) → 22528 ≤ length numbers → status (said l numbers) ≡ 0
  never_refused numbers h = by_room l numbers (λ (r : Option ℕ × List ℕ). status r.0 ≡ 0) (λ _. refl) (λ g. absurd (omega (arith, most_tables)))
