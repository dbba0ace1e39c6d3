-- Behind the line of a part come the lines from the next part on.
use Rattle.std.specs.Prelude.{◌≡◌, false, eqb}
use Rattle.std.proofs.Math.Path.{refl, ap}
use Rattle.std.proofs.Common.{sym, ◌∙◌}
use Rattle.std.proofs.Math.Bool.{true}
use mathlib.Core.List.{List, [], ◌∷◌}
use Prim.Native.Nat.{ℕ, zero, suc, ◌+◌, ◌-◌, ◌/◌, ◌≤◌, ◌<◌}
use Rattle.std.proofs.Math.Numerals.{add-one}
use native.Mathlib.Omega.{arith}
use Rattle.std.proofs.Math.Dec.{ltb}
use borrow.Author.Tests.{lt-ltb, le-ltb, ltb-true, ltb-false, ne_eqb}
use Rattle.rules.specs.Choice.{pick, pick_yes, pick_no, either, yes_or_no, chosen_two}
use Rattle.tools.specs.Search.{first, any, any_first}
use Rattle.setup.specs.Table.{ready, window, cores}
use Rattle.words.specs.Words as w
use Rattle.phrases.specs.Text.{line_text}
use Rattle.standing.specs.Standing.{word_said}
use Rattle.inventory.specs.Inventory.{places, range_end, is_held, held_from, held_thing, range_thing, core_thing, after_head}
use Rattle.inventory.specs.declared.Thing.{Thing}
use Rattle.inventory.specs.declared.Thing.TheVariants.{Head, NoWindow, Core, Range, Held, NoMappings, End}
use Rattle.accounts.specs.Accounts.{core_told, range_told, held_told}
use Rattle.picture.specs.Picture.{row_pages, row_text}
use Rattle.endings.specs.declared.Part.{Part}
use Rattle.endings.specs.declared.Part.TheVariants.{Stands, Page, Legend, Row}
use Rattle.endings.specs.Ending.{core_lines, range_lines, place_lines, mapping_lines, row_lines, end_lines}
use Rattle.endings.specs.Rest.{is_over, row_part, next_part, part_line, ranges_from, cores_from, places_from, rows_from, things_from, lines_from}
use Rattle.endings.specs.Ranges.{range_is}

module _ (n s o t p u l : List ℕ) where
  abbrev pages : ℕ
  pages = (window s).pages

  abbrev from : Thing → List (List ℕ)
  from = things_from n s o t p u l

  -- ---- places: those that hold nothing are passed over
  held_from_lem : (count i : ℕ) → count ≡ places - i → place_lines l i count ≡ from (pick (ltb (first (is_held l) i count) places) (Held (first (is_held l) i count)) End)
  unfolding place_lines first
  held_from_lem zero i e = rw (pick_no (ltb i places) (Held i) End (le-ltb i places (omega arith)))
  held_from_lem (suc count) i e =
      either (is_held l i)
      (λ y.
      let z : places - (i + 1) ≡ count = omega arith in
      rw (pick_yes (is_held l i) i (first (is_held l) (suc i) count) y, pick_yes (is_held l i) (line_text (held_told l i) ∷ place_lines l (suc i) count) (place_lines l (suc i) count) y, pick_yes (ltb i places) (Held i) End (lt-ltb i places (omega arith)), z, add-one i))
      (λ m.
      rw (pick_no (is_held l i) i (first (is_held l) (suc i) count) m, pick_no (is_held l i) (line_text (held_told l i) ∷ place_lines l (suc i) count) (place_lines l (suc i) count) m)
      (held_from_lem count (suc i) (omega arith)))

  held_next : (i : ℕ) → places_from n s o t p u l (i + 1) ≡ from (held_thing l (i + 1))
  unfolding held_thing held_from
  held_next i = rw (pick_no (eqb (i + 1) 0) NoMappings End (ne_eqb (i + 1) 0 (λ z. absurd (omega arith)))) (held_from_lem (places - (i + 1)) (i + 1) refl)

  held_first : mapping_lines l ≡ from (held_thing l 0)
  unfolding mapping_lines held_thing held_from
  held_first =
      let f = first (is_held l) 0 places in
      let a : ltb f places ≡ any (is_held l) 0 places = any_first (is_held l) 0 places in
      either (ltb f places)
      (λ y. rw (pick_yes (any (is_held l) 0 places) (place_lines l 0 places) (from NoMappings) (sym a ∙ y), pick_yes (ltb f places) (Held f) (pick (eqb 0 0) NoMappings End) y)
      (held_from_lem places 0 refl ∙ rw (pick_yes (ltb f places) (Held f) End y)))
      (λ m. rw (pick_no (any (is_held l) 0 places) (place_lines l 0 places) (from NoMappings) (sym a ∙ m), pick_no (ltb f places) (Held f) (pick (eqb 0 0) NoMappings End) m, pick_yes (eqb 0 0) NoMappings End refl))

  -- ---- ranges: where there is room for as many as there are pages left, none is missing
  ranges_past : (page count : ℕ) → pages ≤ page → range_lines s o t page count ≡ []
  unfolding range_lines
  ranges_past page zero h = refl
  ranges_past page (suc count) h = pick_no _ _ _ (le-ltb page pages h)

  ranges_more : (page count rest : ℕ) → count ≡ suc rest → page < pages
      → range_lines s o t page count ≡ line_text (range_told s o t page (range_end o t pages page)) ∷ range_lines s o t (range_end o t pages page) rest
  unfolding range_lines
  ranges_more page count rest e h = rw e (pick_yes _ _ _ (lt-ltb page pages h))

  ranges_same : (a b page : ℕ) → pages ≤ page + a → pages ≤ page + b → range_lines s o t page a ≡ range_lines s o t page b
  ranges_same zero b page f g = ranges_past page zero (omega arith) ∙ sym (ranges_past page b (omega arith))
  ranges_same (suc a) zero page f g = ranges_past page (suc a) (omega arith) ∙ sym (ranges_past page zero (omega arith))
  ranges_same (suc a) (suc b) page f g =
      either (ltb page pages)
      (λ y.
      let h = ltb-true page pages y in
      let r = range_is o t pages page h in
      ranges_more page (suc a) a refl h ∙ ap (λ (ls : List (List ℕ)). line_text (range_told s o t page (range_end o t pages page)) ∷ ls) (ranges_same a b (range_end o t pages page) (omega (arith, r.some)) (omega (arith, r.some))) ∙ sym (ranges_more page (suc b) b refl h))
      (λ m. let h = ltb-false page pages m in ranges_past page (suc a) h ∙ sym (ranges_past page (suc b) h))

  ranges_go : (page : ℕ) → ranges_from n s o t p u l page ≡ from (range_thing s o t l page)
  unfolding range_thing
  ranges_go page =
      either (ltb page pages)
      (λ y.
      let h = ltb-true page pages y in
      let end = range_end o t pages page in
      let r = range_is o t pages page h in
      let k = pages - (page + 1) in
      let e : range_lines s o t page (pages - page) ≡ line_text (range_told s o t page end) ∷ range_lines s o t end (pages - end) =
      ranges_more page (pages - page) k (omega arith) h ∙ ap (λ (ls : List (List ℕ)). line_text (range_told s o t page end) ∷ ls) (ranges_same k (pages - end) end (omega (arith, r.some)) (omega arith)) in
      rw (pick_yes (ltb page pages) (Range page end) (held_thing l 0) y, e))
      (λ m. rw (pick_no (ltb page pages) (Range page (range_end o t pages page)) (held_thing l 0) m, ranges_past page (pages - page) (ltb-false page pages m)) held_first)

  -- ---- cores
  cores_go : (core : ℕ) → cores_from n s o t p u l core ≡ from (core_thing s o t l core)
  unfolding core_thing core_lines
  cores_go core =
      either (ltb core (cores s))
      (λ y.
      let z : cores s - core ≡ suc (cores s - (core + 1)) = omega (arith, ltb-true core (cores s) y) in
      rw (pick_yes (ltb core (cores s)) (Core core) (range_thing s o t l 0) y, z, add-one core))
      (λ m.
      let z : cores s - core ≡ 0 = omega (arith, ltb-false core (cores s) m) in
      rw (pick_no (ltb core (cores s)) (Core core) (range_thing s o t l 0) m, z) (ranges_go 0))

  -- ---- rows
  rows_go : (page : ℕ) → rows_from n s o t p u l page ≡ lines_from n s o t p u l (row_part s page)
  unfolding row_part row_lines
  rows_go page =
      either (ltb page pages)
      (λ y.
      let z : (pages - page + 63) / 64 ≡ suc ((pages - (page + 64) + 63) / 64) = omega (arith, ltb-true page pages y) in
      rw (pick_yes (ltb page pages) (Row page) (Stands End) y, z))
      (λ m.
      let z : (pages - page + 63) / 64 ≡ 0 = omega (arith, ltb-false page pages m) in
      rw (pick_no (ltb page pages) (Row page) (Stands End) m, z))

  -- ---- any part
  things_go : (x : Thing) → is_over (Stands x) ≡ false → from x ≡ part_line n s o t p u l (Stands x) ∷ lines_from n s o t p u l (next_part s o t l (Stands x))
  unfolding end_lines after_head
  things_go Head e =
      let z : cores s - 0 ≡ cores s = omega arith in
      let k : pages - 0 ≡ pages = omega arith in
      ap (λ (ls : List (List ℕ)). part_line n s o t p u l (Stands Head) ∷ ls)
      (chosen_two (λ (ls : List (List ℕ)) (x : Thing). ls ≡ from x) (ready s) _ (line_text (word_said w.no_window) ∷ []) (core_thing s o t l 0) NoWindow
      (λ y. rw (z, k) at (cores_go 0)) (λ m. refl))
  things_go NoWindow e = refl
  things_go (Core core) e = ap (λ (ls : List (List ℕ)). line_text (core_told p u core) ∷ ls) (cores_go (core + 1))
  things_go (Range page end) e = ap (λ (ls : List (List ℕ)). line_text (range_told s o t page end) ∷ ls) (ranges_go end)
  things_go (Held i) e = ap (λ (ls : List (List ℕ)). line_text (held_told l i) ∷ ls) (held_next i)
  things_go NoMappings e = refl
  things_go End e = absurd (yes_or_no true refl e)

  pub parts_go : (x : Part) → is_over x ≡ false → lines_from n s o t p u l x ≡ part_line n s o t p u l x ∷ lines_from n s o t p u l (next_part s o t l x)
  unfolding end_lines
  parts_go (Stands x) e = things_go x e
  parts_go (Page address) e = refl
  parts_go Legend e =
      let z : pages - 0 ≡ pages = omega arith in
      ap (λ (ls : List (List ℕ)). part_line n s o t p u l Legend ∷ ls) (rw z at (rows_go 0))
  parts_go (Row page) e = ap (λ (ls : List (List ℕ)). row_text (window s) o l page ∷ ls) (rows_go (page + row_pages))

  -- and nothing is left where it is over
  things_over : (x : Thing) → is_over (Stands x) ≡ true → from x ≡ []
  things_over Head e = absurd (yes_or_no false e refl)
  things_over NoWindow e = absurd (yes_or_no false e refl)
  things_over (Core core) e = absurd (yes_or_no false e refl)
  things_over (Range page end) e = absurd (yes_or_no false e refl)
  things_over (Held i) e = absurd (yes_or_no false e refl)
  things_over NoMappings e = absurd (yes_or_no false e refl)
  things_over End e = refl

  pub parts_over : (x : Part) → is_over x ≡ true → lines_from n s o t p u l x ≡ []
  parts_over (Stands x) e = things_over x e
  parts_over (Page address) e = absurd (yes_or_no false e refl)
  parts_over Legend e = absurd (yes_or_no false e refl)
  parts_over (Row page) e = absurd (yes_or_no false e refl)
