-- Each core, each page and each mapping has its line in the end.
use Rattle.std.specs.Prelude.{◌≡◌, refl, ltb}
use Rattle.std.proofs.Common.{sym, ap, ◌∙◌, eq-or-lt_of_le}
use Rattle.std.proofs.Math.Bool.{true}
use mathlib.Core.List.Memᴰ
use mathlib.Core.List.{List, ◌∷◌, ◌++◌, Memᴰ}
use Rattle.std.proofs.Math.Logic.{⊎_elim}
use Prim.Native.Nat.{ℕ, zero, suc, ◌+◌, ◌*◌, ◌/◌, ◌%◌, ◌≤◌, ◌<◌}
use native.Mathlib.Omega.{arith}
use borrow.Author.Tests.{lt-ltb, ltb-true, ltb-false, ne_eqb}
use Rattle.rules.specs.Choice.{either, chosen, not_true, yes_or_no}
use Rattle.rules.specs.Sizes.{worlds, most_mappings}
use Rattle.tools.specs.Search.{any, any_by}
use Rattle.mapping.specs.Lists.{place}
use Rattle.setup.specs.Table.{ready, window, cores}
use Rattle.origins.specs.Lines.{lines_in}
use Rattle.phrases.specs.Text.{line_text}
use Rattle.standing.specs.Standing.{head_said, mapping_said}
use Rattle.inventory.specs.Inventory.{places, range_end, is_held}
use Rattle.accounts.specs.Accounts.{core_told, range_told, held_told}
use Rattle.views.specs.declared.View.TheVariants.{All}
use Rattle.endings.specs.Ending.{core_lines, range_lines, place_lines, mapping_lines, end_lines}
use Rattle.endings.specs.Ranges.{OneRange, range_is}

module _ (n s o t p u l : List ℕ) (set_up : ready s ≡ true) where
  -- one of the lines of the end
  abbrev pub IsLine : List ℕ → Type 0
  IsLine line = Memᴰ line (end_lines n s o t p u l All)

  behind_head : (line : List ℕ) → Memᴰ line (core_lines p u 0 (cores s) ++ (range_lines s o t 0 (window s).pages ++ mapping_lines l)) → IsLine line
  unfolding end_lines
  behind_head line m =
      chosen (λ (ls : List (List ℕ)). Memᴰ line (line_text (head_said (lines_in n)) ∷ ls)) (ready s) _ _ (λ y. Memᴰ.tail m) (λ f. absurd (yes_or_no (ready s) set_up f))

  -- ---- cores
  core_in : (count first core : ℕ) → first ≤ core → core < first + count → Memᴰ (line_text (core_told p u core)) (core_lines p u first count)
  unfolding core_lines
  core_in zero first core a b = absurd (omega arith)
  core_in (suc count) first core a b =
      ⊎_elim (λ (z : first ≡ core). Memᴰ.head (ap (λ (k : ℕ). line_text (core_told p u k)) (sym z)))
      (λ (z : first < core). Memᴰ.tail (core_in count (suc first) core (omega arith) (omega arith)))
      (eq-or-lt_of_le a)

  pub core_told_lem : (core : ℕ) → core < cores s → IsLine (line_text (core_told p u core))
  core_told_lem core h = behind_head _ (Memᴰ.append_left _ (core_in (cores s) 0 core (omega arith) (omega arith)))

  -- ---- pages
  abbrev pages : ℕ
  pages = (window s).pages

  -- the range that holds a page, and its line among some lines
  pub record Covered (lines : List (List ℕ)) (q : ℕ) : Type 0 where
    pub page : ℕ
    pub end : ℕ
    pub told : Memᴰ (line_text (range_told s o t page end)) lines
    pub low : page ≤ q
    pub high : q < end
    pub one : OneRange o t pages page end

  covered_by : (ls ms : List (List ℕ)) (q : ℕ) → ((line : List ℕ) → Memᴰ line ls → Memᴰ line ms) → Covered ls q → Covered ms q
  covered_by ls ms q f c = record { page = c.page; end = c.end; told = f _ c.told; low = c.low; high = c.high; one = c.one }

  covered_from : (count q page : ℕ) → q < page + count → page ≤ q → q < pages → Covered (range_lines s o t page count) q
  unfolding range_lines
  covered_from zero q page f g h = absurd (omega arith)
  covered_from (suc count) q page f g h =
      let end = range_end o t pages page in
      let r = range_is o t pages page (omega arith) in
      chosen (λ (ls : List (List ℕ)). Covered ls q) (ltb page pages) _ _
      (λ y.
      either (ltb q end) (λ e. record { page = page; end = end; told = Memᴰ.head refl; low = g; high = ltb-true q end e; one = r })
      (λ e. covered_by (range_lines s o t end count) _ q (λ line i. Memᴰ.tail i) (covered_from count q end (omega (arith, r.some)) (ltb-false q end e) h)))
      (λ e. absurd (yes_or_no (ltb page pages) (lt-ltb page pages (omega arith)) e))

  pub page_covered : (q : ℕ) → q < pages → Covered (end_lines n s o t p u l All) q
  page_covered q h =
      covered_by (range_lines s o t 0 pages) _ q (λ line i. behind_head line (Memᴰ.append_right (core_lines p u 0 (cores s)) (Memᴰ.append_left _ i)))
      (covered_from pages q 0 (omega arith) (omega arith) h)

  -- ---- mappings
  held_in : (count first i : ℕ) → first ≤ i → i < first + count → is_held l i ≡ true → Memᴰ (line_text (held_told l i)) (place_lines l first count)
  unfolding place_lines
  held_in zero first i a b e = absurd (omega arith)
  held_in (suc count) first i a b e =
      ⊎_elim
      (λ (z : first ≡ i).
      chosen (λ (ls : List (List ℕ)). Memᴰ (line_text (held_told l i)) ls) (is_held l first) _ _
      (λ y. Memᴰ.head (ap (λ (k : ℕ). line_text (held_told l k)) (sym z))) (λ f. absurd (yes_or_no (is_held l first) (ap (is_held l) z ∙ e) f)))
      (λ (z : first < i).
      let rest = held_in count (suc first) i (omega arith) (omega arith) e in
      chosen (λ (ls : List (List ℕ)). Memᴰ (line_text (held_told l i)) ls) (is_held l first) _ _ (λ y. Memᴰ.tail rest) (λ m. rest))
      (eq-or-lt_of_le a)

  held_told_lem : (i : ℕ) → i < places → is_held l i ≡ true → IsLine (line_text (held_told l i))
  unfolding mapping_lines
  held_told_lem i h e =
      behind_head _ (Memᴰ.append_right (core_lines p u 0 (cores s)) (Memᴰ.append_right (range_lines s o t 0 pages)
      (chosen (λ (ls : List (List ℕ)). Memᴰ (line_text (held_told l i)) ls) (any (is_held l) 0 places) _ _ (λ y. held_in places 0 i (omega arith) (omega arith) e)
      (λ f. absurd (yes_or_no (any (is_held l) 0 places) (any_by (is_held l) 0 places i e (omega arith) (omega arith)) f)))))

  pub mapping_told : (world j : ℕ) → world < worlds → j < most_mappings → ((place l world j).size ≡ 0 → ⊥) → IsLine (line_text (mapping_said world (place l world j)))
  unfolding is_held held_told
  mapping_told world j a b m =
      let i : ℕ = world * most_mappings + j in
      let x : i / most_mappings ≡ world = omega arith in
      let y : i % most_mappings ≡ j = omega arith in
      let e : is_held l i ≡ true = rw (x, y) (not_true _ (ne_eqb (place l world j).size 0 m)) in
      let z : held_told l i ≡ mapping_said world (place l world j) = rw (x, y) in
      Memᴰ.cast (ap line_text (sym z)) (held_told_lem i (omega arith) e)
