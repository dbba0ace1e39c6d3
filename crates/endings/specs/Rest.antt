-- The end of an explanation from a part on: the part's own line, the part behind it, and the lines that are left.
use Rattle.std.specs.Prelude.{◌≡◌, refl, Bool, true, false, List, [], ◌∷◌, ◌++◌, ℕ, ◌+◌, ◌-◌, ◌/◌, ◌≤◌, ◌<◌, ltb, leb, length}
use Rattle.std.proofs.Common.{◌∙◌, arith, lt-ltb, le-ltb}
use Rattle.rules.specs.Choice.{pick, picked, passed}
use Rattle.tools.specs.Laid.{laid}
use Rattle.pages.specs.declared.Window.{Window}
use Rattle.setup.specs.Table.{ready, window, cores}
use Rattle.inputs.specs.Reads.{joined}
use Rattle.words.specs.Words as w
use Rattle.phrases.specs.Sentence.{blank, ◌▹◌}
use Rattle.phrases.specs.Text.{line_text, longest, told}
use Rattle.phrases.specs.declared.Sentence.{Sentence}
use Rattle.phrases.specs.declared.Piece.TheVariants.{Word}
use Rattle.standing.specs.Standing.{word_said}
use Rattle.inventory.specs.Inventory.{places, next, is_end}
use Rattle.inventory.specs.declared.Thing.{Thing}
use Rattle.inventory.specs.declared.Thing.TheVariants.{Head, NoWindow, Core, Range, Held, NoMappings, End}
use Rattle.accounts.specs.Accounts.{said, core_told, range_told, held_told, page_told}
use Rattle.picture.specs.Picture.{row_pages, row_text}
use Rattle.views.specs.declared.View.{View}
use Rattle.views.specs.declared.View.TheVariants as View
use Rattle.endings.specs.declared.Part.{Part}
use Rattle.endings.specs.declared.Part.TheVariants.{Stands, Page, Legend, Row}
use Rattle.endings.specs.Ending.{core_lines, range_lines, place_lines, mapping_lines, row_lines, end_lines, legend_said}

-- with which part a view's end begins
abbrev pub first_part : View → Part
first_part View.All = Stands Head
first_part (View.Page address) = Page address
first_part View.Map = Legend

-- nothing is left
abbrev pub is_over : Part → Bool
is_over (Stands x) = is_end x
is_over (Page address) = false
is_over Legend = false
is_over (Row page) = false

-- the row from this page on, where the window has such a page
unfoldable pub row_part : List ℕ → ℕ → Part
row_part s page = pick (ltb page (window s).pages) (Row page) (Stands End)

-- the part behind another
abbrev pub next_part : List ℕ → List ℕ → List ℕ → List ℕ → Part → Part
next_part s o t l (Stands x) = Stands (next s o t l x)
next_part s o t l (Page address) = Stands End
next_part s o t l Legend = row_part s 0
next_part s o t l (Row page) = row_part s (page + row_pages)

module _ (n s o t p u l : List ℕ) where
  -- the line of a part
  abbrev pub part_line : Part → List ℕ
  part_line (Stands x) = line_text (said n s o t p u l x)
  part_line (Page address) = line_text (page_told s o t address)
  part_line Legend = line_text (legend_said s)
  part_line (Row page) = row_text (window s) o l page

  -- ---- the lines that are left
  abbrev pub ranges_from : ℕ → List (List ℕ)
  ranges_from page = range_lines s o t page ((window s).pages - page) ++ mapping_lines l

  abbrev pub cores_from : ℕ → List (List ℕ)
  cores_from core = core_lines p u core (cores s - core) ++ ranges_from 0

  abbrev pub places_from : ℕ → List (List ℕ)
  places_from i = place_lines l i (places - i)

  abbrev pub rows_from : ℕ → List (List ℕ)
  rows_from page = row_lines s o l page (((window s).pages - page + 63) / row_pages)

  abbrev pub things_from : Thing → List (List ℕ)
  things_from Head = end_lines n s o t p u l View.All
  things_from NoWindow = line_text (word_said w.no_window) ∷ []
  things_from (Core core) = line_text (core_told p u core) ∷ cores_from (core + 1)
  things_from (Range page end) = line_text (range_told s o t page end) ∷ ranges_from end
  things_from (Held i) = line_text (held_told l i) ∷ places_from (i + 1)
  things_from NoMappings = line_text (word_said w.no_mappings) ∷ []
  things_from End = []

  abbrev pub lines_from : Part → List (List ℕ)
  lines_from (Stands x) = things_from x
  lines_from (Page address) = end_lines n s o t p u l (View.Page address)
  lines_from Legend = end_lines n s o t p u l View.Map
  lines_from (Row page) = row_text (window s) o l page ∷ rows_from (page + row_pages)

  -- and their text
  abbrev pub text_from : Part → List ℕ
  text_from x = joined (lines_from x)

-- ---- as many of some lines as surely fit from a place on: which are left, the place behind those that were put, and the space
unfoldable pub filling : List (List ℕ) → ℕ → List ℕ → List (List ℕ) × (ℕ × List ℕ)
filling [] at out = ([], (at, out))
filling (line ∷ lines) at out = pick (leb (at + longest) (length out)) (filling lines (at + length line) (laid out at line)) (line ∷ lines, (at, out))

-- ---- how the code's branches meet these
module _ (v : View) (r : Part) where
  pub first_all : v ≡ View.All → r ≡ Stands Head → r ≡ first_part v
  first_all e h = rw e h

  pub first_page : (address : ℕ) → v ≡ View.Page address → r ≡ Page address → r ≡ first_part v
  first_page address e h = rw e h

  pub first_map : v ≡ View.Map → r ≡ Legend → r ≡ first_part v
  first_map e h = rw e h

pub ruleset firsts = (first_all, first_page, first_map)

module _ (s : List ℕ) (page : ℕ) (v : Window) (is : v ≡ window s) where
  pub row_here : page < v.pages → Row page ≡ row_part s page
  unfolding row_part
  row_here h = rw (← is) (picked _ _ _ _ (lt-ltb page v.pages h) refl)

  pub row_past : v.pages ≤ page → Stands End ≡ row_part s page
  unfolding row_part
  row_past h = rw (← is) (passed _ _ _ _ (le-ltb page v.pages h) refl)

module _ (s : List ℕ) (page : ℕ) (v : Window) (is : v ≡ window s) where
  pub row_next : 64 < v.pages - page → Row (page + 64) ≡ row_part s (page + 64)
  row_next h = row_here s (page + 64) v is (omega arith)

  pub row_last : v.pages - page ≤ 64 → Stands End ≡ row_part s (page + 64)
  row_last h = row_past s (page + 64) v is (omega arith)

pub ruleset rows = (row_here, row_past, row_next, row_last)

module _ (s o t l : List ℕ) (x r : Part) where
  pub next_stands : (y z : Thing) → x ≡ Stands y → z ≡ next s o t l y → r ≡ Stands z → r ≡ next_part s o t l x
  next_stands y z e f h = h ∙ rw (e, f)

  pub next_page : (address : ℕ) → x ≡ Page address → r ≡ Stands End → r ≡ next_part s o t l x
  next_page address e h = rw e h

  pub next_legend : x ≡ Legend → r ≡ row_part s 0 → r ≡ next_part s o t l x
  next_legend e h = rw e h

  pub next_row : (page : ℕ) → x ≡ Row page → r ≡ row_part s (page + 64) → r ≡ next_part s o t l x
  next_row page e h = rw e h

pub ruleset nexts = (next_stands, next_page, next_legend, next_row)

module _ (s : List ℕ) (r : Sentence) where
  pub legend_yes : ready s ≡ true → r ≡ (blank ▹ Word w.legend ▹ Word w.capitals) → r ≡ legend_said s
  unfolding legend_said
  legend_yes e h = picked _ _ _ _ e h

  pub legend_no : ready s ≡ false → r ≡ word_said w.no_window → r ≡ legend_said s
  unfolding legend_said
  legend_no e h = passed _ _ _ _ e h

pub ruleset legends = (legend_yes, legend_no)

module _ (n s o t p u l : List ℕ) (x : Part) (at r : ℕ) (out out' : List ℕ) where
  pub line_stands : (y : Thing) (a : Sentence) → x ≡ Stands y → a ≡ said n s o t p u l y → (r, out') ≡ told out at (line_text a) → (r, out') ≡ told out at (part_line n s o t p u l x)
  line_stands y a e f h = h ∙ rw (e, f)

  pub line_page : (address : ℕ) (a : Sentence) → x ≡ Page address → a ≡ page_told s o t address → (r, out') ≡ told out at (line_text a) → (r, out') ≡ told out at (part_line n s o t p u l x)
  line_page address a e f h = h ∙ rw (e, f)

  pub line_legend : (a : Sentence) → x ≡ Legend → a ≡ legend_said s → (r, out') ≡ told out at (line_text a) → (r, out') ≡ told out at (part_line n s o t p u l x)
  line_legend a e f h = h ∙ rw (e, f)

  pub line_row : (page : ℕ) (v : Window) → x ≡ Row page → v ≡ window s → (r, out') ≡ told out at (row_text v o l page) → (r, out') ≡ told out at (part_line n s o t p u l x)
  line_row page v e f h = h ∙ rw (e, f)

pub ruleset lines_put = (line_stands, line_page, line_legend, line_row)

pub ruleset laws = (firsts, rows, nexts, legends, lines_put)
