-- The end of an explanation, for each view: its lines from the first to the last, and their text.
-- `n` says how many lines came, `s` is set-up, `o` owners, `t` origins, `p` powers, `u` turns and `l` mappings, all as they are in the end.
use Rattle.std.specs.Prelude.{List, [], ◌∷◌, ◌++◌, ℕ, zero, suc, ◌+◌, ◌/◌, ltb}
use Rattle.rules.specs.Choice.{pick}
use Rattle.tools.specs.Search.{any}
use Rattle.setup.specs.Table.{ready, window, cores}
use Rattle.origins.specs.Lines.{lines_in}
use Rattle.inputs.specs.Reads.{joined}
use Rattle.words.specs.Words as w
use Rattle.phrases.specs.Sentence.{blank, ◌▹◌}
use Rattle.phrases.specs.Text.{line_text}
use Rattle.phrases.specs.declared.Sentence.{Sentence}
use Rattle.phrases.specs.declared.Piece.TheVariants.{Word}
use Rattle.standing.specs.Standing.{word_said, head_said}
use Rattle.inventory.specs.Inventory.{range_end, places, is_held}
use Rattle.accounts.specs.Accounts.{core_told, range_told, held_told, page_told}
use Rattle.picture.specs.Picture.{row_pages, row_text}
use Rattle.views.specs.declared.View.{View}
use Rattle.views.specs.declared.View.TheVariants.{All, Page, Map}

-- what the letters of the picture mean, or that there is no window
unfoldable pub legend_said : List ℕ → Sentence
legend_said s = pick (ready s) (blank ▹ Word w.legend ▹ Word w.capitals) (word_said w.no_window)

-- the line of each of so many cores, from this one on
unfoldable pub core_lines : List ℕ → List ℕ → ℕ → ℕ → List (List ℕ)
core_lines p u core zero = []
core_lines p u core (suc count) = line_text (core_told p u core) ∷ core_lines p u (suc core) count

-- the line of each range, from the one that begins with this page on, one behind the other up to the window's end; so many at most
unfoldable pub range_lines : List ℕ → List ℕ → List ℕ → ℕ → ℕ → List (List ℕ)
range_lines s o t page zero = []
range_lines s o t page (suc count) =
    let end = range_end o t (window s).pages page in
    pick (ltb page (window s).pages) (line_text (range_told s o t page end) ∷ range_lines s o t end count) []

-- the line of each mapping that one of so many places holds, from this place on
unfoldable pub place_lines : List ℕ → ℕ → ℕ → List (List ℕ)
place_lines l i zero = []
place_lines l i (suc count) = pick (is_held l i) (line_text (held_told l i) ∷ place_lines l (suc i) count) (place_lines l (suc i) count)

-- the line of each mapping, or that there are none
unfoldable pub mapping_lines : List ℕ → List (List ℕ)
mapping_lines l = pick (any (is_held l) 0 places) (place_lines l 0 places) (line_text (word_said w.no_mappings) ∷ [])

-- so many rows of the picture, from the one that begins with this page on
unfoldable pub row_lines : List ℕ → List ℕ → List ℕ → ℕ → ℕ → List (List ℕ)
row_lines s o l page zero = []
row_lines s o l page (suc count) = row_text (window s) o l page ∷ row_lines s o l (page + row_pages) count

-- ---- the end
module _ (n s o t p u l : List ℕ) where
  -- all: how many lines came, and below that each core, each range of pages and each mapping, or that there is no window; there are no more ranges than pages, since each has a page or more
  -- a page: what is said of the page that holds the address
  -- the map: what its letters mean, and below that the rows from the first page to the last
  unfoldable pub end_lines : View → List (List ℕ)
  end_lines All =
      line_text (head_said (lines_in n))
      ∷ pick (ready s) (core_lines p u 0 (cores s) ++ (range_lines s o t 0 (window s).pages ++ mapping_lines l)) (line_text (word_said w.no_window) ∷ [])
  end_lines (Page address) = line_text (page_told s o t address) ∷ []
  end_lines Map = line_text (legend_said s) ∷ row_lines s o l 0 (((window s).pages + 63) / row_pages)

  -- the lines one after the other with nothing between them: each ends with its own newline
  unfoldable pub end_text : View → List ℕ
  end_text v = joined (end_lines v)
