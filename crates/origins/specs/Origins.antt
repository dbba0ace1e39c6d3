-- For each page of the window the number of the line that named its owner. The layout of the table is known here alone: the laws say the rest.
use Rattle.std.specs.Prelude.{◌≡◌, refl, List, ℕ, zero, suc, ◌+◌, ◌-◌, ◌≤◌, ◌<◌, ltb, length, get_or, set, replicate}
use Rattle.rules.specs.Choice.{either}
use Rattle.rules.specs.Sizes.{most_pages}
use Rattle.tools.specs.Store.{read, Whole, read_in, read_out, blank_whole, blank_read, write_in, past_read}
use Rattle.pages.specs.Run.{written, filled, fill_none, fill_starts, filled_whole, filled_same, filled_other}
use Rattle.std.proofs.Common.{append_assoc, arith, ltb-true, ltb-false}
use Rattle.std.proofs.Math.Seq.{sets}
use Rattle.std.proofs.lemmas.List.{drop-drop, length-replicate}
use Rattle.std.proofs.lemmas.List.Edits.{sets-eq}
use borrow.Rule.Slice.PartMut.{put_mid}

-- ---- shut: no other file opens these
-- no page is named
pub none : List ℕ
none = replicate most_pages 0

-- the table has a place for every page
pub WholeOrigins : List ℕ → Type 0
WholeOrigins t = Whole most_pages t

-- the line that named the owner of a page: 0 where none did, and past the last page
pub origin : List ℕ → ℕ → ℕ
origin t page = read most_pages t page

-- a line names the owner of each page of a run; nothing changes where the run passes the last page
pub marked : List ℕ → ℕ → ℕ → ℕ → List ℕ
marked t first count line = filled t first count line

-- ---- how the code meets these
pub none_is : replicate most_pages 0 ≡ none
unfolding none
none_is = refl

module _ (t : List ℕ) (page : ℕ) where
  pub origin_in : page < most_pages → get_or t page 0 ≡ origin t page
  unfolding origin
  origin_in h = read_in most_pages t page h

  pub origin_past : most_pages ≤ page → 0 ≡ origin t page
  unfolding origin
  origin_past h = read_out most_pages t page h

pub ruleset looks = (origin_in, origin_past)

-- so many marks, one behind the other
written_sets : (t : List ℕ) (page n mark : ℕ) → page + n ≤ most_pages → written t page n mark ≡ sets t page (replicate n mark)
unfolding written
written_sets t page zero mark h = refl
written_sets t page (suc n) mark h = rw (← write_in most_pages t page mark (omega arith)) (written_sets (set t page mark) (suc page) n mark (omega arith))

module _ (t : List ℕ) (first count line : ℕ) where
  pub mark_none : most_pages < first + count → t ≡ marked t first count line
  unfolding marked
  mark_none h = fill_none t first count line h

  -- the run is filled at once
  pub mark_filled : (part : List ℕ) → length t ≡ most_pages → first + count ≤ most_pages → part ≡ replicate count line → put_mid first (first + count - first) t part ≡ marked t first count line
  unfolding marked
  mark_filled part whole h e =
      let k : first + count - first ≡ count = omega arith in
      let n : length (replicate count line) ≡ count = length-replicate count line in
      rw (e, k, fill_starts t first count line h, written_sets t first count line h, sets-eq (replicate count line) t first (omega arith), n, drop-drop count first t, append_assoc)

-- ---- no page is named at first
pub none_whole : WholeOrigins none
unfolding none WholeOrigins
none_whole = blank_whole most_pages 0

pub none_origin : (page : ℕ) → origin none page ≡ 0
unfolding none origin
none_origin page =
    either (ltb page most_pages) (λ y. blank_read most_pages 0 page (ltb-true page most_pages y)) (λ n. past_read most_pages (replicate most_pages 0) page (ltb-false page most_pages n))

-- ---- what a line that names pages leaves
module _ (t : List ℕ) (first count line : ℕ) where
  pub marked_whole : WholeOrigins t → WholeOrigins (marked t first count line)
  unfolding marked WholeOrigins
  marked_whole w = filled_whole t first count line w

  -- a page of the run has this line
  pub marked_inside : (page : ℕ) → WholeOrigins t → first + count ≤ most_pages → first ≤ page → page < first + count → origin (marked t first count line) page ≡ line
  unfolding marked origin WholeOrigins
  marked_inside page w b h l = filled_same t first count line page w b h l

  -- any other page keeps its own
  pub marked_outside : (page : ℕ) → (first ≤ page → page < first + count → ⊥) → origin (marked t first count line) page ≡ origin t page
  unfolding marked origin
  marked_outside page d = filled_other t first count line page d
