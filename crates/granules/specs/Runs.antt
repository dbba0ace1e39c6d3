-- A run of pages: whether each has one mark, and the table in which each is given it, page by page.
use Rattle.std.specs.Prelude.{◌≡◌, Bool, false, ◌&&◌, List, ℕ, zero, suc, ◌+◌, ◌-◌, ◌%◌, ◌≤◌, ◌<◌, ltb, leb, eqb}
use Rattle.std.proofs.Math.Path.{refl}
use Rattle.std.proofs.Common.{sym, ap, ◌∙◌, ⊎_elim, eq-or-lt_of_le, arith, leb-true, leb-false, le-ltb, le-leb}
use Rattle.std.proofs.lemmas.Bool.{lt-leb}
use Rattle.rules.specs.Sizes.{most_pages}
use Rattle.rules.specs.Choice.{pick, passed, pick_yes, either, left_false}
use Rattle.tools.specs.Search.{all}
use Rattle.granules.specs.Table.{mark, marked, WholeMarks, marked_same, marked_other, marked_whole}

-- the page is one of the table and has the mark, of which the low four bits count
unfoldable pub bears : List ℕ → ℕ → ℕ → Bool
bears t m page = ltb page most_pages && eqb (mark t page) (m % 16)

-- each page of the run
unfoldable pub all_bear : List ℕ → ℕ → ℕ → ℕ → Bool
all_bear t first count m = all (bears t m) first count

-- the table after n pages from `page` on were given the mark, one by one
unfoldable pub written : List ℕ → ℕ → ℕ → ℕ → List ℕ
written t page zero m = t
written t page (suc n) m = written (marked t page m) (suc page) n m

-- each page of the run has the mark; nothing is written where the run passes the last page
unfoldable pub filled : List ℕ → ℕ → ℕ → ℕ → List ℕ
filled t first count m = pick (leb (first + count) most_pages) (written t first count m) t

-- ---- no page past the last
pub bears_past : (t : List ℕ) (m page : ℕ) → most_pages ≤ page → bears t m page ≡ false
unfolding bears
bears_past t m page h = left_false _ _ (le-ltb page most_pages h)

-- ---- what stands in the table after pages were written
pub written_whole : (t : List ℕ) (page n m : ℕ) → WholeMarks t → WholeMarks (written t page n m)
unfolding written
written_whole t page zero m w = w
written_whole t page (suc n) m w = written_whole (marked t page m) (suc page) n m (marked_whole t page m w)

pub written_other : (t : List ℕ) (page n m i : ℕ) → (page ≤ i → i < page + n → ⊥) → mark (written t page n m) i ≡ mark t i
unfolding written
written_other t page zero m i d = refl
written_other t page (suc n) m i d =
    written_other (marked t page m) (suc page) n m i (λ h l. d (omega arith) (omega arith))
    ∙ marked_other t page m i (λ e. d (omega arith) (omega arith))

pub written_same : (t : List ℕ) (page n m i : ℕ) → WholeMarks t → i < most_pages → page ≤ i → i < page + n → mark (written t page n m) i ≡ m % 16
unfolding written
written_same t page zero m i w b h l = absurd (omega arith)
written_same t page (suc n) m i w b h l =
    let t' = marked t page m in
    ⊎_elim
    (λ (e : page ≡ i).
    written_other t' (suc page) n m i (λ k z. omega arith)
    ∙ ap (mark t') (sym e)
    ∙ marked_same t page m w (omega arith))
    (λ (k : page < i). written_same t' (suc page) n m i (marked_whole t page m w) b (omega arith) (omega arith))
    (eq-or-lt_of_le h)

-- ---- pages written in two parts
pub written_parts : (t : List ℕ) (page i n m : ℕ) → i ≤ n → written t page n m ≡ written (written t page i m) (page + i) (n - i) m
unfolding written
written_parts t page zero n m h = let a : page + 0 ≡ page = omega arith in let b : n - 0 ≡ n = omega arith in rw (a, b)
written_parts t page (suc i) zero m h = absurd (omega arith)
written_parts t page (suc i) (suc n) m h =
    let a : page + suc i ≡ suc page + i = omega arith in
    let b : suc n - suc i ≡ n - i = omega arith in
    rw (a, b) (written_parts (marked t page m) (suc page) i n m (omega arith))

written_none : (t : List ℕ) (page n m : ℕ) → n ≤ 0 → written t page n m ≡ t
unfolding written
written_none t page zero m h = refl
written_none t page (suc n) m h = absurd (omega arith)

-- ---- how the code writes a run: `k` is what the whole run makes of the table
module _ (t : List ℕ) (first count m : ℕ) where
  pub fill_none : most_pages < first + count → t ≡ filled t first count m
  unfolding filled
  fill_none h = passed _ _ _ _ (lt-leb (first + count) most_pages h) refl

  pub fill_starts : first + count ≤ most_pages → filled t first count m ≡ written t first count m
  unfolding filled
  fill_starts h = pick_yes _ _ _ (le-leb (first + count) most_pages h)

  module _ (k : List ℕ) (e : k ≡ written t first count m) where
    pub fill_goes : (t' : List ℕ) (i : ℕ) → i ≤ count → t' ≡ written t first i m → k ≡ written t' (first + i) (count - i) m
    fill_goes t' i h f = rw f (e ∙ written_parts t first i count m h)

    pub fill_ends : count ≤ 0 → t ≡ k
    fill_ends h = sym (e ∙ written_none t first count m h)

-- ---- what stands in the table after a run is written
module _ (t : List ℕ) (first count m : ℕ) where
  -- what holds of the written table and of the old one holds of the table after a run
  filled_by : (P : List ℕ → Type 0) → P (written t first count m) → P t → P (filled t first count m)
  filled_by P y n =
      either (leb (first + count) most_pages)
      (λ e. rw (fill_starts t first count m (leb-true _ _ e)) y) (λ e. rw (← fill_none t first count m (leb-false _ _ e)) n)

  pub filled_whole : WholeMarks t → WholeMarks (filled t first count m)
  filled_whole w = filled_by WholeMarks (written_whole t first count m w) w

  pub filled_other : (i : ℕ) → (first ≤ i → i < first + count → ⊥) → mark (filled t first count m) i ≡ mark t i
  filled_other i d = filled_by (λ (q : List ℕ). mark q i ≡ mark t i) (written_other t first count m i d) refl

  pub filled_same : (i : ℕ) → WholeMarks t → first + count ≤ most_pages → first ≤ i → i < first + count → mark (filled t first count m) i ≡ m % 16
  filled_same i w b h l = rw (fill_starts t first count m b) (written_same t first count m i w (omega arith) h l)
