-- How many accepted calls each world made, by their answers: a table of counts, behind them how many were counted in all, and whether one came too many.
use Rattle.std.specs.Prelude.{◌≡◌, Bool, ◌&&◌, List, ℕ, ◌+◌, ◌*◌, ◌≤◌, ◌<◌, ltb, leb, replicate}
use Rattle.std.proofs.Math.Path.{refl, ap}
use Rattle.std.proofs.Common.{arith, lt-ltb, le-ltb, le-leb}
use Rattle.std.proofs.lemmas.Bool.{lt-leb}
use Rattle.rules.specs.Choice.{pick, picked, passed, both_true, left_false, right_false}
use Rattle.rules.specs.Sizes.{worlds}
use Rattle.tools.specs.Store.{read, write}
use Rattle.tallies.specs.Rows.{rows, row_of}

-- at most so many calls are counted
abbrev pub most : ℕ
most = 1000000

-- a count for each world and row, and the two numbers behind them
abbrev pub places : ℕ
places = 316

abbrev pub size : ℕ
size = 318

-- nothing counted
unfoldable pub nothing : List ℕ
nothing = replicate size 0

-- the count at a place
abbrev pub count_at : List ℕ → ℕ → ℕ
count_at t i = read size t i

abbrev pub total : List ℕ → ℕ
total t = read size t places

-- whether a call came after the last that is counted
abbrev pub over : List ℕ → Bool
over t = ltb 0 (read size t (places + 1))

-- where the calls of a world with an answer are counted
abbrev pub place_of : ℕ → ℕ → ℕ
place_of world x = world * rows + row_of x

-- there is such a place
unfoldable pub listed : ℕ → ℕ → Bool
listed world x = ltb world worlds && ltb (row_of x) rows

-- one more, up to the most
unfoldable pub one_more : ℕ → ℕ
one_more n = pick (ltb n most) (n + 1) n

-- a call more, of a world, with its answer
unfoldable pub noted : List ℕ → ℕ → ℕ → List ℕ
noted t world x =
    pick (leb most (total t)) (write size t (places + 1) 1)
    (pick (listed world x) (let u = write size t (place_of world x) (one_more (count_at t (place_of world x))) in write size u places (one_more (total u)))
    t)

-- ---- how the code's branches meet it
module _ (n : ℕ) where
  pub more_one : n < most → n + 1 ≡ one_more n
  unfolding one_more
  more_one h = picked _ _ _ _ (lt-ltb n most h) refl

  pub more_none : most ≤ n → n ≡ one_more n
  unfolding one_more
  more_none h = passed _ _ _ _ (le-ltb n most h) refl

pub ruleset mores = (more_one, more_none)

module _ (t : List ℕ) (n : ℕ) (is : n ≡ count_at t 317) where
  pub over_is : ltb 0 n ≡ over t
  over_is = ap (ltb 0) is

module _ (t : List ℕ) (world x n : ℕ) (is : n ≡ total t) where
  pub notes_over : (t' : List ℕ) → most ≤ n → t' ≡ write size t (places + 1) 1 → t' ≡ noted t world x
  unfolding noted
  notes_over t' h e = picked _ _ _ _ (le-leb most (total t) (omega arith)) e

  module _ (h : n < most) (r : ℕ) (row : r ≡ row_of x) where
    pub notes_world : worlds ≤ world → t ≡ noted t world x
    unfolding noted listed
    notes_world g = passed _ _ _ _ (lt-leb most (total t) (omega arith)) (passed _ _ _ _ (left_false _ _ (le-ltb world worlds g)) refl)

    pub notes_row : rows ≤ r → t ≡ noted t world x
    unfolding noted listed
    notes_row g = passed _ _ _ _ (lt-leb most (total t) (omega arith)) (passed _ _ _ _ (right_false (ltb world worlds) _ (le-ltb (row_of x) rows (omega arith))) refl)

    pub notes_one : world < worlds → r < rows → (k k' j j' : ℕ) (u u' : List ℕ) → k ≡ read size t (world * 79 + r) → k' ≡ one_more k → u ≡ write size t (world * 79 + r) k'
        → j ≡ read size u 316 → j' ≡ one_more j → u' ≡ write size u 316 j' → u' ≡ noted t world x
    unfolding noted listed
    notes_one g l k k' j j' u u' a b c d e f =
        passed _ _ _ _ (lt-leb most (total t) (omega arith))
        (picked _ _ _ _ (both_true _ _ (lt-ltb world worlds g) (lt-ltb (row_of x) rows (omega arith))) (rw (f, e, d, c, b, a, row)))

pub ruleset notes = (notes_over, notes_world, notes_row, notes_one)
