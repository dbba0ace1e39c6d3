-- The granule table: sixteen marks in each of its numbers, that of the lowest page in the lowest bits. Shut: only the laws below say what stands where.
use Rattle.std.specs.Prelude.{◌≡◌, refl, Bool, true, false, List, ℕ, ◌+◌, ◌*◌, ◌/◌, ◌%◌, ◌^◌, ◌≤◌, ◌<◌, ltb, eqb, length, get_or, set, replicate}
use Rattle.std.proofs.Common.{sym, ◌∙◌, get_or-set_same, ext_get_or}
use native.Mathlib.Omega.{arith}
use Rattle.std.proofs.Math.Seq.{set_out}
use borrow.Author.Tests.{ltb-true, ltb-false, eqb-true, eqb-false}
use Rattle.rules.specs.Sizes.{most_pages}
use Rattle.rules.specs.Choice.{pick, pick_yes, pick_no, by, either}
use Rattle.tools.specs.Store.{read, write, Whole, read_in, write_in, write_out, write_same, write_other, write_whole, blank_whole, blank_read, past_read}
use Rattle.marks.specs.Digits.{digit, put, digit_small, zero_digit, put_same, put_other, put_fits, same_digits, digit_plain}

-- how many numbers there are
abbrev pub numbers : ℕ
numbers = 256

-- no page has a mark
pub unmarked : List ℕ
unmarked = replicate numbers 0

-- the mark of a page; 0 past the table's end
pub mark : List ℕ → ℕ → ℕ
mark t page = digit (read numbers t (page / 16)) (page % 16)

-- the table with another mark for a page, of which the low four bits count; nothing changes past the table's end
pub marked : List ℕ → ℕ → ℕ → List ℕ
marked t page m = write numbers t (page / 16) (put (read numbers t (page / 16)) (page % 16) (m % 16))

-- the table has its numbers, and each has sixteen digits
pub record WholeMarks (t : List ℕ) : Type 0 where
  pub long : Whole numbers t
  pub fits : (i : ℕ) → read numbers t i < 16 ^ 16

pub whole_long : (t : List ℕ) → WholeMarks t → length t ≡ numbers
unfolding Whole
whole_long t w = w.long

-- ---- how the code meets these
pub unmarked_is : replicate numbers 0 ≡ unmarked
unfolding unmarked
unmarked_is = refl

-- what the code knows of a lent table
pub whole_of : (t : List ℕ) → length t ≡ numbers → ((i : ℕ) → get_or t i 0 < 18446744073709551616) → WholeMarks t
unfolding Whole read
whole_of t e f =
    record {
      long = e;
      fits = λ i. by (λ (b : Bool). pick b (get_or t i 0) 0 < 16 ^ 16) (ltb i numbers) (λ y. rw (pick_yes true (get_or t i 0)) (f i)) (λ n. rw (pick_no false (get_or t i 0)) (omega arith));
    }

module _ (t : List ℕ) (page : ℕ) where
  pub mark_in : (m : ℕ) → page < most_pages → m ≡ digit (get_or t (page / 16) 0) (page % 16) → m ≡ mark t page
  unfolding mark
  mark_in m h e = let k : page / 16 < numbers = omega arith in rw (← read_in numbers t (page / 16) k) e

  pub mark_out : most_pages ≤ page → 0 ≡ mark t page
  unfolding mark
  mark_out h = let k : numbers ≤ page / 16 = omega arith in rw (past_read numbers t (page / 16) k) (sym (zero_digit (page % 16)))

  pub marked_in : (m n : ℕ) → page < most_pages → n ≡ put (get_or t (page / 16) 0) (page % 16) (m % 16) → set t (page / 16) n ≡ marked t page m
  unfolding marked
  marked_in m n h e =
      let k : page / 16 < numbers = omega arith in
      rw (e, ← read_in numbers t (page / 16) k) (write_in numbers t (page / 16) _ k)

pub ruleset places = (unmarked_is, mark_in, mark_out)

-- ---- a mark has four bits, and these are its page's part of the number in which it stands
pub mark_small : (t : List ℕ) (page : ℕ) → mark t page < 16
unfolding mark
mark_small t page = digit_small _ (page % 16)

pub mark_plain : (t : List ℕ) (page : ℕ) → page < most_pages → get_or t (page / 16) 0 / 16 ^ (page % 16) % 16 ≡ mark t page
unfolding mark
mark_plain t page h =
    let k : page / 16 < numbers = omega arith in
    rw (← read_in numbers t (page / 16) k) (digit_plain (get_or t (page / 16) 0) (page % 16))

-- ---- no page has a mark at first
pub unmarked_mark : (page : ℕ) → mark unmarked page ≡ 0
unfolding mark unmarked
unmarked_mark page =
    let i = page / 16 in
    let e : read numbers (replicate numbers 0) i ≡ 0 = either (ltb i numbers) (λ y. blank_read numbers 0 i (ltb-true _ _ y)) (λ n. past_read numbers _ i (ltb-false _ _ n)) in
    rw e (zero_digit (page % 16))

pub unmarked_whole : WholeMarks unmarked
unfolding unmarked
unmarked_whole =
    record {
      long = blank_whole numbers 0;
      fits = λ i. either (ltb i numbers) (λ y. rw (blank_read numbers 0 i (ltb-true _ _ y)) (omega arith)) (λ n. rw (past_read numbers (replicate numbers 0) i (ltb-false _ _ n)) (omega arith));
    }

-- ---- what is read after a mark is written
-- whatever the table: where it is too short, neither read nor write sees the place
digit_kept : (t : List ℕ) (i place d other : ℕ) → d < 16 → (other ≡ place → ⊥)
    → digit (read numbers (write numbers t i (put (read numbers t i) place d)) i) other ≡ digit (read numbers t i) other
digit_kept t i place d other l f =
    let v = put (read numbers t i) place d in
    either (ltb i numbers)
    (λ y. let h : i < numbers = ltb-true _ _ y in
    rw (← write_in numbers t i v h, ← read_in numbers (set t i v) i h)
    (either (ltb i (length t))
    (λ z. rw (get_or-set_same t i v 0 (ltb-true _ _ z)) (put_other (read numbers t i) place d other l f))
    (λ z. rw (set_out t i v (ltb-false _ _ z), read_in numbers t i h))))
    (λ n. rw (← write_out numbers t i v (ltb-false _ _ n)))

module _ (t : List ℕ) (page m : ℕ) where
  pub marked_same : WholeMarks t → page < most_pages → mark (marked t page m) page ≡ m % 16
  unfolding mark marked
  marked_same w h =
      let k : page / 16 < numbers = omega arith in
      rw (write_same numbers t (page / 16) _ w.long k) (put_same _ (page % 16) (m % 16) (omega arith))

  pub marked_other : (other : ℕ) → (other ≡ page → ⊥) → mark (marked t page m) other ≡ mark t other
  unfolding mark marked
  marked_other other d =
      either (eqb (other / 16) (page / 16))
      (λ q. let s : other / 16 ≡ page / 16 = eqb-true _ _ q in
      rw s (digit_kept t (page / 16) (page % 16) (m % 16) (other % 16) (omega arith) (λ z. d (omega arith))))
      (λ q. rw (write_other numbers t (page / 16) (put (read numbers t (page / 16)) (page % 16) (m % 16)) (other / 16) (eqb-false _ _ q)))

-- ---- the table stays whole
whole_write : (t : List ℕ) (i v : ℕ) → WholeMarks t → v < 16 ^ 16 → WholeMarks (write numbers t i v)
whole_write t i v w h =
    record {
      long = write_whole numbers t i v w.long;
      fits = λ j. either (eqb j i)
          (λ q. either (ltb i numbers)
          (λ y. rw (eqb-true j i q, write_same numbers t i v w.long (ltb-true _ _ y)) h)
          (λ n. rw (← write_out numbers t i v (ltb-false _ _ n)) (w.fits j)))
          (λ q. rw (write_other numbers t i v j (eqb-false _ _ q)) (w.fits j));
    }

pub marked_whole : (t : List ℕ) (page m : ℕ) → WholeMarks t → WholeMarks (marked t page m)
unfolding marked
marked_whole t page m w =
    whole_write t (page / 16) _ w (put_fits 16 (read numbers t (page / 16)) (page % 16) (m % 16) (w.fits (page / 16)) (omega arith) (omega arith))

-- ---- two whole tables with the same marks are one
pub same_marks : (t q : List ℕ) → WholeMarks t → WholeMarks q → ((page : ℕ) → page < most_pages → mark t page ≡ mark q page) → t ≡ q
unfolding mark Whole
same_marks t q w v f =
    ext_get_or 0 t q (w.long ∙ sym v.long) (λ i h.
    let k : i < numbers = omega (arith, w.long) in
    read_in numbers t i k ∙ same_digits 16 (read numbers t i) (read numbers q i) (w.fits i) (v.fits i)
    (λ place l. let a : (16 * i + place) / 16 ≡ i = omega arith in
    let b : (16 * i + place) % 16 ≡ place = omega arith in
    rw (a, b) at (f (16 * i + place) (omega arith))) ∙ sym (read_in numbers q i k))

-- ---- the number of sixteen pages
module _ (t : List ℕ) (page : ℕ) (aligned : page % 16 ≡ 0) (inside : page < most_pages) where
  -- its digits are their marks
  pub number_mark : (k : ℕ) → k < 16 → mark t (page + k) ≡ digit (get_or t (page / 16) 0) k
  unfolding mark
  number_mark k l =
      let a : (page + k) / 16 ≡ page / 16 = omega arith in
      let b : (page + k) % 16 ≡ k = omega arith in
      let i : page / 16 < numbers = omega arith in
      rw (a, b, ← read_in numbers t (page / 16) i)

  module _ (w : WholeMarks t) where
    pub number_fits : get_or t (page / 16) 0 < 16 ^ 16
    number_fits = let i : page / 16 < numbers = omega arith in rw (read_in numbers t (page / 16) i) (w.fits (page / 16))

    -- what the table is once it is written as a whole
    module _ (v : ℕ) where
      pub number_whole : v < 16 ^ 16 → WholeMarks (set t (page / 16) v)
      number_whole h = let i : page / 16 < numbers = omega arith in rw (write_in numbers t (page / 16) v i) (whole_write t (page / 16) v w h)

      pub number_inside : (k : ℕ) → page ≤ k → k < page + 16 → mark (set t (page / 16) v) k ≡ digit v (k % 16)
      unfolding mark
      number_inside k h l =
          let i : page / 16 < numbers = omega arith in
          let e : k / 16 ≡ page / 16 = omega arith in
          rw (e, write_in numbers t (page / 16) v i, write_same numbers t (page / 16) v w.long i)

      pub number_outside : (k : ℕ) → (page ≤ k → k < page + 16 → ⊥) → mark (set t (page / 16) v) k ≡ mark t k
      unfolding mark
      number_outside k d =
          let i : page / 16 < numbers = omega arith in
          let e : k / 16 ≡ page / 16 → ⊥ = λ q. d (omega arith) (omega arith) in
          rw (write_in numbers t (page / 16) v i, write_other numbers t (page / 16) v (k / 16) e)
