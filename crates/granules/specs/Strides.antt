-- A run is gone through by strides: the sixteen pages of a number where all of them are still to come, else one page. Sixteen at once are the same as one by one.
use Rattle.std.specs.Prelude.{◌≡◌, Bool, true, false, ◌&&◌, List, ℕ, ◌+◌, ◌-◌, ◌*◌, ◌/◌, ◌%◌, ◌≤◌, ◌<◌, ltb, leb, eqb, set}
use Rattle.std.proofs.Math.Path.{refl, sym, ap}
use Rattle.std.proofs.Common.{◌∙◌}
use native.Mathlib.Omega.{arith}
use Rattle.std.proofs.Math.ListN.{get_or}
use borrow.Author.Tests.{ltb-true, ltb-false, leb-true, eqb-true, lt-ltb, eq-eqb, ne_eqb, le-leb, lt-leb}
use Rattle.rules.specs.Sizes.{most_pages}
use Rattle.rules.specs.Choice.{pick, picked, passed, either, chosen, both_true, left_true, right_true, left_false, right_false, yes_or_no}
use Rattle.tools.specs.Search.{all, all_at, all_if, all_stops}
use Rattle.marks.specs.Digits.{digit, put, alike, alike_fits, alike_digit, alike_only, alike_is}
use Rattle.granules.specs.Table.{mark, WholeMarks, mark_in, marked_in, same_marks, number_mark, number_fits, number_whole, number_inside, number_outside}
use Rattle.granules.specs.Runs.{bears, all_bear, written, filled, bears_past, written_whole, written_same, written_other, fill_starts}

-- how many pages are taken at once
unfoldable pub stride : ℕ → ℕ → ℕ
stride page left = pick (eqb (page % 16) 0 && leb 16 left) 16 1

module _ (page left : ℕ) where
  pub stride_whole : page % 16 ≡ 0 → 16 ≤ left → 16 ≡ stride page left
  unfolding stride
  stride_whole a b = picked _ _ _ _ (both_true _ _ (eq-eqb _ 0 a) (le-leb 16 left b)) refl

  pub stride_inner : (page % 16 ≡ 0 → ⊥) → 1 ≡ stride page left
  unfolding stride
  stride_inner a = passed _ _ _ _ (left_false _ _ (ne_eqb _ 0 a)) refl

  pub stride_short : left < 16 → 1 ≡ stride page left
  unfolding stride
  stride_short b = passed _ _ _ _ (right_false (eqb (page % 16) 0) _ (lt-leb 16 left b)) refl

  pub record Stride (n : ℕ) : Type 0 where
    pub some : 0 < n
    pub few : n ≤ 16
    pub inside : 0 < left → n ≤ left
    pub aligned : n ≡ 16 → page % 16 ≡ 0
    pub single : (n ≡ 16 → ⊥) → n ≡ 1

  pub stride_so : (n : ℕ) → n ≡ stride page left → Stride n
  unfolding stride
  stride_so n e =
      rw e (chosen Stride _ 16 1
      (λ y. let l : 16 ≤ left = leb-true _ _ (right_true (eqb (page % 16) 0) (leb 16 left) y) in
      record {
        some = omega arith;
        few = omega arith;
        inside = λ h. l;
        aligned = λ h. eqb-true _ _ (left_true (eqb (page % 16) 0) (leb 16 left) y);
        single = λ h. absurd (h refl);
      })
      (λ n. record {
        some = omega arith;
        few = omega arith;
        inside = λ h. omega arith;
        aligned = λ h. absurd (omega arith);
        single = λ h. refl;
      }))

pub ruleset strides = (stride_whole, stride_inner, stride_short)

-- ---- a search that is taken in parts: `k` is what the whole of it gives
same_truth : (a b : Bool) → (a ≡ true → b ≡ true) → (b ≡ true → a ≡ true) → a ≡ b
same_truth true b f g = sym (f refl)
same_truth false b f g = either b (λ y. g y ∙ sym y) (λ n. sym n)

module _ (p : ℕ → Bool) (a n i : ℕ) (k : Bool) (e : k ≡ all p a n) (h : i ≤ n) where
  pub part_goes : all p a i ≡ true → k ≡ all p (a + i) (n - i)
  part_goes s =
      e ∙ same_truth (all p a n) (all p (a + i) (n - i))
      (λ y. all_if p (a + i) (n - i) (λ q b l. all_at p a n q y (omega arith) (omega arith)))
      (λ y. all_if p a n (λ q b l. either (ltb q (a + i)) (λ z. all_at p a i q s b (ltb-true _ _ z)) (λ z. all_at p (a + i) (n - i) q y (ltb-false _ _ z) (omega arith))))

  pub part_stops : all p a i ≡ false → false ≡ k
  part_stops s = either k (λ y. absurd (yes_or_no (all p a i) (all_if p a i (λ q b l. all_at p a n q (sym e ∙ y) b (omega arith))) s)) (λ z. sym z)

-- ---- sixteen pages are looked at as one number
module _ (t : List ℕ) (m page : ℕ) (inside : page < most_pages) where
  one_bears : (seen : ℕ) → seen ≡ mark t page → eqb seen (m % 16) ≡ all (bears t m) page 1
  unfolding bears all
  one_bears seen e = rw (e, lt-ltb page most_pages inside) (either (eqb (mark t page) (m % 16)) (λ y. rw y) (λ n. rw n))

  module _ (w : WholeMarks t) (aligned : page % 16 ≡ 0) where
    number_bears : eqb (get_or t (page / 16) 0) (alike 16 (m % 16)) ≡ all (bears t m) page 16
    unfolding bears
    number_bears =
        let d = m % 16 in
        let small : d < 16 = omega arith in
        let n = get_or t (page / 16) 0 in
        same_truth (eqb n (alike 16 d)) (all (bears t m) page 16)
        (λ y. all_if (bears t m) page 16 (λ q b c.
        let e : page + (q - page) ≡ q = omega arith in
        both_true _ _ (lt-ltb q most_pages (omega arith)) (eq-eqb _ d (
        ap (mark t) (sym e) ∙ number_mark t page aligned inside (q - page) (omega arith)
        ∙ rw (eqb-true n (alike 16 d) y) (alike_digit 16 d (q - page) small (omega arith))))))
        (λ y. eq-eqb _ _ (alike_only 16 n d (number_fits t page aligned inside w) small (λ k b.
        sym (number_mark t page aligned inside k b)
        ∙ eqb-true _ _ (right_true (ltb (page + k) most_pages) _ (all_at (bears t m) page 16 (page + k) y (omega arith) (omega arith))))))

    -- ---- and written as one number
    number_written : set t (page / 16) (alike 16 (m % 16)) ≡ written t page 16 m
    number_written =
        let v = alike 16 (m % 16) in
        let small : m % 16 < 16 = omega arith in
        same_marks (set t (page / 16) v) (written t page 16 m)
        (number_whole t page aligned inside w v (alike_fits 16 (m % 16) small)) (written_whole t page 16 m w)
        (λ q b. either (leb page q && ltb q (page + 16))
        (λ y. let h : page ≤ q = leb-true _ _ (left_true (leb page q) (ltb q (page + 16)) y) in
        let l : q < page + 16 = ltb-true _ _ (right_true (leb page q) (ltb q (page + 16)) y) in
        number_inside t page aligned inside w v q h l ∙ alike_digit 16 (m % 16) (q % 16) small (omega arith) ∙ sym (written_same t page 16 m q w b h l))
        (λ n. let d : page ≤ q → q < page + 16 → ⊥ = λ h l. yes_or_no _ (both_true _ _ (le-leb _ _ h) (lt-ltb _ _ l)) n in
        number_outside t page aligned inside w v q d ∙ sym (written_other t page 16 m q d)))

-- ---- how the code looks at a stride, and writes it: `number` is that of the page
module _ (t : List ℕ) (page left m : ℕ) where
  pub bears_none : most_pages ≤ page → false ≡ all (bears t m) page (stride page left)
  bears_none h = all_stops _ _ _ _ refl (stride_so page left _ refl).some (bears_past t m page h)

  pub bears_inside : (said : Bool) → said ≡ all (bears t m) page (stride page left) → said ≡ true → page < most_pages
  unfolding bears
  bears_inside said e y =
      let some = (stride_so page left _ refl).some in
      ltb-true _ _ (left_true (ltb page most_pages) _ (all_at (bears t m) page (stride page left) page (sym e ∙ y) (omega arith) (omega arith)))

  module _ (n : ℕ) (e : n ≡ stride page left) (inside : page < most_pages) where
    module _ (number : ℕ) (is : number ≡ get_or t (page / 16) 0) where
      pub bears_number : n ≡ 16 → WholeMarks t → eqb number (m % 16 * 1229782938247303441) ≡ all (bears t m) page (stride page left)
      bears_number h w = rw (← e, h, alike_is (m % 16), is) (number_bears t m page inside w ((stride_so page left n e).aligned h))

      pub bears_page : (seen : ℕ) → (n ≡ 16 → ⊥) → seen ≡ digit number (page % 16) → eqb seen (m % 16) ≡ all (bears t m) page (stride page left)
      bears_page seen h f =
          rw (← e, (stride_so page left n e).single h) (one_bears t m page inside seen (mark_in t page seen inside (f ∙ ap (λ (k : ℕ). digit k (page % 16)) is)))

      pub writes_page : (v : ℕ) → (n ≡ 16 → ⊥) → v ≡ put number (page % 16) (m % 16) → set t (page / 16) v ≡ written t page (stride page left) m
      unfolding written
      writes_page v h f =
          rw (← e, (stride_so page left n e).single h) (marked_in t page m v inside (f ∙ ap (λ (k : ℕ). put k (page % 16) (m % 16)) is))

    pub writes_number : n ≡ 16 → WholeMarks t → set t (page / 16) (m % 16 * 1229782938247303441) ≡ written t page (stride page left) m
    writes_number h w = rw (← e, h, alike_is (m % 16)) (number_written t m page inside w ((stride_so page left n e).aligned h))

-- ---- a run of one page is one stride
module _ (t : List ℕ) (first count m : ℕ) (single : count ≡ 1) where
  pub one_borne : (r : Bool) → r ≡ all (bears t m) first (stride first 1) → r ≡ all_bear t first count m
  unfolding all_bear
  one_borne r e = e ∙ rw (single, ← stride_short first 1 (omega arith))

  pub one_filled : (t' : List ℕ) → first + count ≤ most_pages → t' ≡ written t first (stride first 1) m → t' ≡ filled t first count m
  one_filled t' h e = e ∙ rw (← stride_short first 1 (omega arith), ← single) (sym (fill_starts t first count m h))

pub ruleset parts = (bears_none, bears_number, bears_page, writes_number, writes_page)
