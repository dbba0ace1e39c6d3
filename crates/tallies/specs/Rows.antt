-- The answers that a table of counts has rows for, in ascending order, unsigned: 0 to 8, the two versions, and what lies at most 34 below 2^32 and below 2^64.
use Rattle.std.specs.Prelude.{◌≡◌, ℕ, zero, suc, ◌+◌, ◌-◌, ◌≤◌, ◌<◌, ltb, eqb}
use Rattle.std.proofs.Math.Path.{refl}
use Rattle.std.proofs.Common.{sym, ◌∙◌}
use native.Mathlib.Omega.{arith}
use borrow.Author.Tests.{lt-ltb, le-ltb, eq-eqb, ne_eqb, ltb-true, ltb-false, eqb-true, eqb-false}
use Rattle.rules.specs.Choice.{pick, pick_yes, pick_no, picked, passed, chosen, either}

abbrev pub rows : ℕ
rows = 79

-- the lowest short refusal and the lowest long one
abbrev pub shorts : ℕ
shorts = 4294967262

abbrev pub longs : ℕ
longs = 18446744073709551582

-- the answer of a row; 0 past the last
unfoldable pub answer_at : ℕ → ℕ
answer_at r =
    pick (ltb r 9) r
    (pick (ltb r 10) 0x10001
    (pick (ltb r 11) 0x10003
    (pick (ltb r 45) (shorts + (r - 11))
    (pick (ltb r rows) (longs + (r - 45)) 0))))

-- the row of an answer; past the last where it has none
unfoldable pub row_of : ℕ → ℕ
row_of x =
    pick (ltb x 9) x
    (pick (eqb x 0x10001) 9
    (pick (eqb x 0x10003) 10
    (pick (ltb x shorts) rows
    (pick (ltb x 4294967296) (x - shorts + 11)
    (pick (ltb x longs) rows (x - longs + 45))))))

-- ---- each row has another answer, the higher row the higher one
-- by the five kinds
module _ (P : ℕ → ℕ → Type 0) (low : (r : ℕ) → r < 9 → P r r) (power : P 9 0x10001) (version : P 10 0x10003)
    (short : (k : ℕ) → k < 34 → P (k + 11) (shorts + k)) (long : (k : ℕ) → k < 34 → P (k + 45) (longs + k)) where
  by_row_lem : (r : ℕ) → r < rows → P r (answer_at r)
  unfolding answer_at
  by_row_lem r h' =
      chosen (P r) (ltb r 9) _ _ (λ y. low r (ltb-true r 9 y))
      (λ a.
      chosen (P r) (ltb r 10) _ _ (λ y. let e : 9 ≡ r = omega (arith, ltb-false r 9 a, ltb-true r 10 y) in rw (← e) power)
      (λ b.
      chosen (P r) (ltb r 11) _ _ (λ y. let e : 10 ≡ r = omega (arith, ltb-false r 10 b, ltb-true r 11 y) in rw (← e) version)
      (λ c.
      let h = ltb-false r 11 c in
      chosen (P r) (ltb r 45) _ _ (λ y. let e : r - 11 + 11 ≡ r = omega arith in let p = short (r - 11) (omega (arith, ltb-true r 45 y)) in rw e at p)
      (λ d.
      let e : r - 45 + 45 ≡ r = omega (arith, ltb-false r 45 d) in
      let p = long (r - 45) (omega (arith, ltb-false r 45 d)) in
      rw (pick_yes _ (longs + (r - 45)) 0 (lt-ltb r rows h')) (rw e at p)))))

-- the row of each kind of answer
at_low : (r : ℕ) → r < 9 → row_of r ≡ r
unfolding row_of
at_low r h = pick_yes _ _ _ (lt-ltb r 9 h)

at_power : row_of 0x10001 ≡ 9
unfolding row_of pick
at_power = refl

at_version : row_of 0x10003 ≡ 10
unfolding row_of pick
at_version = refl

high : (x : ℕ) → shorts ≤ x → row_of x ≡ pick (ltb x 4294967296) (x - shorts + 11) (pick (ltb x longs) rows (x - longs + 45))
unfolding row_of
high x h =
    pick_no _ _ _ (le-ltb x 9 (omega arith)) ∙ pick_no _ _ _ (ne_eqb x 0x10001 (λ z. omega arith)) ∙ pick_no _ _ _ (ne_eqb x 0x10003 (λ z. omega arith))
    ∙ pick_no _ _ _ (le-ltb x shorts h)

at_short : (k : ℕ) → k < 34 → row_of (shorts + k) ≡ k + 11
at_short k h = high (shorts + k) (omega arith) ∙ pick_yes _ _ _ (lt-ltb (shorts + k) 4294967296 (omega arith)) ∙ omega arith

at_long : (k : ℕ) → row_of (longs + k) ≡ k + 45
at_long k =
    high (longs + k) (omega arith) ∙ pick_no _ _ _ (le-ltb (longs + k) 4294967296 (omega arith)) ∙ pick_no _ _ _ (le-ltb (longs + k) longs (omega arith)) ∙ omega arith

pub row_answer : (r : ℕ) → r < rows → row_of (answer_at r) ≡ r
row_answer =
    by_row_lem (λ (r x : ℕ). row_of x ≡ r) at_low at_power at_version at_short (λ k h. at_long k)

-- the answers of the upper rows
short_at : (k : ℕ) → k < 34 → answer_at (k + 11) ≡ shorts + k
unfolding answer_at
short_at k h =
    pick_no _ _ _ (le-ltb (k + 11) 9 (omega arith)) ∙ pick_no _ _ _ (le-ltb (k + 11) 10 (omega arith)) ∙ pick_no _ _ _ (le-ltb (k + 11) 11 (omega arith))
    ∙ pick_yes _ _ _ (lt-ltb (k + 11) 45 (omega arith)) ∙ omega arith

long_at : (k : ℕ) → k < 34 → answer_at (k + 45) ≡ longs + k
unfolding answer_at
long_at k h =
    pick_no _ _ _ (le-ltb (k + 45) 9 (omega arith)) ∙ pick_no _ _ _ (le-ltb (k + 45) 10 (omega arith)) ∙ pick_no _ _ _ (le-ltb (k + 45) 11 (omega arith))
    ∙ pick_no _ _ _ (le-ltb (k + 45) 45 (omega arith)) ∙ pick_yes _ _ _ (lt-ltb (k + 45) rows (omega arith)) ∙ omega arith

low_at : (r : ℕ) → r < 9 → answer_at r ≡ r
unfolding answer_at
low_at r h = pick_yes _ _ _ (lt-ltb r 9 h)

nine_at : answer_at 9 ≡ 0x10001
unfolding answer_at pick
nine_at = refl

ten_at : answer_at 10 ≡ 0x10003
unfolding answer_at pick
ten_at = refl

-- what has a row is the answer of that row
pub answer_row : (x : ℕ) → row_of x < rows → answer_at (row_of x) ≡ x
unfolding row_of
answer_row x =
    chosen (λ (r : ℕ). r < rows → answer_at r ≡ x) (ltb x 9) _ _ (λ y h. low_at x (ltb-true x 9 y))
    (λ a.
    chosen (λ (r : ℕ). r < rows → answer_at r ≡ x) (eqb x 0x10001) _ _ (λ y h. nine_at ∙ sym (eqb-true x 0x10001 y))
    (λ b.
    chosen (λ (r : ℕ). r < rows → answer_at r ≡ x) (eqb x 0x10003) _ _ (λ y h. ten_at ∙ sym (eqb-true x 0x10003 y))
    (λ c.
    chosen (λ (r : ℕ). r < rows → answer_at r ≡ x) (ltb x shorts) _ _ (λ y h. absurd (omega arith))
    (λ d.
    chosen (λ (r : ℕ). r < rows → answer_at r ≡ x) (ltb x 4294967296) _ _
    (λ y h. let g = ltb-false x shorts d in short_at (x - shorts) (omega (arith, ltb-true x 4294967296 y)) ∙ omega arith)
    (λ e.
    chosen (λ (r : ℕ). r < rows → answer_at r ≡ x) (ltb x longs) _ _ (λ y h. absurd (omega arith))
    (λ f h. let g = ltb-false x longs f in long_at (x - longs) (omega arith) ∙ omega arith))))))

-- the next row's answer is higher
at_least : (r : ℕ) → r < rows → r ≤ answer_at r
at_least = by_row_lem (λ (r x : ℕ). r ≤ x) (λ r h. omega arith) (omega arith) (omega arith) (λ k h. omega arith) (λ k h. omega arith)

last : shorts + 33 < answer_at (suc (33 + 11))
last = omega (arith, long_at 0 (omega arith))

next_higher : (r : ℕ) → r < rows → suc r < rows → answer_at r < answer_at (suc r)
next_higher =
    by_row_lem (λ (r x : ℕ). suc r < rows → x < answer_at (suc r)) (λ r h l. omega (arith, at_least (suc r) l)) (λ l. omega (arith, ten_at)) (λ l. omega (arith, short_at 0 (omega arith)))
    (λ k h l.
    either (ltb (suc k) 34) (λ y. let e : suc (k + 11) ≡ suc k + 11 = omega arith in rw e (omega (arith, short_at (suc k) (ltb-true (suc k) 34 y))))
    (λ n. let g = ltb-false (suc k) 34 n in let z : k ≡ 33 = omega arith in rw z last))
    (λ k h l. let e : suc (k + 45) ≡ suc k + 45 = omega arith in rw e (omega (arith, long_at (suc k) (omega arith))))

pub rows_ascend : (r q : ℕ) → r < q → q < rows → answer_at r < answer_at q
rows_ascend r zero h l = absurd (omega arith)
rows_ascend r (suc q) h l =
    either (eqb r q) (λ y. rw (eqb-true r q y) (next_higher q (omega arith) l))
    (λ n. let d = eqb-false r q n in omega (arith, rows_ascend r q (omega arith) (omega arith), next_higher q (omega arith) l))

-- ---- how the code's branches meet the row of an answer
module _ (x : ℕ) where
  pub row_low : x < 9 → x ≡ row_of x
  unfolding row_of
  row_low h = picked _ _ _ _ (lt-ltb x 9 h) refl

  module _ (a : 9 ≤ x) where
    pub row_power : x ≡ 0x10001 → 9 ≡ row_of x
    unfolding row_of
    row_power e = passed _ _ _ _ (le-ltb x 9 a) (picked _ _ _ _ (eq-eqb x 0x10001 e) refl)

    module _ (b : x ≡ 0x10001 → ⊥) where
      pub row_version : x ≡ 0x10003 → 10 ≡ row_of x
      unfolding row_of
      row_version e = passed _ _ _ _ (le-ltb x 9 a) (passed _ _ _ _ (ne_eqb x 0x10001 b) (picked _ _ _ _ (eq-eqb x 0x10003 e) refl))

      module _ (c : x ≡ 0x10003 → ⊥) where
        pub row_between : x < shorts → 79 ≡ row_of x
        unfolding row_of
        row_between h = passed _ _ _ _ (le-ltb x 9 a) (passed _ _ _ _ (ne_eqb x 0x10001 b) (passed _ _ _ _ (ne_eqb x 0x10003 c) (picked _ _ _ _ (lt-ltb x shorts h) refl)))

pub row_short : (x : ℕ) → shorts ≤ x → x < 4294967296 → x - shorts + 11 ≡ row_of x
row_short x h g = sym (high x h ∙ pick_yes _ _ _ (lt-ltb x 4294967296 g))

pub row_above : (x : ℕ) → 4294967296 ≤ x → x < longs → 79 ≡ row_of x
row_above x h g = sym (high x (omega arith) ∙ pick_no _ _ _ (le-ltb x 4294967296 h) ∙ pick_yes _ _ _ (lt-ltb x longs g))

pub row_long : (x : ℕ) → longs ≤ x → x - longs + 45 ≡ row_of x
row_long x h = sym (high x (omega arith) ∙ pick_no _ _ _ (le-ltb x 4294967296 (omega arith)) ∙ pick_no _ _ _ (le-ltb x longs h))

pub ruleset row_laws = (row_low, row_power, row_version, row_between, row_short, row_above, row_long)

-- and those of a row's answer
module _ (r : ℕ) where
  pub answer_low : r < 9 → r ≡ answer_at r
  unfolding answer_at
  answer_low h = picked _ _ _ _ (lt-ltb r 9 h) refl

  pub answer_power : 9 ≤ r → r < 10 → 0x10001 ≡ answer_at r
  answer_power g h = let e : r ≡ 9 = omega arith in rw e (sym nine_at)

  pub answer_version : 10 ≤ r → r < 11 → 0x10003 ≡ answer_at r
  answer_version g h = let e : r ≡ 10 = omega arith in rw e (sym ten_at)

  pub answer_short : 11 ≤ r → r < 45 → shorts + (r - 11) ≡ answer_at r
  answer_short g h = let e : r - 11 + 11 ≡ r = omega arith in let p = sym (short_at (r - 11) (omega arith)) in rw e at p

  pub answer_long : 45 ≤ r → r < rows → longs + (r - 45) ≡ answer_at r
  answer_long g h = let e : r - 45 + 45 ≡ r = omega arith in let p = sym (long_at (r - 45) (omega arith)) in rw e at p

  pub answer_past : rows ≤ r → 0 ≡ answer_at r
  unfolding answer_at
  answer_past h =
      passed _ _ _ _ (le-ltb r 9 (omega arith)) (passed _ _ _ _ (le-ltb r 10 (omega arith)) (passed _ _ _ _ (le-ltb r 11 (omega arith))
      (passed _ _ _ _ (le-ltb r 45 (omega arith)) (passed _ _ _ _ (le-ltb r rows h) refl))))

pub ruleset answer_laws = (answer_low, answer_power, answer_version, answer_short, answer_long, answer_past)
