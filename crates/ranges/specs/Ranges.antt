-- Ranges of numbers, by their start and their size: sums are exact.
use Rattle.std.specs.Prelude.{◌≡◌, refl, Bool, false, not, ◌&&◌, ◌||◌, ◌⊎◌, ℕ, ◌+◌, ◌-◌, ◌*◌, ◌/◌, ◌≤◌, ◌<◌, ltb, leb, eqb}
use Rattle.std.proofs.Math.Path.{sym}
use Rattle.std.proofs.Common.{◌∙◌, inl, inr, ⊎_elim, arith}
use Rattle.std.proofs.Math.Bool.{true}
use borrow.Author.Tests.{lt-ltb, le-ltb, le-leb, lt-leb, eq-eqb, ne_eqb, ltb-true, ltb-false, leb-true, leb-false, eqb-true, eqb-false}
use Rattle.rules.specs.Choice.{either, both_true, left_true, right_true, left_false, right_false, first_or, second_or, neither, not_first, yes_or_no}
use Rattle.rules.specs.Sizes.{page_size}

-- x is one of the s numbers from a on
unfoldable pub within : ℕ → ℕ → ℕ → Bool
within x a s = leb a x && ltb x (a + s)

-- the s numbers from a on and the u numbers from b on meet: one of the two starts within the other
unfoldable pub meet : ℕ → ℕ → ℕ → ℕ → Bool
meet a s b u = within b a s || within a b u

-- the u numbers from b on are all among the s numbers from a on
unfoldable pub inside : ℕ → ℕ → ℕ → ℕ → Bool
inside b u a s = leb a b && leb (b + u) (a + s)

-- v less p is y less q, whichever is the larger
unfoldable pub level : ℕ → ℕ → ℕ → ℕ → Bool
level v p y q = eqb (v + q) (y + p)

-- ---- how the code's tests meet these: it makes no sum
module _ (x a : ℕ) where
  pub within_before : (s : ℕ) → x < a → false ≡ within x a s
  unfolding within
  within_before s h = sym (left_false _ _ (lt-leb a x h))

  pub within_after : (s : ℕ) → a ≤ x → ltb (x - a) s ≡ within x a s
  unfolding within
  within_after s h =
      rw (le-leb a x h)
      (either (ltb (x - a) s) (λ y. y ∙ sym (lt-ltb x (a + s) (omega (arith, ltb-true)))) (λ n. n ∙ sym (le-ltb x (a + s) (omega (arith, ltb-false)))))

  pub within_pages : (n : ℕ) → a ≤ x → ltb ((x - a) / page_size) n ≡ within x a (n * page_size)
  within_pages n h =
      either (ltb ((x - a) / page_size) n) (λ y. y ∙ sym (lt-ltb (x - a) (n * page_size) (omega (arith, ltb-true))) ∙ within_after (n * page_size) h)
      (λ m. m ∙ sym (le-ltb (x - a) (n * page_size) (omega (arith, ltb-false))) ∙ within_after (n * page_size) h)

-- of two ranges, that which starts first decides
pub meets_later : (a s b u : ℕ) (r : Bool) → b < a → r ≡ within a b u → r ≡ meet a s b u
unfolding meet
meets_later a s b u r h e = e ∙ rw (← within_before b a s h)

-- one range inside another
module _ (b u a s : ℕ) where
  pub inside_before : b < a → false ≡ inside b u a s
  unfolding inside
  inside_before h = sym (left_false _ _ (lt-leb a b h))

  pub inside_short : a ≤ b → s < b - a → false ≡ inside b u a s
  unfolding inside
  inside_short h l = sym (right_false (leb a b) _ (lt-leb (b + u) (a + s) (omega arith)))

  pub inside_by : a ≤ b → b - a ≤ s → leb u (s - (b - a)) ≡ inside b u a s
  unfolding inside
  inside_by h l =
      rw (le-leb a b h)
      (either (leb u (s - (b - a))) (λ y. y ∙ sym (le-leb (b + u) (a + s) (omega (arith, leb-true u (s - (b - a)) y))))
      (λ n. n ∙ sym (lt-leb (b + u) (a + s) (omega (arith, leb-false u (s - (b - a)) n)))))

-- two equal differences, by those on one side
module _ (v p y q : ℕ) where
  pub level_not_up : v ≤ y → q < p → false ≡ level v p y q
  unfolding level
  level_not_up h l = sym (ne_eqb (v + q) (y + p) (λ e. omega arith))

  pub level_up : v ≤ y → p ≤ q → eqb (y - v) (q - p) ≡ level v p y q
  unfolding level
  level_up h l =
      either (eqb (y - v) (q - p)) (λ g. g ∙ sym (eq-eqb (v + q) (y + p) (omega (arith, eqb-true (y - v) (q - p) g))))
      (λ n. n ∙ sym (ne_eqb (v + q) (y + p) (λ e. eqb-false (y - v) (q - p) n (omega arith))))

  pub level_not_down : y < v → p < q → false ≡ level v p y q
  unfolding level
  level_not_down h l = sym (ne_eqb (v + q) (y + p) (λ e. omega arith))

  pub level_down : y < v → q ≤ p → eqb (v - y) (p - q) ≡ level v p y q
  unfolding level
  level_down h l =
      either (eqb (v - y) (p - q)) (λ g. g ∙ sym (eq-eqb (v + q) (y + p) (omega (arith, eqb-true (v - y) (p - q) g))))
      (λ n. n ∙ sym (ne_eqb (v + q) (y + p) (λ e. eqb-false (v - y) (p - q) n (omega arith))))

pub ruleset insides = (inside_before, inside_short, inside_by)

pub ruleset levels = (level_not_up, level_up, level_not_down, level_down)

-- an end past a limit
module _ (limit a s : ℕ) where
  pub end_past : limit < s → true ≡ ltb limit (a + s)
  end_past h = sym (lt-ltb limit (a + s) (omega arith))

  pub end_by : s ≤ limit → ltb (limit - s) a ≡ ltb limit (a + s)
  end_by h =
      either (ltb (limit - s) a) (λ y. y ∙ sym (lt-ltb limit (a + s) (omega (arith, ltb-true (limit - s) a y))))
      (λ n. n ∙ sym (le-ltb limit (a + s) (omega (arith, ltb-false (limit - s) a n))))

pub ruleset ranges = (within_before, within_after, within_pages, end_past, end_by)

-- a test of two parts, the first of which is asked first
module _ (r a b : Bool) (said : r ≡ a) where
  pub or_so : r ≡ true → true ≡ (a || b)
  or_so e = rw (← said, e)

  pub or_else : (s : Bool) → r ≡ false → s ≡ b → s ≡ (a || b)
  or_else s e f = rw (← said, e) f

pub ruleset ors = (or_so, or_else)

-- the same of two tests that must both hold, and of one that must not
module _ (r a b : Bool) (said : r ≡ a) where
  pub and_not : r ≡ false → false ≡ (a && b)
  and_not e = rw (← said, e)

  pub and_so : (s : Bool) → r ≡ true → s ≡ b → s ≡ (a && b)
  and_so s e f = rw (← said, e) f

  pub but_not : r ≡ true → false ≡ (not a && b)
  but_not e = rw (← said, e)

  pub but_so : (s : Bool) → r ≡ false → s ≡ b → s ≡ (not a && b)
  but_so s e f = rw (← said, e) f

  pub not_so : r ≡ true → false ≡ not a
  not_so e = rw (← said, e)

  pub not_not : r ≡ false → true ≡ not a
  not_not e = rw (← said, e)

pub ruleset ands = (and_not, and_so, but_not, but_so, not_so, not_not)

-- ---- the plain facts
module _ (x a s : ℕ) where
  pub within_low : within x a s ≡ true → a ≤ x
  unfolding within
  within_low e = leb-true _ _ (left_true (leb a x) (ltb x (a + s)) e)

  pub within_high : within x a s ≡ true → x < a + s
  unfolding within
  within_high e = ltb-true _ _ (right_true (leb a x) (ltb x (a + s)) e)

  pub within_if : a ≤ x → x < a + s → within x a s ≡ true
  unfolding within
  within_if h l = both_true _ _ (le-leb a x h) (lt-ltb x (a + s) l)

module _ (b u a s : ℕ) (e : inside b u a s ≡ true) where
  pub inside_low : a ≤ b
  unfolding inside
  inside_low = leb-true _ _ (left_true (leb a b) (leb (b + u) (a + s)) e)

  pub inside_high : b + u ≤ a + s
  unfolding inside
  inside_high = leb-true _ _ (right_true (leb a b) (leb (b + u) (a + s)) e)

pub inside_if : (b u a s : ℕ) → a ≤ b → b + u ≤ a + s → inside b u a s ≡ true
unfolding inside
inside_if b u a s h l = both_true _ _ (le-leb a b h) (le-leb (b + u) (a + s) l)

pub level_is : (v p y q : ℕ) → level v p y q ≡ true → v + q ≡ y + p
unfolding level
level_is v p y q e = eqb-true (v + q) (y + p) e

pub level_if : (v p y q : ℕ) → v + q ≡ y + p → level v p y q ≡ true
unfolding level
level_if v p y q e = eq-eqb (v + q) (y + p) e

module _ (a s b u : ℕ) where
  -- each of two ranges that meet starts before the other ends
  pub meet_before : meet a s b u ≡ true → 0 < s → 0 < u → (a < b + u) × (b < a + s)
  unfolding meet
  meet_before e h l =
      either (within b a s) (λ y. omega (arith, within_low b a s y, within_high b a s y))
      (λ n. let f : within a b u ≡ true = rw n at e in omega (arith, within_low a b u f, within_high a b u f))

  pub meet_if : a < b + u → b < a + s → meet a s b u ≡ true
  unfolding meet
  meet_if h l =
      either (leb a b) (λ y. first_or (within b a s) _ (within_if b a s (leb-true _ _ y) l))
      (λ n. second_or (within b a s) _ (within_if a b u (omega (arith, leb-false a b n)) h))

  pub meet_not : meet a s b u ≡ false → a < b + u → b < a + s → ⊥
  meet_not e h l = yes_or_no _ (meet_if h l) e

  -- of two that do not, one ends before the other starts; and two such ranges of some size do not meet
  pub meet_apart : meet a s b u ≡ false → (a + s ≤ b) ⊎ (b + u ≤ a)
  meet_apart e =
      either (leb (a + s) b) (λ y. inl (leb-true _ _ y))
      (λ n. either (leb (b + u) a) (λ y. inr (leb-true _ _ y)) (λ k. absurd (meet_not e (leb-false _ _ k) (leb-false _ _ n))))

  pub apart_meet : 0 < s → 0 < u → (a + s ≤ b) ⊎ (b + u ≤ a) → meet a s b u ≡ false
  apart_meet h l d =
      either (meet a s b u)
      (λ y. let c = meet_before y h l in absurd (⊎_elim (λ (z : a + s ≤ b). omega arith) (λ (z : b + u ≤ a). omega arith) d))
      (λ n. n)

  pub meet_sym : meet a s b u ≡ meet b u a s
  unfolding meet
  meet_sym =
      either (within b a s) (λ y. rw y (sym (second_or (within a b u) true refl)))
      (λ n. rw n (either (within a b u) (λ z. rw z) (λ z. rw z)))

  -- a part of a range that meets nothing meets nothing
  pub meet_inside : (c r : ℕ) → a ≤ c → c + r ≤ a + s → 0 < r → meet a s b u ≡ false → meet c r b u ≡ false
  unfolding meet
  meet_inside c r h l k e =
      neither (within b c r) (within c b u)
      (either (within b c r)
      (λ y. absurd (yes_or_no _ (within_if b a s (omega (arith, within_low b c r y)) (omega (arith, within_high b c r y))) (not_first (within b a s) _ e)))
      (λ n. n))
      (either (within c b u) (λ y. absurd (meet_not e (omega (arith, within_high c b u y)) (omega (arith, within_low c b u y)))) (λ n. n))
