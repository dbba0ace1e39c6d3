-- The text of a report: a notice where a call came too many, and a line for each count that is not 0, by world and then by answer.
use Rattle.std.specs.Prelude.{◌≡◌, true, false, ℕ, zero, suc, ◌+◌, ◌-◌, ◌*◌, ◌/◌, ◌%◌, ◌≤◌, ◌<◌, leb, eqb, length}
use Rattle.std.proofs.Math.Path.{refl}
use Rattle.std.proofs.Common.{sym, ap, ◌∙◌, add-one, arith, length-append, eq-eqb, ne_eqb}
use mathlib.Core.List.{List, [], ◌∷◌, ◌++◌}
use Rattle.rules.specs.Choice.{pick, pick_yes, pick_no, chosen}
use Rattle.tools.specs.Laid.{laid, put, put_not, put_fits, laid_append}
use Rattle.hex_digits.specs.Hex.{in_hex, length_hex}
use Rattle.hex_write.specs.Put.{put_then, put_three, was_put}
use Rattle.tallies.specs.Rows.{rows, answer_at}
use Rattle.tallies.specs.Tally.{places, count_at, over}

-- b0 and the world
unfoldable pub head_text : ℕ → List ℕ
head_text world = in_hex 2 0xb0 ++ in_hex 2 world

-- the answer and the count
unfoldable pub pair_text : ℕ → ℕ → List ℕ
pair_text x n = in_hex 16 x ++ in_hex 16 n

unfoldable pub line_text : ℕ → ℕ → ℕ → List ℕ
line_text world x n = head_text world ++ (pair_text x n ++ 10 ∷ [])

-- a0 and 8e
unfoldable pub notice_text : List ℕ
notice_text = in_hex 4 0xa08e ++ 10 ∷ []

-- the line of a place, where its count is not 0
unfoldable pub line_at : List ℕ → ℕ → List ℕ
line_at t i = pick (eqb (count_at t i) 0) [] (line_text (i / rows) (answer_at (i % rows)) (count_at t i))

-- the lines of n places, from place i on
unfoldable pub lines_from : List ℕ → ℕ → ℕ → List ℕ
lines_from t i zero = []
lines_from t i (suc n) = line_at t i ++ lines_from t (suc i) n

-- the whole report
unfoldable pub report_text : List ℕ → List ℕ
report_text t = pick (over t) notice_text [] ++ lines_from t 0 places

-- ---- how long they are
length_head : (world : ℕ) → length (head_text world) ≡ 4
unfolding head_text
length_head world = simp (length-append, length_hex)

length_pair : (x n : ℕ) → length (pair_text x n) ≡ 32
unfolding pair_text
length_pair x n = simp (length-append, length_hex)

pub length_line : (world x n : ℕ) → length (line_text world x n) ≡ 37
unfolding line_text
length_line world x n = simp (length-append, length_head, length_pair)

length_notice : length notice_text ≡ 5
unfolding notice_text
length_notice = simp (length-append, length_hex)

length_at : (t : List ℕ) (i : ℕ) → length (line_at t i) ≤ 37
unfolding line_at
length_at t i =
    chosen (λ (l : List ℕ). length l ≤ 37) (eqb (count_at t i) 0) _ _ (λ y. omega arith) (λ n. omega (arith, length_line (i / rows) (answer_at (i % rows)) (count_at t i)))

lines_short : (t : List ℕ) (i n : ℕ) → length (lines_from t i n) ≤ 37 * n
unfolding lines_from
lines_short t i zero = omega arith
lines_short t i (suc n) = omega (arith, length-append (line_at t i) (lines_from t (suc i) n), length_at t i, lines_short t (suc i) n)

pub report_short : (t : List ℕ) → length (report_text t) ≤ 5 + 37 * places
unfolding report_text
report_short t =
    chosen (λ (l : List ℕ). length (l ++ lines_from t 0 places) ≤ 5 + 37 * places) (over t) notice_text []
    (λ y. omega (arith, length-append notice_text (lines_from t 0 places), length_notice, lines_short t 0 places)) (λ n. omega (arith, lines_short t 0 places))

-- ---- a line, put or not
module _ (o o₁ p : List ℕ) (at a b : ℕ) where
  pub head_put : (world : ℕ) → at + 4 ≤ length o → (a, o₁) ≡ put o at (in_hex 2 0xb0) → (b, p) ≡ put o₁ a (in_hex 2 world) → (b, p) ≡ put o at (head_text world)
  unfolding head_text
  head_put world h = put_then o o₁ p at a b 2 2 _ _ (length_hex 2 0xb0) (length_hex 2 world) h

  pub pair_put : (x n : ℕ) → at + 32 ≤ length o → (a, o₁) ≡ put o at (in_hex 16 x) → (b, p) ≡ put o₁ a (in_hex 16 n) → (b, p) ≡ put o at (pair_text x n)
  unfolding pair_text
  pair_put x n h = put_then o o₁ p at a b 16 16 _ _ (length_hex 16 x) (length_hex 16 n) h

  pub notice_put : at + 5 ≤ length o → (a, o₁) ≡ put o at (in_hex 4 0xa08e) → (b, p) ≡ put o₁ a (10 ∷ []) → (b, p) ≡ put o at notice_text
  unfolding notice_text
  notice_put h = put_then o o₁ p at a b 4 1 _ _ (length_hex 4 0xa08e) refl h

  pub line_put : (o₂ : List ℕ) (c world x n : ℕ) → at + 37 ≤ length o
      → (a, o₁) ≡ put o at (head_text world) → (c, o₂) ≡ put o₁ a (pair_text x n) → (b, p) ≡ put o₂ c (10 ∷ []) → (b, p) ≡ put o at (line_text world x n)
  unfolding line_text
  line_put o₂ c world x n h = put_three o o₁ o₂ p at a c b 4 32 1 _ _ _ (length_head world) (length_pair x n) refl h

-- behind the head there is room for the pair
pub pair_room : (o o₁ : List ℕ) (at a world : ℕ) → at + 37 ≤ length o → (a, o₁) ≡ put o at (head_text world) → a + 32 ≤ length o₁
pair_room o o₁ at a world h e = let k = was_put o o₁ at a 4 (head_text world) (length_head world) (omega arith) e in omega (arith, k.place, k.size)

pub line_not : (o : List ℕ) (at world x n : ℕ) → length o < at + 37 → (at, o) ≡ put o at (line_text world x n)
line_not o at world x n h = put_not o at (line_text world x n) 37 (length_line world x n) h

-- ---- the line of a place, where it has one
put_none : (o : List ℕ) (at : ℕ) → put o at [] ≡ (at, o)
unfolding put laid
put_none o at =
    let a : at + 0 ≡ at = omega arith in
    chosen (λ (q : ℕ × List ℕ). q ≡ (at, o)) (leb (at + 0) (length o)) _ _ (λ y. rw a) (λ n. refl)

module _ (t o : List ℕ) (at i n : ℕ) (is : n ≡ count_at t i) where
  pub place_none : n ≡ 0 → (at, o) ≡ put o at (line_at t i)
  unfolding line_at
  place_none z = let e : line_at t i ≡ [] = pick_yes _ _ _ (eq-eqb (count_at t i) 0 (sym is ∙ z)) in rw e (sym (put_none o at))

  pub place_line : (o' : List ℕ) (at' x : ℕ) → (n ≡ 0 → ⊥) → x ≡ answer_at (i % rows) → (at', o') ≡ put o at (line_text (i / rows) x n) → (at', o') ≡ put o at (line_at t i)
  unfolding line_at
  place_line o' at' x z a p =
      let e : line_at t i ≡ line_text (i / rows) x n = pick_no _ _ _ (ne_eqb (count_at t i) 0 (λ y. z (is ∙ y))) ∙ rw (← is, ← a) in
      rw e p

-- ---- the lines, one after the other: `at` is where the next one goes, and what is to come laid there makes the whole
pub record Telling (t o₀ o : List ℕ) (start at i : ℕ) : Type 0 where
  pub size : length o ≡ length o₀
  pub upto : i ≤ places
  pub room : at ≤ start + 37 * i
  pub rest : laid o at (lines_from t i (places - i)) ≡ laid o₀ start (lines_from t 0 places)
  pub long : at + length (lines_from t i (places - i)) ≡ start + length (lines_from t 0 places)

pub telling_none : (t o : List ℕ) (start : ℕ) → Telling t o o start start 0
telling_none t o start = record { size = refl; upto = omega arith; room = omega arith; rest = refl; long = refl }

from_next : (t : List ℕ) (i : ℕ) → i < places → lines_from t i (places - i) ≡ line_at t i ++ lines_from t (i + 1) (places - (i + 1))
unfolding lines_from
from_next t i h = let e : places - i ≡ suc (places - (i + 1)) = omega arith in rw (e, add-one)

pub telling_more : (t o₀ o : List ℕ) (start at i : ℕ) → Telling t o₀ o start at i → i < places → (o' : List ℕ) (at' : ℕ) → start + 37 * places ≤ length o₀ → (at', o') ≡ put o at (line_at t i)
    → Telling t o₀ o' start at' (i + 1)
telling_more t o₀ o start at i d h o' at' fits p =
    let rest = lines_from t (i + 1) (places - (i + 1)) in
    let e = from_next t i h in
    let b = length_at t i in
    let k = was_put o o' at at' (length (line_at t i)) (line_at t i) refl (omega (arith, d.room, d.size)) p in
    let m : at' ≡ at + length (line_at t i) = k.place in
    record {
      size = k.size ∙ d.size;
      upto = omega arith;
      room = omega (arith, d.room);
      rest = rw (k.is, m) (laid_append (line_at t i) rest o at ∙ ap (laid o at) (sym e) ∙ d.rest);
      long = omega (arith, length-append (line_at t i) rest, ap length e, d.long);
    }

pub telling_end : (t o₀ o : List ℕ) (start at i : ℕ) → Telling t o₀ o start at i → places ≤ i → start + 37 * places ≤ length o₀ → (at, o) ≡ put o₀ start (lines_from t 0 places)
unfolding lines_from laid
telling_end t o₀ o start at i d h fits =
    let e : i ≡ places = omega (arith, d.upto) in
    let r : laid o at (lines_from t places 0) ≡ laid o₀ start (lines_from t 0 places) = rw e at d.rest in
    let l : at + length (lines_from t places 0) ≡ start + length (lines_from t 0 places) = rw e at d.long in
    let b = lines_short t 0 places in
    let m : at ≡ start + length (lines_from t 0 places) = omega arith in
    rw m (put_fits o₀ start (lines_from t 0 places) (length (lines_from t 0 places)) refl o (omega arith) r)

pub ruleset tellings = (telling_none, telling_more, telling_end)

-- ---- the whole
pub report_over : (t o o₁ p : List ℕ) (a b : ℕ) (y : over t ≡ true) → 5 + 37 * places ≤ length o → (a, o₁) ≡ put o 0 notice_text → (b, p) ≡ put o₁ a (lines_from t 0 places) → (b, p) ≡ put o 0 (report_text t)
unfolding report_text
report_over t o o₁ p a b y h e f =
    rw (pick_yes (over t) notice_text [] y)
    (put_then o o₁ p 0 a b 5 (length (lines_from t 0 places)) notice_text (lines_from t 0 places) length_notice refl (omega (arith, lines_short t 0 places)) e f)

-- behind the notice there is room for the lines
pub lines_room : (o o₁ : List ℕ) (a : ℕ) → 5 + 37 * places ≤ length o → (a, o₁) ≡ put o 0 notice_text → a + 37 * places ≤ length o₁
lines_room o o₁ a h e = let k = was_put o o₁ 0 a 5 notice_text length_notice (omega arith) e in omega (arith, k.place, k.size)

pub report_plain : (t o p : List ℕ) (b : ℕ) → over t ≡ false → (b, p) ≡ put o 0 (lines_from t 0 places) → (b, p) ≡ put o 0 (report_text t)
unfolding report_text
report_plain t o p b n e = rw (pick_no (over t) notice_text [] n) e

-- the space once a report is laid over it
pub told_space : (o o' text : List ℕ) (n : ℕ) → (n, o') ≡ put o 0 text → o' ≡ (put o 0 text).1
told_space o o' text n e = ap (λ (q : ℕ × List ℕ). q.1) e
