-- A line of 132 signs, looked at at once: a call and its numbers, or none.
use Rattle.std.specs.Prelude.{◌≡◌, true, ◌&&◌, ℕ, zero, suc, ◌+◌, length, Option, Some}
use Rattle.std.proofs.Math.Path.{refl}
use Rattle.std.proofs.Common.{sym, ap, ◌∙◌, arith, add-zero, zero-add, suc-add}
use Rattle.std.proofs.Math.Bool.{Bool, false}
use mathlib.Core.List.{List}
use Rattle.rules.specs.Choice.{pick, pick_yes, by, either, right_false, yes_or_no}
use Rattle.tools.specs.Search.{all}
use Rattle.hex_digits.specs.Hex.{digit_at, all_digits}
use Rattle.hex_digits.specs.Read.{byte_of, byte_was}
use Rattle.hex_read.specs.Many.{eight, eight_was, eight_left}
use Rattle.parsing.specs.Frame.{call_in, kind, frame_of, parsed, sized_yes, row, hex_line, call_parsed}
use Rattle.parsing.specs.declared.Frame.TheVariants.{Call}
use Rattle.lines.specs.declared.Look.{Look}

-- a call is what is parsed; all else leaves the numbers, and it may be known that not all signs are digits
abbrev pub Looked : List ℕ → List ℕ → Look → List ℕ → Type 0
Looked l xs (Look.Call core) ys = (Call core, ys) ≡ parsed l xs
Looked l xs Look.NoHex ys = (all_digits l ≡ false) × (ys ≡ xs)
Looked l xs Look.Other ys = ys ≡ xs

-- ---- a search over all, in two parts
all_parts : (p : ℕ → Bool) (a m n : ℕ) → all p a (m + n) ≡ (all p a m && all p (a + m) n)
unfolding all
all_parts p a zero n = rw (zero-add, add-zero)
all_parts p a (suc m) n =
    let e : suc a + m ≡ a + suc m = omega arith in
    rw (suc-add, all_parts p (suc a) m n, e)
    (by (λ (b : Bool). (b && (all p (suc a) m && all p (a + suc m) n)) ≡ ((b && all p (suc a) m) && all p (a + suc m) n)) (p a) (λ y. refl) (λ y. refl))

module _ (l xs ys : List ℕ) (h : length l ≡ 132) where
  -- two bytes and eight numbers are all of it
  whole : all (digit_at l) 0 2 ≡ true → all (digit_at l) 2 2 ≡ true → all (digit_at l) 4 128 ≡ true → all_digits l ≡ true
  unfolding all_digits
  whole a b c = rw h (all_parts (digit_at l) 0 2 130 ∙ rw (a, all_parts (digit_at l) 2 2 128, b, c))

  pub quick_call :
      (a b : Option ℕ) (first core : ℕ) (d : Bool) → a ≡ byte_of l 0 → a ≡ Some first → first ≡ 0x20 → b ≡ byte_of l 1 → b ≡ Some core → (d, ys) ≡ eight l 2 xs → d ≡ true →
      Looked l xs (Look.Call core) ys
  unfolding kind pick
  quick_call a b first core d p p' e q q' r t =
      let u = byte_was l 0 first (sym p' ∙ p) in
      let v = byte_was l 1 core (sym q' ∙ q) in
      let w = eight_was l xs ys 2 (rw (← t) r) in
      let f : Call core ≡ frame_of l = hex_line l (Call core) (λ z. omega arith) (omega arith) (omega arith) (whole u.0 v.0 w.0)
      (row l first u.1 0x20 66 (call_in l) (call_in l) (Call core) e refl (sized_yes l 66 (call_in l) (Call core) h (rw v.1)) refl) in
      call_parsed l xs (Call core) f ys refl w.1

  -- the last 128 are not, so not all are
  spoilt : all (digit_at l) 4 128 ≡ false → all_digits l ≡ false
  unfolding all_digits
  spoilt e =
      rw h
      (all_parts (digit_at l) 0 2 130
      ∙ right_false (all (digit_at l) 0 2) _ (all_parts (digit_at l) 2 2 128 ∙ right_false (all (digit_at l) 2 2) _ e))

  -- what cannot be read as eight numbers
  not_eight : (false, ys) ≡ eight l 2 xs → all (digit_at l) 4 128 ≡ false
  unfolding eight
  not_eight e =
      either (all (digit_at l) 4 128)
      (λ y. absurd (yes_or_no false (ap (λ (p : Bool × List ℕ). p.0) (e ∙ pick_yes _ _ _ y)) refl))
      (λ n. n)

  pub quick_none : (d : Bool) → (d, ys) ≡ eight l 2 xs → d ≡ false → Looked l xs Look.NoHex ys
  quick_none d r t = (spoilt (not_eight (rw (← t) r)), eight_left l xs ys 2 (rw (← t) r))

-- what was looked at, taken apart
pub not_digits : (l xs ys : List ℕ) (look : Look) → Looked l xs look ys → look ≡ Look.NoHex → all_digits l ≡ false
not_digits l xs ys look q c = let p : (all_digits l ≡ false) × (ys ≡ xs) = rw c at q in p.0
