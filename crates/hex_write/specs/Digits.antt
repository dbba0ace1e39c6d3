-- The digits of numbers, by their bytes: two signs a byte.
use Rattle.std.specs.Prelude.{◌≡◌, refl, ℕ, zero, suc, ◌+◌, ◌-◌, ◌*◌, ◌/◌, ◌%◌, ◌≤◌, ◌<◌, length, get_or}
use Rattle.std.proofs.Common.{sym, ◌∙◌, arith, add-one, length-append}
use Rattle.std.proofs.Math.Path.{ap}
use mathlib.Core.List.{List, [], ◌∷◌, ◌++◌, append_assoc}
use Rattle.tools.specs.Laid.{laid, put, then, laid_append, length_laid, put_fits, put_not}
use Rattle.hex_digits.specs.Hex.{sign_of, in_hex, length_hex}
use Rattle.hex_digits.specs.Swap.{swap, quotient, rest}
use Rattle.hex_write.specs.Bytes.{low_bytes, four_of, swapped_bytes, mod_byte}

-- the two signs of a byte
abbrev pub byte_text : ℕ → List ℕ
byte_text b = sign_of (b / 16) ∷ sign_of (b % 16) ∷ []

-- those of n bytes from a place on
unfoldable pub bytes_text : List ℕ → ℕ → ℕ → List ℕ
bytes_text bs i zero = []
bytes_text bs i (suc n) = byte_text (get_or bs i 0) ++ bytes_text bs (suc i) n

-- four numbers
unfoldable pub four_text : ℕ → ℕ → ℕ → ℕ → List ℕ
four_text x0 x1 x2 x3 = in_hex 16 x0 ++ (in_hex 16 x1 ++ (in_hex 16 x2 ++ in_hex 16 x3))

-- ---- a number in hexadecimal, byte by byte
hex_byte : (n x : ℕ) → in_hex (suc (suc n)) x ≡ in_hex n (x / 256) ++ byte_text (x % 256)
unfolding in_hex
hex_byte n x =
    let q = x / 256 in
    let r = x % 256 in
    let a = r / 16 in
    let b = r % 16 in
    let e : x / 16 ≡ q * 16 + a = quotient x (q * 16 + a) 16 b (omega arith) (omega arith) in
    let f : x % 16 ≡ b = rest x (q * 16 + a) 16 b (omega arith) (omega arith) in
    let g : (q * 16 + a) / 16 ≡ q = quotient (q * 16 + a) q 16 a refl (omega arith) in
    let h : (q * 16 + a) % 16 ≡ a = rest (q * 16 + a) q 16 a refl (omega arith) in
    rw (e, f, g, h) (append_assoc (in_hex n q) (sign_of a ∷ []) (sign_of b ∷ []))

hex_step : (n x : ℕ) (t : List ℕ) → in_hex n (x / 256) ≡ t → in_hex (suc (suc n)) x ≡ t ++ byte_text (x % 256)
hex_step n x t e = hex_byte n x ∙ ap (λ (l : List ℕ). l ++ byte_text (x % 256)) e

hex_none : (x : ℕ) → in_hex 0 x ≡ []
unfolding in_hex
hex_none x = refl

-- what is left of a number when its lower bytes are taken
module _ (x : ℕ) where
  abbrev y1 : ℕ
  y1 = x / 256

  abbrev y2 : ℕ
  y2 = x / 256 / 256

  abbrev y3 : ℕ
  y3 = x / 256 / 256 / 256

  abbrev y4 : ℕ
  y4 = x / 256 / 256 / 256 / 256

  abbrev y5 : ℕ
  y5 = x / 256 / 256 / 256 / 256 / 256

  abbrev y6 : ℕ
  y6 = x / 256 / 256 / 256 / 256 / 256 / 256

  abbrev y7 : ℕ
  y7 = x / 256 / 256 / 256 / 256 / 256 / 256 / 256

  hex_so : in_hex 16 x ≡ bytes_text (y7 % 256 ∷ y6 % 256 ∷ y5 % 256 ∷ y4 % 256 ∷ y3 % 256 ∷ y2 % 256 ∷ y1 % 256 ∷ x % 256 ∷ []) 0 8
  unfolding bytes_text
  hex_so = hex_step 14 x _ (hex_step 12 y1 _ (hex_step 10 y2 _ (hex_step 8 y3 _ (hex_step 6 y4 _ (hex_step 4 y5 _ (hex_step 2 y6 _ (hex_step 0 y7 [] (hex_none (y7 / 256)))))))))

  module _ (small : x < 18446744073709551616) where
    -- the number by its bytes
    whole : x ≡ x % 256 + y1 % 256 * 256 + (y2 % 256 + y3 % 256 * 256) * 0x10000 + (y4 % 256 + y5 % 256 * 256 + (y6 % 256 + y7 % 256 * 256) * 0x10000) * 0x100000000
    whole = omega arith

number_so : (x : ℕ) → x < 18446744073709551616 → in_hex 16 x ≡ bytes_text (low_bytes (swap x) 8) 0 8
number_so x small =
    hex_so x
    ∙ ap (λ (l : List ℕ). bytes_text l 0 8) (sym (ap (λ (v : ℕ). low_bytes (swap v) 8) (whole x small)
    ∙ swapped_bytes (x % 256) (y1 x % 256) (y2 x % 256) (y3 x % 256) (y4 x % 256) (y5 x % 256) (y6 x % 256) (y7 x % 256)
    (mod_byte x) (mod_byte (y1 x)) (mod_byte (y2 x)) (mod_byte (y3 x)) (mod_byte (y4 x)) (mod_byte (y5 x)) (mod_byte (y6 x)) (mod_byte (y7 x))))

-- ---- one byte
-- the two signs, one after the other
pub byte_put :
    (o o' p : List ℕ) (at b x y : ℕ) → x ≡ sign_of (b / 16) → y ≡ sign_of (b % 16) → o' ≡ laid o at (x ∷ []) → p ≡ laid o' (at + 1) (y ∷ []) → p ≡ laid o at (byte_text b)
byte_put o o' p at b x y e f g h = rw (← e, ← f) (then o o' p (x ∷ []) (y ∷ []) at (at + 1) 1 refl refl g h)

pub byte_fits : (o p : List ℕ) (at x : ℕ) → at + 2 ≤ length o → p ≡ laid o at (byte_text (x % 256)) → (at + 2, p) ≡ put o at (in_hex 2 x)
unfolding in_hex
byte_fits o p at x h e = put_fits o at (in_hex 2 x) 2 (length_hex 2 x) p h (e ∙ ap (laid o at) (sym (hex_byte 0 x)))

pub byte_not : (o : List ℕ) (at x : ℕ) → length o < at + 2 → (at, o) ≡ put o at (in_hex 2 x)
byte_not o at x h = put_not o at (in_hex 2 x) 2 (length_hex 2 x) h

-- ---- bytes put one behind the other
bytes_next : (bs : List ℕ) (i n : ℕ) → bytes_text bs i (suc n) ≡ byte_text (get_or bs i 0) ++ bytes_text bs (i + 1) n
unfolding bytes_text
bytes_next bs i n = rw add-one

-- i of 32 are put
pub record Put (out₀ out bs : List ℕ) (at i : ℕ) : Type 0 where
  pub size : length out ≡ length out₀
  pub upto : i ≤ 32
  pub left : laid out (at + i * 2) (bytes_text bs i (32 - i)) ≡ laid out₀ at (bytes_text bs 0 32)

pub put_first : (out bs : List ℕ) (at : ℕ) → Put out out bs at 0
put_first out bs at = let e : at + 0 * 2 ≡ at = omega arith in record { size = refl; upto = omega arith; left = rw e }

module _ (out₀ out bs : List ℕ) (at i : ℕ) (p : Put out₀ out bs at i) where
  pub put_more : (out' : List ℕ) (b : ℕ) → i < 32 → b ≡ get_or bs i 0 → out' ≡ laid out (at + i * 2) (byte_text b) → Put out₀ out' bs at (i + 1)
  put_more out' b h e f =
      let n : suc (32 - (i + 1)) ≡ 32 - i = omega arith in
      let k : at + (i + 1) * 2 ≡ at + i * 2 + 2 = omega arith in
      record {
        size = ap length f ∙ length_laid out (at + i * 2) (byte_text b) ∙ p.size;
        upto = omega arith;
        left = rw (f, e, k) (laid_append (byte_text (get_or bs i 0)) (bytes_text bs (i + 1) (32 - (i + 1))) out (at + i * 2)
            ∙ ap (laid out (at + i * 2)) (sym (bytes_next bs i (32 - (i + 1))) ∙ ap (bytes_text bs i) n) ∙ p.left);
      }

  pub put_all : 32 ≤ i → out ≡ laid out₀ at (bytes_text bs 0 32)
  unfolding bytes_text laid
  put_all h = let e : i ≡ 32 = omega (arith, p.upto) in rw e at p.left

pub ruleset putting = (put_first, put_more, put_all)

-- ---- four numbers
four_apart :
    (v0 v1 v2 v3 : ℕ) → bytes_text (low_bytes v0 8 ++ (low_bytes v1 8 ++ (low_bytes v2 8 ++ low_bytes v3 8))) 0 32
    ≡ bytes_text (low_bytes v0 8) 0 8 ++ (bytes_text (low_bytes v1 8) 0 8 ++ (bytes_text (low_bytes v2 8) 0 8 ++ bytes_text (low_bytes v3 8) 0 8))
unfolding bytes_text low_bytes
four_apart v0 v1 v2 v3 = refl

pub length_four : (x0 x1 x2 x3 : ℕ) → length (four_text x0 x1 x2 x3) ≡ 64
unfolding four_text
length_four x0 x1 x2 x3 = simp (length-append, length_hex)

module _ (o : List ℕ) (at x0 x1 x2 x3 : ℕ) where
  pub four_fit :
      (p bs : List ℕ) → at + 64 ≤ length o → x0 < 18446744073709551616 → x1 < 18446744073709551616 → x2 < 18446744073709551616 → x3 < 18446744073709551616 →
      bs ≡ four_of x0 x1 x2 x3 → p ≡ laid o at (bytes_text bs 0 32) → (at + 64, p) ≡ put o at (four_text x0 x1 x2 x3)
  unfolding four_text four_of
  four_fit p bs h h0 h1 h2 h3 e f =
      put_fits o at (four_text x0 x1 x2 x3) 64 (length_four x0 x1 x2 x3) p h
      (f ∙ ap (laid o at) (rw (e, four_apart (swap x0) (swap x1) (swap x2) (swap x3), number_so x0 h0, number_so x1 h1, number_so x2 h2, number_so x3 h3)))

  pub four_not : length o < at + 64 → (at, o) ≡ put o at (four_text x0 x1 x2 x3)
  four_not h = put_not o at (four_text x0 x1 x2 x3) 64 (length_four x0 x1 x2 x3) h
