-- The text of a sentence: that of each piece behind those before it.
use Rattle.std.specs.Prelude.{◌≡◌, ℕ, zero, suc, ◌+◌, ◌-◌, ◌*◌, ◌^◌, ◌≤◌, ◌<◌, min, ltb, leb, get_or, take}
use Rattle.std.proofs.Math.Path.{refl, ap, subst}
use Rattle.std.proofs.Common.{◌∙◌, arith, le-leb, ltb-true, ltb-false, length-take, get_or-take}
use mathlib.Core.List.{List, [], ◌∷◌, ◌++◌}
use Rattle.std.proofs.Math.Numerals.{add-one}
use Rattle.std.proofs.Math.ListN.{length, length-append}
use Rattle.std.proofs.lemmas.Bool.{lt-leb}
use Rattle.rules.specs.Choice.{pick, picked, passed, chosen, either}
use Rattle.tools.specs.Laid.{laid, put, laid_append, put_fits}
use Rattle.hex_digits.specs.Hex.{in_hex, length_hex}
use Rattle.hex_write.specs.Put.{Laid, was_put, put_then}
use Rattle.writing.specs.Decimal.{decimal_text, decimal_short}
use Rattle.writing.specs.Put.{blanks, length_blanks}
use Rattle.words.specs.Words.{word_text}
use Rattle.words.specs.Joined.{word_short}
use Rattle.phrases.specs.declared.Piece.{Piece}
use Rattle.phrases.specs.declared.Piece.TheVariants.{Word, Number, Right, Line, Hex, Value, Column}
use Rattle.phrases.specs.declared.Sentence.{Sentence}
use Rattle.phrases.specs.Sentence.{most, piece_at}

-- ---- a piece
-- how many blanks stand before a number that takes six signs or more
unfoldable pub indent : ℕ → ℕ
indent x = pick (ltb x 10) 5 (pick (ltb x 100) 4 (pick (ltb x 1000) 3 (pick (ltb x 10000) 2 (pick (ltb x 100000) 1 0))))

-- a number that takes six signs or more, or so many fewer
unfoldable pub right_text : ℕ → ℕ → List ℕ
right_text less x = blanks (indent x - less) ++ decimal_text x

-- eight digits, or twelve or sixteen where it needs more
unfoldable pub hex_text : ℕ → List ℕ
hex_text x = pick (ltb x 0x100000000) (in_hex 8 x) (pick (ltb x 0x1000000000000) (in_hex 12 x) (in_hex 16 x))

-- two or four digits, or those of an address where it needs more
unfoldable pub value_text : ℕ → List ℕ
value_text x = pick (ltb x 0x100) (in_hex 2 x) (pick (ltb x 0x10000) (in_hex 4 x) (hex_text x))

-- blanks up to a column of the line, and at least one
unfoldable pub gap_text : ℕ → ℕ → List ℕ
gap_text width column = blanks (pick (ltb width column) (column - width) 1)

-- a piece behind so many signs that count for the columns
abbrev pub piece_text : ℕ → Piece → List ℕ
piece_text width (Word k) = word_text k
piece_text width (Number x) = decimal_text x
piece_text width (Right x) = right_text 2 x
piece_text width (Line x) = right_text 0 x
piece_text width (Hex x) = hex_text x
piece_text width (Value x) = value_text x
piece_text width (Column c) = gap_text width c

-- how many of its signs count for the columns behind it: of the number of a line six, however many digits it has
abbrev pub in_columns : Piece → ℕ → ℕ
in_columns (Word k) signs = signs
in_columns (Number x) signs = signs
in_columns (Right x) signs = signs
in_columns (Line x) signs = 6
in_columns (Hex x) signs = signs
in_columns (Value x) signs = signs
in_columns (Column c) signs = signs

-- ---- a sentence
-- a line, and how many of its signs count for its columns, with a piece more
unfoldable pub extended : List ℕ × ℕ → Piece → List ℕ × ℕ
extended (l, width) p = let t = piece_text width p in (l ++ t, width + in_columns p (length t))

-- the first pieces
unfoldable pub upto : Sentence → ℕ → List ℕ × ℕ
upto s zero = ([], 0)
upto s (suc i) = extended (upto s i) (piece_at s i)

-- all of them
unfoldable pub text_of : Sentence → List ℕ
text_of s = (upto s (pick (ltb s.count most) s.count most)).0

unfoldable pub line_text : Sentence → List ℕ
line_text s = text_of s ++ 10 ∷ []

-- the most signs of a line
abbrev pub longest : ℕ
longest = 3073

-- a line put at a place, where there is room for the longest
unfoldable pub told : List ℕ → ℕ → List ℕ → ℕ × List ℕ
told out at line = pick (leb (at + longest) (length out)) (at + length line, laid out at line) (at, out)

-- ---- no piece has more than 96 signs, and so a line has a most
indent_few : (x : ℕ) → indent x ≤ 5
unfolding indent
indent_few x =
    chosen (λ (n : ℕ). n ≤ 5) (ltb x 10) _ _ (λ y. omega arith)
    (λ y. chosen (λ (n : ℕ). n ≤ 5) (ltb x 100) _ _ (λ z. omega arith)
    (λ z. chosen (λ (n : ℕ). n ≤ 5) (ltb x 1000) _ _ (λ w. omega arith)
    (λ w. chosen (λ (n : ℕ). n ≤ 5) (ltb x 10000) _ _ (λ v. omega arith) (λ v. chosen (λ (n : ℕ). n ≤ 5) (ltb x 100000) _ _ (λ u. omega arith) (λ u. omega arith)))))

right_short : (less x : ℕ) → length (right_text less x) ≤ 96
unfolding right_text
right_short less x = omega (arith, length-append (blanks (indent x - less)) (decimal_text x), (length_blanks (indent x - less)).1, indent_few x, decimal_short x)

pub hex_few : (x : ℕ) → length (hex_text x) ≤ 16
unfolding hex_text
hex_few x =
    chosen (λ (l : List ℕ). length l ≤ 16) (ltb x 0x100000000) _ _ (λ y. omega (arith, length_hex 8 x))
    (λ y. chosen (λ (l : List ℕ). length l ≤ 16) (ltb x 0x1000000000000) _ _ (λ z. omega (arith, length_hex 12 x)) (λ z. omega (arith, length_hex 16 x)))

hex_short : (x : ℕ) → length (hex_text x) ≤ 96
hex_short x = omega (arith, hex_few x)

value_short : (x : ℕ) → length (value_text x) ≤ 96
unfolding value_text
value_short x =
    chosen (λ (l : List ℕ). length l ≤ 96) (ltb x 0x100) _ _ (λ y. omega (arith, length_hex 2 x))
    (λ y. chosen (λ (l : List ℕ). length l ≤ 96) (ltb x 0x10000) _ _ (λ z. omega (arith, length_hex 4 x)) (λ z. hex_short x))

gap_short : (w c : ℕ) → length (gap_text w c) ≤ 96
unfolding gap_text
gap_short w c = (length_blanks (pick (ltb w c) (c - w) 1)).0

pub piece_short : (w : ℕ) (p : Piece) → length (piece_text w p) ≤ 96
piece_short w (Word k) = omega (arith, word_short k)
piece_short w (Number x) = omega (arith, decimal_short x)
piece_short w (Right x) = right_short 2 x
piece_short w (Line x) = right_short 0 x
piece_short w (Hex x) = hex_short x
piece_short w (Value x) = value_short x
piece_short w (Column c) = gap_short w c

columns_few : (p : Piece) (n : ℕ) → n ≤ 96 → in_columns p n ≤ 96
columns_few (Word k) n h = h
columns_few (Number x) n h = h
columns_few (Right x) n h = h
columns_few (Line x) n h = omega arith
columns_few (Hex x) n h = h
columns_few (Value x) n h = h
columns_few (Column c) n h = h

upto_short : (s : Sentence) (i : ℕ) → length (upto s i).0 ≤ i * 96
unfolding upto extended
upto_short s zero = omega arith
upto_short s (suc i) =
    let q = upto s i in
    let t = piece_text q.1 (piece_at s i) in
    omega (arith, length-append q.0 t, piece_short q.1 (piece_at s i), upto_short s i)

text_short : (s : Sentence) → length (text_of s) ≤ 3072
unfolding text_of
text_short s =
    let n = pick (ltb s.count most) s.count most in
    let h : n ≤ 32 = chosen (λ (n : ℕ). n ≤ 32) (ltb s.count most) _ _ (λ y. omega (arith, ltb-true s.count most y)) (λ y. omega arith) in
    omega (arith, upto_short s n)

pub line_short : (s : Sentence) → length (line_text s) ≤ longest
unfolding line_text
line_short s = omega (arith, length-append (text_of s) (10 ∷ []), text_short s)

-- ---- how the code meets a piece
pub right_put : (o o₁ p : List ℕ) (at a b less x n m : ℕ) → at + 96 ≤ length o → n ≡ indent x → m ≡ n - less → (a, o₁) ≡ put o at (blanks m) → (b, p) ≡ put o₁ a (decimal_text x) → (b, p) ≡ put o at (right_text less x)
unfolding right_text
right_put o o₁ p at a b less x n m h e d f g =
    let k = indent x - less in
    put_then o o₁ p at a b _ _ (blanks k) (decimal_text x) refl refl (omega (arith, right_short less x, length-append (blanks k) (decimal_text x))) (rw (d, e) at f) g

-- ---- piece behind piece: i of them stand, `here` is the place behind them, and so many signs count for the columns
pub record Said (o₀ o : List ℕ) (s : Sentence) (at here width i : ℕ) : Type 0 where
  pub size : length o ≡ length o₀
  pub few : i ≤ 32
  pub inside : i ≤ s.count
  pub place : here ≡ at + length (upto s i).0
  pub low : at ≤ here
  pub high : here ≤ at + i * 96
  pub wide : width ≡ (upto s i).1
  pub below : width ≤ i * 96
  pub is : o ≡ laid o₀ at (upto s i).0

pub said_none : (o : List ℕ) (s : Sentence) (at : ℕ) → Said o o s at at 0 0
unfolding upto laid
said_none o s at = record { size = refl; few = omega arith; inside = omega arith; place = omega arith; low = omega arith; high = omega arith; wide = refl; below = omega arith; is = refl }

module _ (o₀ o : List ℕ) (s : Sentence) (at here width i : ℕ) (d : Said o₀ o s at here width i) where
  -- a piece that is put there, how far it reaches, and how many of its signs count
  module _ (o' : List ℕ) (next : ℕ) (p : Piece) (h : i < 32) (fits : at + 3072 ≤ length o₀) (e : p ≡ piece_at s i) (q : (next, o') ≡ put o here (piece_text width p)) where
    abbrev l : List ℕ
    l = (upto s i).0

    abbrev t : List ℕ
    t = piece_text (upto s i).1 (piece_at s i)

    piece_is : (next, o') ≡ put o here t
    piece_is = q ∙ rw (d.wide, e)

    said_put : Laid o o' here next (length t) t
    said_put = was_put o o' here next (length t) t refl (omega (arith, d.high, d.size, piece_short (upto s i).1 (piece_at s i))) piece_is

    pub said_on : here ≤ next
    said_on = omega (arith, said_put.place)

    said_far : next ≤ here + 96
    said_far = omega (arith, said_put.place, piece_short (upto s i).1 (piece_at s i))

    said_few : (k : ℕ) → k ≡ in_columns p (next - here) → k ≤ 96
    said_few k f = rw f (columns_few p (next - here) (omega (arith, said_far)))

    pub said_room : (k : ℕ) → k ≡ in_columns p (next - here) → width + k < 2 ^ 64
    said_room k f = omega (arith, said_few k f, d.below)

    pub said_more : (k w : ℕ) → i < s.count → k ≡ in_columns p (next - here) → w ≡ width + k → Said o₀ o' s at next w (i + 1)
    unfolding upto extended
    said_more k w g f v =
        let b = piece_short (upto s i).1 (piece_at s i) in
        let z = length-append l t in
        let y : next - here ≡ length t = omega (arith, said_put.place) in
        record {
          size = said_put.size ∙ d.size;
          few = omega arith;
          inside = omega arith;
          place = rw add-one (omega (arith, said_put.place, d.place));
          low = omega (arith, said_put.place, d.low);
          high = omega (arith, said_put.place, d.high);
          wide = rw add-one (v ∙ rw (f, y, e, d.wide));
          below = omega (arith, v, said_few k f, d.below);
          is = rw add-one (said_put.is ∙ rw (d.is, d.place) (laid_append l t o₀ at));
        }

  said_so : i ≡ pick (ltb s.count most) s.count most → at + 3072 ≤ length o₀ → (here, o) ≡ put o₀ at (text_of s)
  unfolding text_of
  said_so z fits =
      let l = (upto s i).0 in
      let f = put_fits o₀ at l (length l) refl o (omega (arith, d.place, d.high, d.few)) d.is in
      subst (λ (n : ℕ). (here, o) ≡ put o₀ at (upto s n).0) z (rw d.place f)

  pub said_all : (n : ℕ) → n ≡ min s.count 32 → length s.pieces ≡ 32 → length (take n s.pieces) ≤ i → at + 3072 ≤ length o₀ → (here, o) ≡ put o₀ at (text_of s)
  said_all n f l g =
      let t = length-take n s.pieces in
      either (ltb s.count most)
      (λ y. let h : s.count < most = ltb-true _ _ y in said_so (picked _ _ _ _ y (omega (arith, d.inside))))
      (λ y. let h : most ≤ s.count = ltb-false _ _ y in said_so (passed _ _ _ _ y (omega (arith, d.few))))

-- a piece of those that are taken is one of the sentence's
pub taken : (s : Sentence) (n i : ℕ) → n ≡ min s.count 32 → i < length (take n s.pieces) → (i < 32) × (i < s.count) × (get_or (take n s.pieces) i (Word 0) ≡ piece_at s i)
taken s n i f h =
    let t = length-take n s.pieces in
    (omega arith, omega arith, get_or-take n s.pieces i (Word 0) (omega arith))

-- ---- the line, put or not
module _ (s : Sentence) (o : List ℕ) (at : ℕ) where
  pub line_put : (o₁ p : List ℕ) (a b : ℕ) → at + longest ≤ length o → (a, o₁) ≡ put o at (text_of s) → (b, p) ≡ put o₁ a (10 ∷ []) → (b, p) ≡ told o at (line_text s)
  unfolding told line_text
  line_put o₁ p a b h e f =
      let t = text_short s in
      let l = length-append (text_of s) (10 ∷ []) in
      let k = was_put o o₁ at a (length (text_of s)) (text_of s) refl (omega arith) e in
      let j = was_put o₁ p a b 1 (10 ∷ []) refl (omega (arith, k.place, k.size)) f in
      let z : b ≡ at + length (text_of s ++ 10 ∷ []) = omega (arith, k.place, j.place) in
      picked _ _ _ _ (le-leb (at + longest) (length o) h) (rw z (ap (λ (q : List ℕ). (at + length (text_of s ++ 10 ∷ []), q)) (j.is ∙ rw (k.is, k.place) (laid_append (text_of s) (10 ∷ []) o at))))

  pub line_not : length o < at + longest → (at, o) ≡ told o at (line_text s)
  unfolding told
  line_not h = passed _ _ _ _ (lt-leb (at + longest) (length o) h) refl
