-- No text of a sentence has a newline in it.
use Rattle.std.specs.Prelude.{◌≡◌, refl, Bool, false, ◌||◌, List, [], ◌∷◌, ◌++◌, ℕ, zero, suc, ◌+◌, ◌-◌, ◌/◌, ◌%◌, ◌<◌, ltb, eqb, get_or, take}
use Prim.Native.String.{String}
use Rattle.std.proofs.Common.{arith, ne_eqb}
use Rattle.rules.specs.Choice.{pick, chosen, neither, not_first, not_second}
use Rattle.hex_digits.specs.Hex.{sign_of, in_hex}
use Rattle.hex_digits.specs.Signs.{signs}
use Rattle.lines.specs.Lines.{Unbroken}
use Rattle.lines.specs.Parts.{broken}
use Rattle.inputs.specs.Cut.{all_unfinished, unfinished_so}
use Rattle.writing.specs.Decimal.{in_decimal, decimal_text}
use Rattle.writing.specs.Put.{row, blanks}
use Rattle.words.specs.Words.{words, word_text}
use Rattle.phrases.specs.Sentence.{most, piece_at}
use Rattle.phrases.specs.Text.{indent, right_text, hex_text, value_text, gap_text, piece_text, extended, upto, text_of}
use Rattle.phrases.specs.declared.Piece.{Piece}
use Rattle.phrases.specs.declared.Piece.TheVariants.{Word, Number, Right, Line, Hex, Value, Column}
use Rattle.phrases.specs.declared.Sentence.{Sentence}

-- a text with no newline
abbrev Whole : List ℕ → Type 0
Whole l = broken l ≡ false

-- ---- texts put together
both_whole : (a b : List ℕ) → Whole a → Whole b → Whole (a ++ b)
unfolding broken
both_whole [] b p q = q
both_whole (x ∷ a) b p q = neither (eqb x 10) (broken (a ++ b)) (not_first (eqb x 10) (broken a) p) (both_whole a b (not_second (eqb x 10) (broken a) p) q)

part_whole : (n : ℕ) (l : List ℕ) → Whole l → Whole (take n l)
unfolding broken
part_whole zero l p = refl
part_whole (suc n) [] p = refl
part_whole (suc n) (x ∷ l) p = neither (eqb x 10) (broken (take n l)) (not_first (eqb x 10) (broken l) p) (part_whole n l (not_second (eqb x 10) (broken l) p))

-- a sign that stands above 10
one_whole : (x : ℕ) → 10 < x → Whole (x ∷ [])
unfolding broken
one_whole x h = neither (eqb x 10) false (ne_eqb x 10 (λ z. omega arith)) refl

-- ---- numbers and blanks
decimal_whole : (m x : ℕ) → Whole (in_decimal m x)
unfolding in_decimal broken
decimal_whole zero x = refl
decimal_whole (suc m) x =
    chosen Whole (ltb x 10) _ _ (λ y. one_whole (48 + x) (omega arith))
    (λ n. both_whole (in_decimal m (x / 10)) ((48 + x % 10) ∷ []) (decimal_whole m (x / 10)) (one_whole (48 + x % 10) (omega arith)))

sign_high : (d : ℕ) → 10 < sign_of d
unfolding sign_of
sign_high d = chosen (λ (s : ℕ). 10 < s) (ltb d 10) _ _ (λ y. omega arith) (λ n. omega arith)

hex_whole : (n x : ℕ) → Whole (in_hex n x)
unfolding in_hex broken
hex_whole zero x = refl
hex_whole (suc n) x = both_whole (in_hex n (x / 16)) (sign_of (x % 16) ∷ []) (hex_whole n (x / 16)) (one_whole (sign_of (x % 16)) (sign_high (x % 16)))

row_whole : Whole row
unfolding broken row
row_whole = refl

blanks_whole : (n : ℕ) → Whole (blanks n)
unfolding blanks
blanks_whole n = part_whole n row row_whole

-- ---- words: one test over the table
unfoldable all_whole : List String → Bool
all_whole [] = false
all_whole (w ∷ ws) = broken (signs w) || all_whole ws

words_whole : all_whole words ≡ false
unfolding all_whole words broken
words_whole = refl

whole_at : (ws : List String) (k : ℕ) → all_whole ws ≡ false → Whole (signs (get_or ws k ""))
unfolding all_whole broken
whole_at [] k e = refl
whole_at (w ∷ ws) zero e = not_first (broken (signs w)) (all_whole ws) e
whole_at (w ∷ ws) (suc k) e = whole_at ws k (not_second (broken (signs w)) (all_whole ws) e)

word_whole : (k : ℕ) → Whole (word_text k)
unfolding word_text
word_whole k = whole_at words k words_whole

-- ---- a piece, and a sentence
right_whole : (less x : ℕ) → Whole (right_text less x)
unfolding right_text
right_whole less x = both_whole (blanks (indent x - less)) (decimal_text x) (blanks_whole (indent x - less)) (decimal_whole 20 x)

address_whole : (x : ℕ) → Whole (hex_text x)
unfolding hex_text
address_whole x = chosen Whole (ltb x 0x100000000) _ _ (λ y. hex_whole 8 x) (λ n. chosen Whole (ltb x 0x1000000000000) _ _ (λ y. hex_whole 12 x) (λ m. hex_whole 16 x))

piece_whole : (w : ℕ) (p : Piece) → Whole (piece_text w p)
unfolding value_text gap_text
piece_whole w (Word k) = word_whole k
piece_whole w (Number x) = decimal_whole 20 x
piece_whole w (Right x) = right_whole 2 x
piece_whole w (Line x) = right_whole 0 x
piece_whole w (Hex x) = address_whole x
piece_whole w (Value x) = chosen Whole (ltb x 0x100) _ _ (λ y. hex_whole 2 x) (λ n. chosen Whole (ltb x 0x10000) _ _ (λ y. hex_whole 4 x) (λ m. address_whole x))
piece_whole w (Column c) = blanks_whole (pick (ltb w c) (c - w) 1)

upto_whole : (s : Sentence) (i : ℕ) → Whole (upto s i).0
unfolding upto extended broken
upto_whole s zero = refl
upto_whole s (suc i) = both_whole (upto s i).0 (piece_text (upto s i).1 (piece_at s i)) (upto_whole s i) (piece_whole (upto s i).1 (piece_at s i))

pub text_unbroken : (s : Sentence) → Unbroken (text_of s)
unfolding text_of
text_unbroken s =
    let t = (upto s (pick (ltb s.count most) s.count most)).0 in
    rw (all_unfinished t (upto_whole s (pick (ltb s.count most) s.count most))) at (unfinished_so t)
