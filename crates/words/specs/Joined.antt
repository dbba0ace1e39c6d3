-- The words one behind the other, and where each of them begins.
use Rattle.std.specs.Prelude.{◌≡◌, refl, Bool, true, ◌&&◌, leb, length, get_or, take, drop}
use Rattle.std.proofs.Common.{sym, ap, ◌∙◌, add-one, length-append, take_at, leb-true}
use mathlib.Core.List.{List, [], ◌∷◌, ◌++◌}
use Prim.Native.Nat.{ℕ, zero, suc, ◌+◌, ◌-◌, ◌≤◌, ◌<◌}
use Prim.Native.String.{String}
use native.Mathlib.Omega.{arith}
use Rattle.std.proofs.Math.ListN.{get_or-eq_default}
use Rattle.std.proofs.Math.Seq.{drop-append-add}
use Rattle.rules.specs.Choice.{left_true, right_true, chosen}
use Rattle.tools.specs.Laid.{put, laid}
use Rattle.hex_digits.specs.Signs.{signs}
use Rattle.words.specs.Words.{words, many, word_text}

-- one behind the other
unfoldable pub joined : List String → List ℕ
joined [] = []
joined (w ∷ ws) = signs w ++ joined ws

unfoldable pub text : List ℕ
text = joined words

-- where word k begins; behind the last, where that one ends
unfoldable pub begins : ℕ → List String → ℕ
begins zero ws = 0
begins (suc k) [] = 0
begins (suc k) (w ∷ ws) = length (signs w) + begins k ws

unfoldable pub begin : ℕ → ℕ
begin k = begins k words

-- the same as a table, from a place on
unfoldable pub table : ℕ → List String → List ℕ
table at [] = at ∷ []
table at (w ∷ ws) = at ∷ table (at + length (signs w)) ws

table_is : (ws : List String) (at k d : ℕ) → k ≤ length ws → get_or (table at ws) k d ≡ at + begins k ws
unfolding table begins
table_is [] at zero d h = omega arith
table_is [] at (suc k) d h = absurd (omega arith)
table_is (w ∷ ws) at zero d h = omega arith
table_is (w ∷ ws) at (suc k) d h = table_is ws (at + length (signs w)) k d (omega arith) ∙ omega arith

length_words : length words ≡ many
unfolding words
length_words = refl

pub begin_is : (k d : ℕ) → k < 113 → get_or (table 0 words) k d ≡ begin k
unfolding begin
begin_is k d h = table_is words 0 k d (omega (arith, length_words)) ∙ omega arith

-- ---- a word is the part from its begin to the next
next_begins : (k : ℕ) (ws : List String) → k < length ws → begins (suc k) ws ≡ begins k ws + length (signs (get_or ws k ""))
unfolding begins
next_begins k [] h = absurd (omega arith)
next_begins zero (w ∷ ws) h = omega arith
next_begins (suc k) (w ∷ ws) h = ap (λ (n : ℕ). length (signs w) + n) (next_begins k ws (omega arith)) ∙ omega arith

part_is : (k : ℕ) (ws : List String) → k < length ws → take (length (signs (get_or ws k ""))) (drop (begins k ws) (joined ws)) ≡ signs (get_or ws k "")
unfolding begins joined
part_is k [] h = absurd (omega arith)
part_is zero (w ∷ ws) h = take_at (signs w) (joined ws) (length (signs w)) refl
part_is (suc k) (w ∷ ws) h = rw (drop-append-add (signs w) (joined ws) (begins k ws)) (part_is k ws (omega arith))

inside : (k : ℕ) (ws : List String) → begins k ws ≤ length (joined ws)
unfolding begins joined
inside zero ws = omega arith
inside (suc k) [] = omega arith
inside (suc k) (w ∷ ws) = omega (arith, length-append (signs w) (joined ws), inside k ws)

length_text : length text ≡ 1480
unfolding text joined words
length_text = refl

pub begin_next : (k : ℕ) → k < many → begin (k + 1) ≡ begin k + length (word_text k)
unfolding begin word_text
begin_next k h = rw add-one (next_begins k words (omega (arith, length_words)))

pub word_in : (k : ℕ) → k < many → take (length (word_text k)) (drop (begin k) text) ≡ word_text k
unfolding begin text word_text
word_in k h = part_is k words (omega (arith, length_words))

pub none_past : (k : ℕ) → many ≤ k → word_text k ≡ []
unfolding word_text words
none_past k h = rw (get_or-eq_default words "" h)

-- ---- no word has more than 48 signs: one test over all
unfoldable all_short : List String → Bool
all_short [] = true
all_short (w ∷ ws) = leb (length (signs w)) 48 && all_short ws

all_short_lem : all_short words ≡ true
unfolding all_short words
all_short_lem = refl

short_at : (ws : List String) (k : ℕ) → all_short ws ≡ true → length (signs (get_or ws k "")) ≤ 48
unfolding all_short
short_at [] k e = omega arith
short_at (w ∷ ws) zero e = leb-true _ _ (left_true (leb (length (signs w)) 48) (all_short ws) e)
short_at (w ∷ ws) (suc k) e = short_at ws k (right_true (leb (length (signs w)) 48) (all_short ws) e)

pub word_short : (k : ℕ) → length (word_text k) ≤ 48
unfolding word_text
word_short k = short_at words k all_short_lem

-- ---- a word put, or nothing
module _ (o : List ℕ) (at k : ℕ) where
  pub word_put : (a b r : ℕ) (o' : List ℕ) → k < many → a ≡ begin k → b ≡ begin (k + 1) → (r, o') ≡ put o at (take (b - a) (drop a text)) → (r, o') ≡ put o at (word_text k)
  word_put a b r o' h e f p =
      let z : b - a ≡ length (word_text k) = omega (arith, begin_next k h) in
      p ∙ ap (put o at) (rw (z, e) (word_in k h))

  pub word_none : many ≤ k → (at, o) ≡ put o at (word_text k)
  unfolding put laid
  word_none h =
      let z : at + 0 ≡ at = omega arith in
      rw (none_past k h) (sym (chosen (λ (q : ℕ × List ℕ). q ≡ (at, o)) (leb (at + 0) (length o)) _ _ (λ y. rw z) (λ n. refl)))

-- both ends of it lie in the text, one behind the other
pub begin_order : (k a b : ℕ) → k < many → a ≡ begin k → b ≡ begin (k + 1) → a ≤ b
begin_order k a b h e f = omega (arith, begin_next k h)

pub begin_inside : (k a : ℕ) → a ≡ begin k → a ≤ 1480
unfolding begin text
begin_inside k a e = omega (arith, inside k words, length_text)

pub ruleset parts = (begin_order, begin_inside, word_put, word_none)
