-- A sentence with a piece more: its text stands behind that of the pieces before it.
use Rattle.std.specs.Prelude.{◌≡◌, ltb, length, set}
use Rattle.std.proofs.Math.Path.{refl, ap}
use Rattle.std.proofs.Common.{◌∙◌, arith, length-set, get_or-set_same, get_or-set_other, lt-ltb}
use mathlib.Core.List.{List, ◌++◌}
use Prim.Native.Nat.{ℕ, zero, suc, ◌+◌, ◌≤◌, ◌<◌}
use Rattle.rules.specs.Choice.{pick, pick_yes}
use Rattle.phrases.specs.Sentence.{most, piece_at, ◌▹◌}
use Rattle.phrases.specs.Text.{piece_text, in_columns, extended, upto, text_of}
use Rattle.phrases.specs.declared.Piece.{Piece}
use Rattle.phrases.specs.declared.Piece.TheVariants.{Word}
use Rattle.phrases.specs.declared.Sentence.{Sentence}

-- all pieces of a sentence: their text, and how many of its signs count for the columns
abbrev pub whole : Sentence → List ℕ × ℕ
whole s = upto s s.count

module _ (s : Sentence) (p : Piece) (room : s.count < most) (ps : length s.pieces ≡ most) where
  abbrev pub grown : Sentence
  grown = record { pieces = set s.pieces s.count p; count = s.count + 1 }

  before : (i : ℕ) → i < s.count → piece_at grown i ≡ piece_at s i
  before i h =
      let n : (i ≡ s.count → ⊥) = λ e. absurd (omega arith) in
      get_or-set_other s.pieces s.count i p (Word 0) n

  last : piece_at grown s.count ≡ p
  last = get_or-set_same s.pieces s.count p (Word 0) (omega arith)

  upto_before : (i : ℕ) → i ≤ s.count → upto grown i ≡ upto s i
  unfolding upto
  upto_before zero h = refl
  upto_before (suc i) h = rw (upto_before i (omega arith), before i (omega arith))

  more : upto grown (suc s.count) ≡ extended (upto s s.count) p
  unfolding upto
  more = ap (λ (q : List ℕ × ℕ). extended q (piece_at grown s.count)) (upto_before s.count (omega arith)) ∙ ap (extended (upto s s.count)) last

  pub whole_more : whole grown ≡ extended (whole s) p
  whole_more = let z : s.count + 1 ≡ suc s.count = omega arith in ap (upto grown) z ∙ more

-- ---- the same of a sentence that has at most so many pieces
pub record Long (k : ℕ) (s : Sentence) : Type 0 where
  pub few : s.count ≤ k
  pub all_long : length s.pieces ≡ most

module _ (k : ℕ) (s : Sentence) (p : Piece) (l : Long k s) (h : k < most) where
  is_grown : (s ▹ p) ≡ grown s p (omega (arith, l.few)) l.all_long
  unfolding ◌▹◌
  is_grown = pick_yes _ _ s (lt-ltb s.count most (omega (arith, l.few)))

  pub long_more : Long (suc k) (s ▹ p)
  long_more = rw is_grown (record {
    few = omega (arith, l.few);
    all_long = length-set s.pieces s.count p ∙ l.all_long;
  })

  pub text_more : (whole (s ▹ p)).0 ≡ (whole s).0 ++ piece_text (whole s).1 p
  unfolding extended
  text_more = ap (λ (t : Sentence). (whole t).0) is_grown ∙ ap (λ (q : List ℕ × ℕ). q.0) (whole_more s p (omega (arith, l.few)) l.all_long)

  pub signs_more : (whole (s ▹ p)).1 ≡ (whole s).1 + in_columns p (length (piece_text (whole s).1 p))
  unfolding extended
  signs_more = ap (λ (t : Sentence). (whole t).1) is_grown ∙ ap (λ (q : List ℕ × ℕ). q.1) (whole_more s p (omega (arith, l.few)) l.all_long)

-- fewer than fit
pub within : (k l : ℕ) (s : Sentence) → Long k s → k ≤ l → Long l s
within k l s h g = record { few = omega (arith, h.few); all_long = h.all_long }

-- then the text is that of all pieces
pub text_whole : (k : ℕ) (s : Sentence) → Long k s → k < most → text_of s ≡ (whole s).0
unfolding text_of
text_whole k s l h = ap (λ (n : ℕ). (upto s n).0) (pick_yes (ltb s.count most) s.count most (lt-ltb s.count most (omega (arith, l.few))))
