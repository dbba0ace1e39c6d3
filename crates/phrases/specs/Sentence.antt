-- A sentence: pieces one behind the other, at most 32.
use Rattle.std.specs.Prelude.{◌≡◌, ℕ, ◌+◌, ◌≤◌, ◌<◌, ltb, get_or, set, replicate}
use Rattle.std.proofs.Math.Path.{refl}
use borrow.Author.Tests.{lt-ltb, le-ltb}
use Rattle.rules.specs.Choice.{pick, picked, passed}
use Rattle.phrases.specs.declared.Piece.{Piece}
use Rattle.phrases.specs.declared.Piece.TheVariants.{Word}
use Rattle.phrases.specs.declared.Sentence.{Sentence}

abbrev pub most : ℕ
most = 32

-- no pieces
abbrev pub blank : Sentence
blank = record { pieces = replicate most (Word 0); count = 0 }

-- a piece more, where there is room for it
infixl 20 ◌▹◌
unfoldable pub ◌▹◌ : Sentence → Piece → Sentence
s ▹ p = pick (ltb s.count most) (record { pieces = set s.pieces s.count p; count = s.count + 1 }) s

-- piece i
abbrev pub piece_at : Sentence → ℕ → Piece
piece_at s i = get_or s.pieces i (Word 0)

-- ---- how the code's branches meet these
module _ (s : Sentence) (p : Piece) where
  pub with_more : s.count < most → record { pieces = set s.pieces s.count p; count = s.count + 1 } ≡ (s ▹ p)
  unfolding ◌▹◌
  with_more h = picked _ _ _ _ (lt-ltb s.count most h) refl

  pub with_full : most ≤ s.count → s ≡ (s ▹ p)
  unfolding ◌▹◌
  with_full h = passed _ _ _ _ (le-ltb s.count most h) refl

pub ruleset withs = (with_more, with_full)
