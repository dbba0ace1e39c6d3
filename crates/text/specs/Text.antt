-- The text of answers: lower-case hexadecimal, numbers big-endian, and a newline.
use Rattle.std.specs.Prelude.{◌≡◌, List, [], ◌∷◌, ◌++◌, ℕ, ◌+◌, ◌≤◌, ◌<◌, length}
use Rattle.std.proofs.Math.Path.{refl}
use Rattle.std.proofs.Common.{length-append}
use Rattle.tools.specs.Laid.{put, put_not}
use Rattle.hex_write.specs.Put.{put_three}
use Rattle.hex_digits.specs.Hex.{in_hex, length_hex}
use Rattle.hex_write.specs.Digits.{four_text, length_four}
use Rattle.parsing.specs.Frame.{status_byte}
use Rattle.parsing.specs.declared.Status.{Status}

-- a0 and the status
unfoldable pub status_text : Status → List ℕ
status_text s = in_hex 2 0xa0 ++ (in_hex 2 (status_byte s) ++ (10 ∷ []))

-- a1, the core and the world
unfoldable pub head_text : ℕ → ℕ → List ℕ
head_text core world = in_hex 2 0xa1 ++ (in_hex 2 core ++ in_hex 2 world)

-- these and x0 to x3
unfoldable pub call_text : ℕ → ℕ → ℕ → ℕ → ℕ → ℕ → List ℕ
call_text core world x0 x1 x2 x3 = head_text core world ++ (four_text x0 x1 x2 x3 ++ (10 ∷ []))

-- ---- the size of each
-- a call's is the longest
abbrev pub longest : ℕ
longest = 71

pub length_status : (s : Status) → length (status_text s) ≡ 5
unfolding status_text
length_status s = simp (length-append, length_hex)

length_head : (core world : ℕ) → length (head_text core world) ≡ 6
unfolding head_text
length_head core world = simp (length-append, length_hex)

pub length_call : (core world x0 x1 x2 x3 : ℕ) → length (call_text core world x0 x1 x2 x3) ≡ longest
unfolding call_text
length_call core world x0 x1 x2 x3 = simp (length-append, length_head, length_four)

-- ---- a whole answer, put or not
module _ (o o₁ o₂ p : List ℕ) (at a b c : ℕ) where
  pub head_put :
      (core world : ℕ) → at + 6 ≤ length o →
      (a, o₁) ≡ put o at (in_hex 2 0xa1) → (b, o₂) ≡ put o₁ a (in_hex 2 core) → (c, p) ≡ put o₂ b (in_hex 2 world) → (c, p) ≡ put o at (head_text core world)
  unfolding head_text
  head_put core world h = put_three o o₁ o₂ p at a b c 2 2 2 _ _ _ (length_hex 2 0xa1) (length_hex 2 core) (length_hex 2 world) h

  pub status_put :
      (s : Status) (k : ℕ) → k ≡ status_byte s → at + 5 ≤ length o →
      (a, o₁) ≡ put o at (in_hex 2 0xa0) → (b, o₂) ≡ put o₁ a (in_hex 2 k) → (c, p) ≡ put o₂ b (10 ∷ []) → (c, p) ≡ put o at (status_text s)
  unfolding status_text
  status_put s k e h x y z = put_three o o₁ o₂ p at a b c 2 2 1 _ _ _ (length_hex 2 0xa0) (length_hex 2 (status_byte s)) refl h x (rw e at y) z

  pub call_put :
      (core world x0 x1 x2 x3 : ℕ) → at + longest ≤ length o →
      (a, o₁) ≡ put o at (head_text core world) → (b, o₂) ≡ put o₁ a (four_text x0 x1 x2 x3) → (c, p) ≡ put o₂ b (10 ∷ []) → (c, p) ≡ put o at (call_text core world x0 x1 x2 x3)
  unfolding call_text
  call_put core world x0 x1 x2 x3 h = put_three o o₁ o₂ p at a b c 6 64 1 _ _ _ (length_head core world) (length_four x0 x1 x2 x3) refl h

pub status_not : (o : List ℕ) (at : ℕ) (s : Status) → length o < at + 5 → (at, o) ≡ put o at (status_text s)
status_not o at s h = put_not o at (status_text s) 5 (length_status s) h

pub call_not : (o : List ℕ) (at core world x0 x1 x2 x3 : ℕ) → length o < at + longest → (at, o) ≡ put o at (call_text core world x0 x1 x2 x3)
call_not o at core world x0 x1 x2 x3 h = put_not o at (call_text core world x0 x1 x2 x3) longest (length_call core world x0 x1 x2 x3) h
