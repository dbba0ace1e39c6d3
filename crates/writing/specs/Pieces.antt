-- Pieces of text, put one behind the other.
use Rattle.std.specs.Prelude.{◌≡◌, refl, List, ◌++◌, length, get_or, set, take, drop}
use Rattle.std.proofs.Common.{sym, ap, ◌∙◌, add-zero, add-one, append_assoc, length-append, drop-drop, drop_of_length-le}
use Prim.Native.Nat.{ℕ, suc, ◌+◌, ◌-◌, ◌≤◌, ◌<◌}
use native.Mathlib.Omega.{arith}
use Rattle.std.proofs.Math.ListN.{length-set}
use Rattle.std.proofs.lemmas.List.Edits.{sets}
use Rattle.std.proofs.Math.Seq.{drop-cons}
use Rattle.std.proofs.lemmas.List.Edits.{sets-eq}
use borrow.Rule.Slice.PartMut.{put_mid}
use Rattle.tools.specs.Laid.{laid, put, put_fits, then}

-- a text was laid at a place, and r is the place behind it
pub record Stands (o : List ℕ) (at : ℕ) (text : List ℕ) (r : ℕ) (o' : List ℕ) : Type 0 where
  pub behind : r ≡ at + length text
  pub bytes : o' ≡ laid o at text

-- a text laid at the start, and how long it is
unfoldable pub written : List ℕ → List ℕ → ℕ × List ℕ
written o text = (length text, laid o 0 text)

pub stands_then : (o o₁ o₂ a b : List ℕ) (at i r : ℕ) → Stands o at a i o₁ → Stands o₁ i b r o₂ → Stands o at (a ++ b) r o₂
stands_then o o₁ o₂ a b at i r p q = record {
  behind = omega (arith, p.behind, q.behind, length-append a b);
  bytes = then o o₁ o₂ a b at i (length a) refl p.behind p.bytes q.bytes;
}

-- ---- a text byte by byte: the first i of them stand
pub record Copied (o₀ o text : List ℕ) (at i : ℕ) : Type 0 where
  pub size : length o ≡ length o₀
  pub upto : i ≤ length text
  pub left : laid o (at + i) (drop i text) ≡ laid o₀ at text

pub copied_none : (o text : List ℕ) (at : ℕ) → Copied o o text at 0
copied_none o text at = record { size = refl; upto = omega arith; left = rw add-zero }

module _ (o₀ o text : List ℕ) (at i : ℕ) (p : Copied o₀ o text at i) where
  pub copied_more : i < length text → Copied o₀ (set o (at + i) (get_or text i 0)) text at (i + 1)
  unfolding laid
  copied_more h =
      let e : at + (i + 1) ≡ suc (at + i) = omega arith in
      let d = drop-cons text i 0 h in
      record {
        size = length-set o (at + i) (get_or text i 0) ∙ p.size;
        upto = omega arith;
        left = rw (e, add-one) (ap (sets o (at + i)) (sym d) ∙ p.left);
      }

  pub copied_all : length text ≤ i → o ≡ laid o₀ at text
  unfolding laid
  copied_all h = rw (drop_of_length-le text h) at p.left

pub ruleset copying = (copied_none, copied_more, copied_all)

over : (o text : List ℕ) (at : ℕ) → at + length text ≤ length o → put_mid at (length text) o text ≡ laid o at text
unfolding laid
over o text at h = rw (drop-drop (length text) at o) (sym (sets-eq text o at h ∙ append_assoc (take at o) text (drop (at + length text) o)))

-- a text copied over as many bytes stands there
pub copied_over : (o text now : List ℕ) (at n : ℕ) → n ≡ length text → now ≡ text → at + n ≤ length o → (at + n, put_mid at (at + n - at) o now) ≡ put o at text
copied_over o text now at n e is h =
    put_fits o at text n (sym e) (put_mid at (at + n - at) o now) h
    (let k : at + n - at ≡ length text = omega arith in rw (is, k) (over o text at (omega arith)))
