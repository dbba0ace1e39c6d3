-- The digits of a number put from the last one on.
use Rattle.std.specs.Prelude.{◌≡◌, refl, List, [], ◌∷◌, ◌++◌, ℕ, suc, ◌+◌, ◌-◌, ◌/◌, ◌%◌, ◌≤◌, ◌<◌, length, set}
use Rattle.std.proofs.Common.{sym, ap, ◌∙◌, add-zero, length-set}
use native.Mathlib.Omega.{arith}
use Rattle.std.proofs.lemmas.List.{set_comm}
use Rattle.tools.specs.Laid.{laid, put, put_fits, put_not}
use Rattle.hex_digits.specs.Hex.{sign_of, in_hex, length_hex}

-- the last sign first, and the others before it
laid_last : (t o : List ℕ) (i d : ℕ) → laid (set o (i + length t) d) i t ≡ laid o i (t ++ d ∷ [])
unfolding laid
laid_last [] o i d = rw add-zero
laid_last (v ∷ t) o i d =
    let e : i + suc (length t) ≡ suc i + length t = omega arith in
    rw (e, set_comm o (suc i + length t) i d v (λ z. omega arith)) (laid_last t (set o i v) (suc i) d)

-- y is what is left of the number, and has `left` digits to come
pub record Downward (out₀ out : List ℕ) (at n x left y : ℕ) : Type 0 where
  pub size : length out ≡ length out₀
  pub upto : left ≤ n
  pub rest : laid out at (in_hex left y) ≡ laid out₀ at (in_hex n x)

pub down_none : (out : List ℕ) (at n x : ℕ) → Downward out out at n x n x
down_none out at n x = record { size = refl; upto = omega arith; rest = refl }

-- one digit more
last_digit : (out : List ℕ) (at k y : ℕ) → laid (set out (at + k) (sign_of (y % 16))) at (in_hex k (y / 16)) ≡ laid out at (in_hex (suc k) y)
unfolding in_hex
last_digit out at k y =
    let e : k ≡ length (in_hex k (y / 16)) = sym (length_hex k (y / 16)) in
    ap (λ (n : ℕ). laid (set out (at + n) (sign_of (y % 16))) at (in_hex k (y / 16))) e ∙ laid_last (in_hex k (y / 16)) out at (sign_of (y % 16))

module _ (out₀ out : List ℕ) (at n x left y : ℕ) (d : Downward out₀ out at n x left y) where
  pub down_more : (s : ℕ) → 0 < left → s ≡ sign_of (y % 16) → Downward out₀ (set out (at + (left - 1)) s) at n x (left - 1) (y / 16)
  down_more s h e =
      let k : suc (left - 1) ≡ left = omega arith in
      record {
        size = length-set out (at + (left - 1)) s ∙ d.size;
        upto = omega (arith, d.upto);
        rest = rw e (last_digit out at (left - 1) y ∙ ap (λ (j : ℕ). laid out at (in_hex j y)) k ∙ d.rest);
      }

  pub down_all : left ≤ 0 → at + n ≤ length out₀ → (at + n, out) ≡ put out₀ at (in_hex n x)
  unfolding in_hex laid
  down_all h fits =
      let z : left ≡ 0 = omega arith in
      put_fits out₀ at (in_hex n x) n (length_hex n x) out fits (rw z at d.rest)

pub down_not : (out : List ℕ) (at n x : ℕ) → length out < at + n → (at, out) ≡ put out at (in_hex n x)
down_not out at n x h = put_not out at (in_hex n x) n (length_hex n x) h

pub ruleset downward = (down_none, down_more, down_all, down_not)
