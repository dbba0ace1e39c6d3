-- How bytes are laid, one part behind the other.
use Rattle.std.specs.Prelude.{◌≡◌, refl, List, [], ◌∷◌, ◌++◌, ℕ, ◌+◌, ◌-◌, ◌/◌, ◌%◌, ◌≤◌, ◌<◌, length, get_or, set, min, ltb}
use Rattle.std.proofs.Math.Path.{sym}
use Rattle.std.proofs.Common.{ap, ◌∙◌, arith, ltb-true, ltb-false}
use Rattle.rules.specs.Choice.{either}
use Rattle.tools.specs.Laid.{laid, laid_one, laid_append, laid_past, length_laid, then}
use Rattle.fip_lay.specs.Bytes.{spell, copied, entry_of, length_spell, length_copied, spell_next, copied_next, spell_none, copied_none}

-- a loop has laid something over the bytes o and has p now: what is left, laid at a place, makes w of it
pub record Laying (o w p : List ℕ) (at : ℕ) (left : List ℕ) : Type 0 where
  pub long : length p ≡ length o
  pub makes : w ≡ laid p at left

pub laying_starts : (o : List ℕ) (at : ℕ) (left : List ℕ) → Laying o (laid o at left) o at left
laying_starts o at left = record { long = refl; makes = refl }

module _ (o w p : List ℕ) (at : ℕ) (left : List ℕ) (i : Laying o w p at left) where
  pub laying_goes : (p' vs ws : List ℕ) (at' : ℕ) → left ≡ vs ++ ws → at' ≡ at + length vs → p' ≡ laid p at vs → Laying o w p' at' ws
  laying_goes p' vs ws at' e f g =
      record { long = ap length g ∙ length_laid p at vs ∙ i.long; makes = i.makes ∙ rw (e, f, g) (sym (laid_append vs ws p at)) }

  pub laying_ends : left ≡ [] → p ≡ w
  unfolding laid
  laying_ends e = sym (i.makes ∙ rw e)

  -- past the end nothing is laid
  pub laying_past : length p ≤ at → p ≡ w
  laying_past h = sym (i.makes ∙ laid_past left p at h)

-- ---- the loops, which have laid i of n bytes from `at` on
module _ (o w p : List ℕ) (at i n : ℕ) where
  module _ (h : i < n) where
    next_place : at + (i + 1) ≡ at + i + 1
    next_place = omega arith

    one_fewer : n - (i + 1) ≡ n - i - 1
    one_fewer = omega arith

    pub number_goes : (v : ℕ) → Laying o w p (at + i) (spell (n - i) v) → Laying o w (set p (at + i) (v % 256)) (at + (i + 1)) (spell (n - (i + 1)) (v / 256))
    number_goes v l =
        rw (next_place, one_fewer)
        (laying_goes _ _ _ _ _ l _ (v % 256 ∷ []) _ _ (spell_next (n - i) v (omega arith)) refl (laid_one p (at + i) (v % 256)))

    pub bytes_go :
        (s : List ℕ) (from b : ℕ) → Laying o w p (at + i) (copied s (from + i) (n - i)) → b ≡ get_or s (from + i) 0 →
        Laying o w (set p (at + i) b) (at + (i + 1)) (copied s (from + (i + 1)) (n - (i + 1)))
    bytes_go s from b l e =
        let z : from + (i + 1) ≡ from + i + 1 = omega arith in
        rw (next_place, one_fewer)
        (laying_goes _ _ _ _ _ l _ (b ∷ []) _ _ (copied_next s (from + i) (n - i) (omega arith) ∙ rw (e, z)) refl (laid_one p (at + i) b))

  -- as many as there are, or as lie before the end
  module _ (e : i ≡ min n (length o - at)) where
    ends_at : (left : List ℕ) → Laying o w p (at + i) left → (n - i ≤ 0 → left ≡ []) → p ≡ w
    ends_at left l f =
        either (ltb i n)
        (λ y. let h = ltb-true i n y in laying_past _ _ _ _ _ l (omega (arith, l.long)))
        (λ y. let h = ltb-false i n y in laying_ends _ _ _ _ _ l (f (omega arith)))

    pub number_ends : (v : ℕ) → Laying o w p (at + i) (spell (n - i) v) → p ≡ w
    number_ends v l = ends_at (spell (n - i) v) l (spell_none (n - i) v)

    pub bytes_end : (s : List ℕ) (from : ℕ) → Laying o w p (at + i) (copied s (from + i) (n - i)) → p ≡ w
    bytes_end s from l = ends_at (copied s (from + i) (n - i)) l (copied_none s (from + i) (n - i))

-- no byte has been laid yet
module _ (o : List ℕ) (at n : ℕ) where
  pub number_starts : (v : ℕ) → Laying o (laid o at (spell n v)) o (at + 0) (spell (n - 0) v)
  number_starts v = let x : at + 0 ≡ at = omega arith in let y : n - 0 ≡ n = omega arith in rw (x, y) (laying_starts o at (spell n v))

  pub bytes_start : (s : List ℕ) (from : ℕ) → Laying o (laid o at (copied s from n)) o (at + 0) (copied s (from + 0) (n - 0))
  bytes_start s from =
      let x : at + 0 ≡ at = omega arith in
      let y : n - 0 ≡ n = omega arith in
      let z : from + 0 ≡ from = omega arith in
      rw (x, y, z) (laying_starts o at (copied s from n))

-- ---- parts one behind the other
pub three :
    (o o₁ o₂ p a b c : List ℕ) (i j k l m : ℕ) → length a ≡ l → length b ≡ m → j ≡ i + l → k ≡ j + m →
    o₁ ≡ laid o i a → o₂ ≡ laid o₁ j b → p ≡ laid o₂ k c → p ≡ laid o i (a ++ (b ++ c))
three o o₁ o₂ p a b c i j k l m f g e h x y z = then o o₁ p a (b ++ c) i j l f e x (then o₁ o₂ p b c j k m g h y z)

pub numbers_laid :
    (o o₁ o₂ p : List ℕ) (at a b c : ℕ) → o₁ ≡ laid o at (spell 8 a) → o₂ ≡ laid o₁ (at + 8) (spell 8 b) → p ≡ laid o₂ (at + 16) (spell 8 c) →
    p ≡ laid o at (spell 8 a ++ (spell 8 b ++ spell 8 c))
numbers_laid o o₁ o₂ p at a b c = three o o₁ o₂ p _ _ _ at (at + 8) (at + 16) 8 8 (length_spell 8 a) (length_spell 8 b) refl (omega arith)

pub entry_laid :
    (o o₁ p s : List ℕ) (at from offset size flags : ℕ) → o₁ ≡ laid o at (copied s from 16) →
    p ≡ laid o₁ (at + 16) (spell 8 offset ++ (spell 8 size ++ spell 8 flags)) → p ≡ laid o at (entry_of (copied s from 16) offset size flags)
unfolding entry_of
entry_laid o o₁ p s at from offset size flags = then o o₁ p (copied s from 16) _ at (at + 16) 16 (length_copied s from 16) refl
