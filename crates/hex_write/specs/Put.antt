-- Texts put one behind the other, where there is room for all.
use Rattle.std.specs.Prelude.{◌≡◌, refl, List, [], ◌∷◌, ◌++◌, ℕ, ◌+◌, ◌≤◌, ◌<◌, length, set}
use Rattle.std.proofs.Common.{ap, ◌∙◌, arith, length-append, le-leb}
use Rattle.rules.specs.Choice.{pick_yes}
use Rattle.tools.specs.Laid.{laid, put, laid_one, length_laid, laid_append, put_fits, put_not}

-- where one fits it was laid, and the place behind it is known
pub record Laid (o o' : List ℕ) (at a n : ℕ) (v : List ℕ) : Type 0 where
  pub place : a ≡ at + n
  pub is : o' ≡ laid o at v
  pub size : length o' ≡ length o

pub was_put : (o o' : List ℕ) (at a n : ℕ) (v : List ℕ) → length v ≡ n → at + n ≤ length o → (a, o') ≡ put o at v → Laid o o' at a n v
unfolding put
was_put o o' at a n v h g e =
    let p : ◌≡◌ {A = ℕ × List ℕ} (a, o') (at + length v, laid o at v) = e ∙ pick_yes _ _ _ (le-leb (at + length v) (length o) (omega arith)) in
    let is : o' ≡ laid o at v = ap (λ (q : ℕ × List ℕ). q.1) p in
    record { place = ap (λ (q : ℕ × List ℕ). q.0) p ∙ omega arith; is = is; size = ap length is ∙ length_laid o at v }

pub put_then :
    (o o' p : List ℕ) (at a b m n : ℕ) (v w : List ℕ) → length v ≡ m → length w ≡ n → at + (m + n) ≤ length o →
    (a, o') ≡ put o at v → (b, p) ≡ put o' a w → (b, p) ≡ put o at (v ++ w)
put_then o o' p at a b m n v w h k g e f =
    let c = was_put o o' at a m v h (omega arith) e in
    let d = was_put o' p a b n w k (omega (arith, c.place, c.size)) f in
    let z : a ≡ at + length v = omega (arith, c.place) in
    let i : b ≡ at + (m + n) = omega (arith, c.place, d.place) in
    rw i (put_fits o at (v ++ w) (m + n) (length-append v w ∙ omega arith) p g (d.is ∙ rw (c.is, z) (laid_append v w o at)))

-- three of them
pub put_three :
    (o o₁ o₂ p : List ℕ) (at a b c k m n : ℕ) (u v w : List ℕ) → length u ≡ k → length v ≡ m → length w ≡ n → at + (k + (m + n)) ≤ length o →
    (a, o₁) ≡ put o at u → (b, o₂) ≡ put o₁ a v → (c, p) ≡ put o₂ b w → (c, p) ≡ put o at (u ++ (v ++ w))
put_three o o₁ o₂ p at a b c k m n u v w hu hv hw g x y z =
    let d = was_put o o₁ at a k u hu (omega arith) x in
    put_then o o₁ p at a c k (m + n) u (v ++ w) hu (length-append v w ∙ omega arith) g x
    (put_then o₁ o₂ p a b c m n v w hv hw (omega (arith, d.place, d.size)) y z)

-- ---- a newline
pub end_put : (o : List ℕ) (at : ℕ) → at < length o → (at + 1, set o at 10) ≡ put o at (10 ∷ [])
end_put o at h = put_fits o at (10 ∷ []) 1 refl (set o at 10) (omega arith) (laid_one o at 10)

pub end_not : (o : List ℕ) (at : ℕ) → length o ≤ at → (at, o) ≡ put o at (10 ∷ [])
end_not o at h = put_not o at (10 ∷ []) 1 refl (omega arith)
