-- What the lines of an input mean to whoever reads it, each by itself. Laws for an input that is read in parts, whatever a line means, as long as no more than 133 of its bytes are asked for.
use Rattle.std.specs.Prelude.{◌≡◌, ℕ, suc, ◌≤◌, ◌<◌, leb}
use Rattle.std.proofs.Math.Path.{refl, sym, ap}
use Rattle.std.proofs.Common.{◌∙◌, arith, get_or-take, take_all, ne_eqb, leb-true, leb-false}
use mathlib.Core.List.{List, [], ◌∷◌, ◌++◌, map}
use Rattle.std.proofs.Math.ListN.{length, take}
use Rattle.std.proofs.Math.Seq.{length-take-le, take_at}
use Rattle.std.proofs.lemmas.List.{take-append-le}
use Rattle.rules.specs.Choice.{pick, either}
use Rattle.lines.specs.Lines.{lines_of, before, Unbroken, lines_first, lines_closed}
use Rattle.lines.specs.Parts.{complete, lines_parts}

-- the lines of an input, each by its meaning
unfoldable pub meant : {A : Type 0} → (List ℕ → A) → List ℕ → List A
meant f input = map f (lines_of input)

-- 133 bytes of a line are enough to know what it means
abbrev pub Blind : {A : Type 0} → (List ℕ → A) → Type 0
Blind f = (l : List ℕ) → f (take 133 l) ≡ f l

-- so it is where all lines of more than 132 bytes mean the same
pub blind_by : {A : Type 0} (f : List ℕ → A) (a : A) → ((l : List ℕ) → 132 < length l → f l ≡ a) → Blind f
blind_by f a same l =
    either (leb (length l) 133)
    (λ y. ap f (take_all 133 l (leb-true (length l) 133 y)))
    (λ n.
    let h : 133 < length l = leb-false (length l) 133 n in
    same (take 133 l) (omega (arith, length-take-le 133 l (omega arith))) ∙ sym (same l (omega arith)))

-- ---- a line that is not finished, before more bytes
-- bytes with no newline before lines
joined : List ℕ → List (List ℕ) → List (List ℕ)
joined p [] = p ∷ []
joined p (l ∷ ls) = (p ++ l) ∷ ls

joined_one : (b : ℕ) (ls : List (List ℕ)) → before b ls ≡ joined (b ∷ []) ls
unfolding before joined
joined_one b [] = refl
joined_one b (l ∷ ls) = refl

joined_more : (b : ℕ) (p : List ℕ) (ls : List (List ℕ)) → before b (joined p ls) ≡ joined (b ∷ p) ls
unfolding before joined
joined_more b p [] = refl
joined_more b p (l ∷ ls) = refl

lines_joined : (p s : List ℕ) → Unbroken p → (length p ≡ 0 → ⊥) → lines_of (p ++ s) ≡ joined p (lines_of s)
unfolding lines_of pick
lines_joined [] s u n = absurd (n refl)
lines_joined (b ∷ []) s u n = rw (ne_eqb b 10 (u 0 (omega arith))) (joined_one b (lines_of s))
lines_joined (b ∷ c ∷ p) s u n =
    rw (ne_eqb b 10 (u 0 (omega arith)), lines_joined (c ∷ p) s (λ k h. u (suc k) (omega arith)) (λ z. omega arith)) (joined_more b (c ∷ p) (lines_of s))

module _ {A : Type 0} (f : List ℕ → A) where
  pub meant_none : meant f [] ≡ []
  unfolding meant lines_of
  meant_none = refl

  -- a line and its newline, before what is left
  pub meant_first : (l rest : List ℕ) → Unbroken l → meant f (l ++ 10 ∷ rest) ≡ f l ∷ meant f rest
  unfolding meant
  meant_first l rest u = rw (lines_first l rest u)

  -- a last line means what it means with its newline
  pub meant_closed : (l : List ℕ) → Unbroken l → (length l ≡ 0 → ⊥) → meant f (l ++ 10 ∷ []) ≡ meant f l
  unfolding meant
  meant_closed l u n = rw (lines_closed l u n)

  -- complete lines, and whatever stands behind them
  map_append : (ls ms : List (List ℕ)) → map f (ls ++ ms) ≡ map f ls ++ map f ms
  map_append [] ms = refl
  map_append (l ∷ ls) ms = ap (λ (r : List A). f l ∷ r) (map_append ls ms)

  pub meant_parts : (a s : List ℕ) → meant f (complete a ++ s) ≡ meant f (complete a) ++ meant f s
  unfolding meant
  meant_parts a s = rw (lines_parts a s) (map_append (lines_of (complete a)) (lines_of s))

  module _ (blind : Blind f) where
    same_meaning : (p : List ℕ) (ls : List (List ℕ)) → 133 ≤ length p → map f (joined (take 133 p) ls) ≡ map f (joined p ls)
    unfolding joined
    same_meaning p [] h = ap (λ (a : A). a ∷ []) (blind p)
    same_meaning p (l ∷ ls) h =
        let n : length (take 133 p) ≡ 133 = length-take-le 133 p h in
        let e : take 133 (take 133 p ++ l) ≡ take 133 (p ++ l) = take_at (take 133 p) l 133 n ∙ sym (take-append-le 133 p l h) in
        ap (λ (a : A). a ∷ map f ls) (sym (blind (take 133 p ++ l)) ∙ ap f e ∙ blind (p ++ l))

    long_cut : (p s : List ℕ) → 133 ≤ length p → Unbroken p → meant f (take 133 p ++ s) ≡ meant f (p ++ s)
    unfolding meant
    long_cut p s h u =
        let n : length (take 133 p) ≡ 133 = length-take-le 133 p h in
        let v : Unbroken (take 133 p) = λ k g z. u k (omega arith) (sym (get_or-take 133 p k 0 (omega arith)) ∙ z) in
        rw (lines_joined (take 133 p) s v (λ z. omega arith), lines_joined p s u (λ z. omega arith)) (same_meaning p (lines_of s) h)

    -- of a line that is not finished 133 bytes are enough, whatever follows
    pub meant_cut : (p s : List ℕ) → Unbroken p → meant f (take 133 p ++ s) ≡ meant f (p ++ s)
    meant_cut p s u =
        either (leb 133 (length p)) (λ y. long_cut p s (leb-true 133 (length p) y) u)
        (λ n. let h = leb-false 133 (length p) n in ap (λ (q : List ℕ). meant f (q ++ s)) (take_all 133 p (omega arith)))
