-- The line of an image: its identifier, offset, size and flags, and the name of an identifier that is known.
use Rattle.std.specs.Prelude.{◌≡◌, refl, List, [], ◌∷◌, ◌++◌, min, ℕ, zero, suc, ◌+◌, ◌-◌, ◌*◌, ◌/◌, ◌≤◌, ◌<◌, ltb}
use Rattle.std.proofs.Common.{sym, ◌∙◌, add-one, length-append, le-leb, ltb-true, ltb-false}
use Rattle.std.proofs.Math.Path.{ap}
use native.Mathlib.Omega.{arith}
use Rattle.std.proofs.Math.ListN.{length}
use Rattle.rules.specs.Choice.{pick, pick_yes, chosen}
use Rattle.tools.specs.Laid.{laid, put, laid_append, length_laid}
use Rattle.fip_entries.specs.Entries.{entry, offset, size, flags}
use Rattle.fip_identifiers.specs.Identifiers.{id_text}
use Rattle.fip_text.specs.Names.{name_text}
use Rattle.writing.specs.Decimal.{decimal_text, decimal_short}
use Rattle.writing.specs.Pieces.{Stands, written, stands_then}

-- a space and a number
unfoldable pub number_text : ℕ → List ℕ
number_text x = 32 ∷ decimal_text x

-- of entry k of a table
unfoldable pub numbers_text : List ℕ → ℕ → List ℕ
numbers_text t k = number_text (offset t k) ++ (number_text (size t k) ++ number_text (flags t k))

unfoldable pub line_text : List ℕ → ℕ → List ℕ
line_text t k = id_text t (entry k) ++ (numbers_text t k ++ (name_text (id_text t (entry k)) ++ (10 ∷ [])))

-- the lines of n entries, from one on
unfoldable pub lines_text : List ℕ → ℕ → ℕ → List ℕ
lines_text t k zero = []
lines_text t k (suc n) = line_text t k ++ lines_text t (suc k) n

-- how many entries of a table are listed: no package has more than 64
unfoldable pub listed : List ℕ → ℕ
listed t = pick (ltb (length t / 40) 64) (length t / 40) 64

unfoldable pub list_text : List ℕ → List ℕ
list_text t = lines_text t 0 (listed t)

-- ---- the pieces of a line
pub stands_put : (o o' text : List ℕ) (at r : ℕ) → at + length text ≤ length o → (r, o') ≡ put o at text → Stands o at text r o'
unfolding put
stands_put o o' text at r h e =
    let p : ◌≡◌ {A = ℕ × List ℕ} (r, o') (at + length text, laid o at text) = e ∙ pick_yes _ _ _ (le-leb _ _ h) in
    record { behind = ap (λ (q : ℕ × List ℕ). q.0) p; bytes = ap (λ (q : ℕ × List ℕ). q.1) p }

pub number_put :
    (o o₁ o₂ : List ℕ) (at a x r : ℕ) → at + 21 ≤ length o → Stands o at (32 ∷ []) a o₁ → (r, o₂) ≡ put o₁ a (decimal_text x) → Stands o at (number_text x) r o₂ × (r ≤ at + 21)
unfolding number_text
number_put o o₁ o₂ at a x r h s e =
    let few = decimal_short x in
    let size = ap length s.bytes ∙ length_laid o at (32 ∷ []) in
    let room : a + length (decimal_text x) ≤ length o₁ = omega (arith, s.behind) in
    let d = stands_put o₁ o₂ (decimal_text x) a r room e in
    (stands_then o o₁ o₂ (32 ∷ []) (decimal_text x) at a r s d, omega (arith, s.behind, d.behind))

module _ (t : List ℕ) (k : ℕ) where
  pub numbers_put :
      (o o₁ o₂ o₃ : List ℕ) (at i j r x y z : ℕ) → x ≡ offset t k → y ≡ size t k → z ≡ flags t k →
      Stands o at (number_text x) i o₁ → Stands o₁ i (number_text y) j o₂ → Stands o₂ j (number_text z) r o₃ → Stands o at (numbers_text t k) r o₃
  unfolding numbers_text
  numbers_put o o₁ o₂ o₃ at i j r x y z e f g p q s =
      rw (← e, ← f, ← g) (stands_then o o₁ o₃ _ _ at i r p (stands_then o₁ o₂ o₃ _ _ i j r q s))

  pub line_put :
      (o o₁ o₂ o₃ o₄ id : List ℕ) (at a b c r : ℕ) → id ≡ id_text t (entry k) → Stands o at id a o₁ → Stands o₁ a (numbers_text t k) b o₂ → Stands o₂ b (name_text id) c o₃ →
      Stands o₃ c (10 ∷ []) r o₄ → Stands o at (line_text t k) r o₄
  unfolding line_text
  line_put o o₁ o₂ o₃ o₄ id at a b c r e p q s f =
      rw (← e) (stands_then o o₁ o₄ _ _ at a r p (stands_then o₁ o₂ o₄ _ _ a b r q (stands_then o₂ o₃ o₄ _ _ b c r s f)))

-- ---- line behind line
lines_next : (t : List ℕ) (k n : ℕ) → lines_text t k (suc n) ≡ line_text t k ++ lines_text t (k + 1) n
unfolding lines_text
lines_next t k n = rw add-one

-- the lines of the entries from k on are still to be put
pub record Lined (o₀ o t : List ℕ) (n at k : ℕ) : Type 0 where
  pub size : length o ≡ length o₀
  pub low : at ≤ k * 152
  pub upto : k ≤ n
  pub behind : at + length (lines_text t k (n - k)) ≡ length (lines_text t 0 n)
  pub bytes : laid o at (lines_text t k (n - k)) ≡ laid o₀ 0 (lines_text t 0 n)

pub lined_none : (o t : List ℕ) (n : ℕ) → Lined o o t n 0 0
lined_none o t n = let e : n - 0 ≡ n = omega arith in record { size = refl; low = omega arith; upto = omega arith; behind = rw e (omega arith); bytes = rw e }

module _ (o₀ o t : List ℕ) (n at k : ℕ) (p : Lined o₀ o t n at k) where
  pub lined_more : (o' : List ℕ) (r : ℕ) → k < n → Stands o at (line_text t k) r o' → r ≤ at + 152 → Lined o₀ o' t n r (k + 1)
  lined_more o' r h s m =
      let left = n - (k + 1) in
      let z : n - k ≡ suc left = omega arith in
      let e : lines_text t k (n - k) ≡ line_text t k ++ lines_text t (k + 1) left = ap (lines_text t k) z ∙ lines_next t k left in
      let f = length-append (line_text t k) (lines_text t (k + 1) left) in
      let g : length (lines_text t k (n - k)) ≡ length (line_text t k ++ lines_text t (k + 1) left) = ap length e in
      record {
        size = ap length s.bytes ∙ length_laid o at (line_text t k) ∙ p.size;
        low = omega (arith, p.low);
        upto = omega arith;
        behind = omega (arith, s.behind, p.behind);
        bytes = rw (s.bytes, s.behind) (laid_append (line_text t k) (lines_text t (k + 1) left) o at ∙ ap (laid o at) (sym e) ∙ p.bytes);
      }

  pub lined_all : n ≤ k → Stands o₀ 0 (lines_text t 0 n) at o
  unfolding lines_text laid
  lined_all h =
      let z : n - k ≡ 0 = omega arith in
      let b : at + length (lines_text t k 0) ≡ length (lines_text t 0 n) = rw z at p.behind in
      record { behind = omega arith; bytes = rw z at p.bytes }

pub ruleset lining = (lined_none, lined_more, lined_all)

pub listed_min : (t : List ℕ) → min (length t / 40) 64 ≡ listed t
unfolding listed
listed_min t =
    chosen (λ (n : ℕ). min (length t / 40) 64 ≡ n) (ltb (length t / 40) 64) (length t / 40) 64
    (λ y. let h : length t / 40 < 64 = ltb-true _ _ y in omega arith)
    (λ n. let h : 64 ≤ length t / 40 = ltb-false _ _ n in omega arith)

pub list_put : (t o o' : List ℕ) (n r : ℕ) → n ≡ listed t → Stands o 0 (lines_text t 0 n) r o' → (r, o') ≡ written o (list_text t)
unfolding list_text written
list_put t o o' n r e s =
    let l : r ≡ length (lines_text t 0 n) = s.behind ∙ omega arith in
    rw (← e, ← l, ← s.bytes)
