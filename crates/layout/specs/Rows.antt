-- Rows of numbers, lists one behind the other and totals, each over the first n places; and what stands where among other numbers.
use Rattle.std.specs.Prelude.{◌≡◌, refl, length, get_or, set, take, drop}
use Rattle.std.proofs.Common.{sym, ◌∙◌, eq-or-lt_of_le, le_of_suc-le-suc, mul-add, suc-mul, get_or-set_other, length-take-le}
use mathlib.Core.List.{List, [], ◌∷◌, ◌++◌, append-nil, append_assoc}
use Rattle.std.proofs.Math.Logic.{⊎_elim}
use Prim.Native.Nat.{ℕ, zero, suc, ◌+◌, ◌*◌, ◌≤◌, ◌<◌}
use native.Mathlib.Omega.{arith}
use Rattle.std.proofs.Math.ListN.{length-append, get_or-append}
use Rattle.std.proofs.Math.Seq.{get_or-append_seam, get_or-append-add}
use Rattle.std.proofs.lemmas.List.Edits.{sets-eq}
use Rattle.tools.specs.Laid.{laid}

unfoldable pub rows : (ℕ → ℕ) → ℕ → List ℕ
rows f zero = []
rows f (suc n) = rows f n ++ (f n ∷ [])

unfoldable pub flat : (ℕ → List ℕ) → ℕ → List ℕ
flat f zero = []
flat f (suc n) = flat f n ++ f n

unfoldable pub total : (ℕ → ℕ) → ℕ → ℕ
total f zero = 0
total f (suc n) = total f n + f n

-- ---- lengths
pub length_rows : (f : ℕ → ℕ) (n : ℕ) → length (rows f n) ≡ n
unfolding rows
length_rows f zero = refl
length_rows f (suc n) = length-append (rows f n) (f n ∷ []) ∙ rw (length_rows f n) (omega arith)

pub length_flat : (f : ℕ → List ℕ) (g : ℕ → ℕ) (m : ℕ) → ((i : ℕ) → length (f i) ≡ m * g i) → (n : ℕ) → length (flat f n) ≡ m * total g n
unfolding flat total
length_flat f g m h zero = omega arith
length_flat f g m h (suc n) = length-append (flat f n) (f n) ∙ rw (length_flat f g m h n, h n) (sym (mul-add m (total g n) (g n)))

-- ---- totals
pub total_within : (f : ℕ → ℕ) (i n : ℕ) → i < n → total f i + f i ≤ total f n
unfolding total
total_within f i zero h = absurd (omega arith)
total_within f i (suc n) h =
    ⊎_elim (λ (z : suc i ≡ suc n). let y : i ≡ n = omega arith in rw y (omega arith))
    (λ (z : suc i < suc n). omega (arith, total_within f i n (le_of_suc-le-suc z))) (eq-or-lt_of_le h)

pub total_most : (f : ℕ → ℕ) (m : ℕ) → ((i : ℕ) → f i ≤ m) → (n : ℕ) → total f n ≤ n * m
unfolding total
total_most f m h zero = omega arith
total_most f m h (suc n) = rw (suc-mul n m) (omega (arith, total_most f m h n, h n))

pub flat_none : (f : ℕ → List ℕ) → ((i : ℕ) → f i ≡ []) → (n : ℕ) → flat f n ≡ []
unfolding flat
flat_none f h zero = refl
flat_none f h (suc n) = rw (flat_none f h n, h n)

-- ---- places at which there is nothing
-- 0 at every place
unfoldable pub nil : ℕ → ℕ
nil i = 0

module _ (i : ℕ) where
  pub total_skip : (f : ℕ → ℕ) (r : ℕ) → ((j : ℕ) → j < r → f (i + j) ≡ 0) → total f (i + r) ≡ total f i
  unfolding total
  total_skip f zero h = let z : i + 0 ≡ i = omega arith in rw z
  total_skip f (suc r) h = let z : i + suc r ≡ suc (i + r) = omega arith in rw (z, h r (omega arith), total_skip f r (λ j g. h j (omega arith))) (omega arith)

  pub flat_skip : (f : ℕ → List ℕ) (r : ℕ) → ((j : ℕ) → j < r → f (i + j) ≡ []) → flat f (i + r) ≡ flat f i
  unfolding flat
  flat_skip f zero h = let z : i + 0 ≡ i = omega arith in rw z
  flat_skip f (suc r) h = let z : i + suc r ≡ suc (i + r) = omega arith in rw (z, h r (omega arith), flat_skip f r (λ j g. h j (omega arith))) (append-nil (flat f i))

  pub rows_skip : (f : ℕ → ℕ) (r : ℕ) → ((j : ℕ) → j < r → f (i + j) ≡ 0) → rows f (i + r) ≡ rows f i ++ rows nil r
  unfolding rows nil
  rows_skip f zero h = let z : i + 0 ≡ i = omega arith in rw z (sym (append-nil (rows f i)))
  rows_skip f (suc r) h =
      let z : i + suc r ≡ suc (i + r) = omega arith in
      rw (z, h r (omega arith), rows_skip f r (λ j g. h j (omega arith))) (append_assoc (rows f i) (rows nil r) (0 ∷ []))

-- ---- a list stands among the numbers from a place on
unfoldable pub Stands : List ℕ → ℕ → List ℕ → Type 0
Stands numbers o v = (j : ℕ) → j < length v → get_or numbers (o + j) 0 ≡ get_or v j 0

module _ (numbers : List ℕ) (o : ℕ) where
  pub stands_left : (a b : List ℕ) → Stands numbers o (a ++ b) → Stands numbers o a
  unfolding Stands
  stands_left a b s j h = s j (omega (arith, length-append a b)) ∙ get_or-append a b 0 j h

  pub stands_right : (a b : List ℕ) (n : ℕ) → length a ≡ n → Stands numbers o (a ++ b) → Stands numbers (o + n) b
  unfolding Stands
  stands_right a b n e s j h =
      let z : o + n + j ≡ o + (length a + j) = omega arith in
      rw z (s (length a + j) (omega (arith, length-append a b)) ∙ get_or-append-add a b j 0)

  pub stands_rows : (f : ℕ → ℕ) (n i : ℕ) → i < n → Stands numbers o (rows f n) → get_or numbers (o + i) 0 ≡ f i
  unfolding rows Stands
  stands_rows f zero i h s = absurd (omega arith)
  stands_rows f (suc n) i h s =
      ⊎_elim
      (λ (z : suc i ≡ suc n). let y : i ≡ n = omega arith in
      let l = length_rows f n in
      rw y ((rw l at (s (length (rows f n)) (omega (arith, length-append (rows f n) (f n ∷ []))))) ∙ (rw l at (get_or-append_seam (rows f n) (f n) [] 0))))
      (λ (z : suc i < suc n). stands_rows f n i (le_of_suc-le-suc z) (stands_left (rows f n) (f n ∷ []) s)) (eq-or-lt_of_le h)

  pub stands_flat :
      (f : ℕ → List ℕ) (g : ℕ → ℕ) (m : ℕ) → ((i : ℕ) → length (f i) ≡ m * g i) →
      (n i : ℕ) → i < n → Stands numbers o (flat f n) → Stands numbers (o + m * total g i) (f i)
  unfolding flat
  stands_flat f g m k zero i h s = absurd (omega arith)
  stands_flat f g m k (suc n) i h s =
      ⊎_elim
      (λ (z : suc i ≡ suc n). let y : i ≡ n = omega arith in rw y (stands_right (flat f n) (f n) (m * total g n) (length_flat f g m k n) s))
      (λ (z : suc i < suc n). stands_flat f g m k n i (le_of_suc-le-suc z) (stands_left (flat f n) (f n) s)) (eq-or-lt_of_le h)

-- what is laid over numbers stands there, and leaves those behind it
pub stands_laid : (numbers v : List ℕ) (o : ℕ) → o + length v ≤ length numbers → Stands (laid numbers o v) o v
unfolding laid Stands
stands_laid numbers v o h j l =
    let e = length-take-le o numbers (omega arith) in
    let t = take o numbers in
    let d = drop (o + length v) numbers in
    let a : get_or (t ++ v) (length t + j) 0 ≡ get_or v j 0 = get_or-append-add t v j 0 in
    rw (sets-eq v numbers o h) (get_or-append (t ++ v) d 0 (o + j) (omega (arith, length-append t v)) ∙ (rw e at a))

pub past_stays : (v l : List ℕ) (o i : ℕ) → o + length v ≤ i → get_or (laid l o v) i 0 ≡ get_or l i 0
unfolding laid
past_stays [] l o i h = refl
past_stays (n ∷ v) l o i h = past_stays v (set l o n) (suc o) i (omega arith) ∙ get_or-set_other l o i n 0 (λ (e : i ≡ o). omega arith)
