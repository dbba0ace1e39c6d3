-- Where the bytes end that are taken after a read, and the newline that a last line may lack.
use Rattle.std.specs.Prelude.{◌≡◌, refl, List, ℕ, ◌+◌, ◌≤◌, ◌<◌, eqb, leb, length, set}
use Rattle.std.proofs.Common.{sym, subst, arith, length-set, le-leb, leb-false, eq-eqb, ne_eqb}
use Rattle.std.proofs.lemmas.Bool.{lt-leb}
use Rattle.rules.specs.Choice.{pick, picked, passed, chosen}

-- Once there are n bytes: where nothing was read behind the `kept` that waited, though there was room, the input has ended, and a last line gets its newline.
unfoldable pub closing : List ℕ → ℕ → ℕ → ℕ × List ℕ
closing buf kept n =
    pick (leb (length buf) n) (length buf, buf)
    (pick (eqb n kept) (pick (eqb n 0) (0, buf) (n + 1, set buf n 10))
    (n, buf))

-- they lie inside
pub close_inside : (buf : List ℕ) (kept n end : ℕ) (b : List ℕ) → (end, b) ≡ closing buf kept n → end ≤ length b
unfolding closing
close_inside buf kept n end b e =
    subst (λ (q : ℕ × List ℕ). q.0 ≤ length q.1) (sym e)
    (chosen (λ (q : ℕ × List ℕ). q.0 ≤ length q.1) (leb (length buf) n) _ _ (λ y. omega arith)
    (λ y.
    let h : n < length buf = leb-false _ _ y in
    chosen (λ (q : ℕ × List ℕ). q.0 ≤ length q.1) (eqb n kept) _ _
    (λ g. chosen (λ (q : ℕ × List ℕ). q.0 ≤ length q.1) (eqb n 0) _ _ (λ z. omega arith) (λ z. omega (arith, length-set buf n 10)))
    (λ g. omega arith)))

-- ---- each outcome
module _ (buf : List ℕ) (kept n : ℕ) where
  pub closes_full : (k : ℕ) → k ≡ length buf → k ≤ n → (k, buf) ≡ closing buf kept n
  unfolding closing
  closes_full k e h = picked _ _ _ _ (le-leb (length buf) n (omega arith)) (rw e)

  module _ (h : n < length buf) where
    pub closes_more : (n ≡ kept → ⊥) → (n, buf) ≡ closing buf kept n
    unfolding closing
    closes_more d = passed _ _ _ _ (lt-leb (length buf) n h) (passed _ _ _ _ (ne_eqb n kept d) refl)

    pub closes_none : n ≡ kept → n ≡ 0 → (0, buf) ≡ closing buf kept n
    unfolding closing
    closes_none e z = passed _ _ _ _ (lt-leb (length buf) n h) (picked _ _ _ _ (eq-eqb n kept e) (picked _ _ _ _ (eq-eqb n 0 z) refl))

    pub closes_line : n ≡ kept → (n ≡ 0 → ⊥) → (n + 1, set buf n 10) ≡ closing buf kept n
    unfolding closing
    closes_line e d = passed _ _ _ _ (lt-leb (length buf) n h) (picked _ _ _ _ (eq-eqb n kept e) (passed _ _ _ _ (ne_eqb n 0 d) refl))

pub ruleset closings = (closes_full, closes_more, closes_none, closes_line)
