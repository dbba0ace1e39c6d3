-- The table of counts after any possible pairs: each count is how often its pair occurred among the first million, and they sum to how many these were.
use Rattle.std.specs.Prelude.{◌≡◌, refl, Bool, ◌&&◌, List, [], ◌∷◌, ℕ, zero, suc, ◌+◌, ◌-◌, ◌≤◌, ◌<◌, min, ltb, leb, length, take}
use Rattle.std.proofs.Math.Path.{sym, ap}
use Rattle.std.proofs.Common.{◌∙◌}
use Rattle.std.proofs.Math.Bool.{false}
use native.Mathlib.Omega.{arith}
use Rattle.std.proofs.Math.Dec.{eqb}
use borrow.Author.Tests.{lt-ltb, le-ltb, le-leb, lt-leb, leb-true, leb-false, eqb-true, eqb-false, eq-eqb}
use Rattle.rules.specs.Choice.{pick, pick_yes, pick_no, either, both_true, left_true, right_true, yes_or_no}
use Rattle.rules.specs.Sizes.{worlds}
use Rattle.tools.specs.Store.{read, write, Whole, write_same, write_other, write_whole, blank_whole, blank_read}
use Rattle.tallies.specs.Rows.{rows, row_of, answer_at, answer_row}
use Rattle.tallies.specs.Tally.{most, places, size, nothing, count_at, total, place_of, listed, one_more, noted, more_one}
use Rattle.counting.specs.Counted.{Counted, noted_all}
use Rattle.report_theorems.specs.Lists.{Each}
use Rattle.report_theorems.specs.Statements.{occurs}
use Rattle.report_theorems.specs.Possible.{Placed}

-- ---- sums of counts
unfoldable pub sum_from : List ℕ → ℕ → ℕ → ℕ
sum_from t i zero = 0
sum_from t i (suc n) = count_at t i + sum_from t (suc i) n

sum_same : (t u : List ℕ) (i n : ℕ) → ((j : ℕ) → i ≤ j → j < i + n → count_at u j ≡ count_at t j) → sum_from u i n ≡ sum_from t i n
unfolding sum_from
sum_same t u i zero f = refl
sum_same t u i (suc n) f = omega (arith, f i (omega arith) (omega arith), sum_same t u (suc i) n (λ j g h. f j (omega arith) (omega arith)))

-- one count is one more
sum_more : (t u : List ℕ) (p : ℕ) → count_at u p ≡ count_at t p + 1 → (i n : ℕ) → i ≤ p → p < i + n
    → ((j : ℕ) → j < i + n → (j ≡ p → ⊥) → count_at u j ≡ count_at t j) → sum_from u i n ≡ sum_from t i n + 1
unfolding sum_from
sum_more t u p e i zero g h f = absurd (omega arith)
sum_more t u p e i (suc n) g h f =
    either (eqb i p)
    (λ y.
    let z : i ≡ p = eqb-true i p y in
    let c : count_at u i ≡ count_at t i + 1 = rw z e in
    omega (arith, c, sum_same t u (suc i) n (λ j a b. f j (omega arith) (λ q. omega arith))))
    (λ y.
    let z : i ≡ p → ⊥ = eqb-false i p y in
    omega (arith, f i (omega arith) z, sum_more t u p e (suc i) n (omega (arith, z)) (omega arith) (λ j a b. f j (omega arith) b)))

-- ---- a table that counts
pub record Sane (t : List ℕ) : Type 0 where
  pub whole : Whole size t
  pub under : (i : ℕ) → i < places → count_at t i ≤ total t
  pub few : total t ≤ most
  pub sums : sum_from t 0 places ≡ total t

zero_at : (i : ℕ) → i < size → read size nothing i ≡ 0
unfolding nothing
zero_at i h = blank_read size 0 i h

zero_sum : (i n : ℕ) → i + n ≤ places → sum_from nothing i n ≡ 0
unfolding sum_from
zero_sum i zero h = refl
zero_sum i (suc n) h = omega (arith, zero_at i (omega arith), zero_sum (suc i) n (omega arith))

pub total_nothing : total nothing ≡ 0
total_nothing = zero_at places (omega arith)

pub over_nothing : read size nothing (places + 1) ≡ 0
over_nothing = zero_at (places + 1) (omega arith)

nothing_whole : Whole size nothing
unfolding nothing
nothing_whole = blank_whole size 0

pub nothing_sane : Sane nothing
nothing_sane =
    record {
      whole = nothing_whole;
      under = λ i h. omega (arith, zero_at i (omega arith));
      few = omega (arith, total_nothing);
      sums = zero_sum 0 places (omega arith) ∙ sym total_nothing;
    }

-- ---- one pair more
module _ (t : List ℕ) (s : Sane t) (c : Counted) (placed : Placed c) where
  p : ℕ
  p = place_of c.0 c.1

  inside : p < places
  unfolding p
  inside = omega (arith, placed.world, placed.row)

  -- while it is counted
  module _ (h : total t < most) where
    u : List ℕ
    u = write size t p (one_more (count_at t p))

    noted_is : noted t c.0 c.1 ≡ write size u places (one_more (total u))
    unfolding noted listed u p
    noted_is = pick_no _ _ _ (lt-leb most (total t) h) ∙ pick_yes _ _ _ (both_true _ _ (lt-ltb c.0 worlds placed.world) (lt-ltb (row_of c.1) rows placed.row))

    u_whole : Whole size u
    unfolding u
    u_whole = write_whole size t p _ s.whole

    u_total : total u ≡ total t
    unfolding u
    u_total = write_other size t p _ places (λ z. omega (arith, inside))

    note_total : total (noted t c.0 c.1) ≡ total t + 1
    note_total = rw noted_is (write_same size u places _ u_whole (omega arith) ∙ sym (more_one (total u) (omega (arith, u_total))) ∙ ap (λ (n : ℕ). n + 1) u_total)

    note_here : count_at (noted t c.0 c.1) p ≡ count_at t p + 1
    unfolding u
    note_here =
        rw noted_is (write_other size u places _ p (λ z. omega (arith, inside)) ∙ write_same size t p _ s.whole (omega (arith, inside))
        ∙ sym (more_one (count_at t p) (omega (arith, s.under p inside))))

    note_other : (j : ℕ) → (j ≡ p → ⊥) → (j ≡ places → ⊥) → count_at (noted t c.0 c.1) j ≡ count_at t j
    unfolding u
    note_other j n k = rw noted_is (write_other size u places _ j k ∙ write_other size t p _ j n)

    note_sane : Sane (noted t c.0 c.1)
    note_sane =
        record {
          whole = rw noted_is (write_whole size u places _ u_whole);
          under = λ i l.
              either (eqb i p) (λ y. rw (eqb-true i p y) (omega (arith, note_here, note_total, s.under p inside)))
              (λ y. omega (arith, note_other i (eqb-false i p y) (λ z. omega arith), note_total, s.under i l));
          few = omega (arith, note_total);
          sums = sum_more t (noted t c.0 c.1) p note_here 0 places (omega arith) (omega (arith, inside)) (λ j l n. note_other j n (λ z. omega arith))
              ∙ ap (λ (n : ℕ). n + 1) s.sums ∙ sym note_total;
        }

  -- and afterwards
  module _ (h : most ≤ total t) where
    over_is : noted t c.0 c.1 ≡ write size t (places + 1) 1
    unfolding noted
    over_is = pick_yes _ _ _ (le-leb most (total t) h)

    over_marked : read size (noted t c.0 c.1) (places + 1) ≡ 1
    over_marked = rw over_is (write_same size t (places + 1) 1 s.whole (omega arith))

    over_same : (j : ℕ) → (j ≡ places + 1 → ⊥) → count_at (noted t c.0 c.1) j ≡ count_at t j
    over_same j n = rw over_is (write_other size t (places + 1) 1 j n)

    over_sane : Sane (noted t c.0 c.1)
    over_sane =
        let e = over_same places (λ z. omega arith) in
        record {
          whole = rw over_is (write_whole size t (places + 1) 1 s.whole);
          under = λ i l. omega (arith, over_same i (λ z. omega arith), e, s.under i l);
          few = omega (arith, e, s.few);
          sums = sum_same t (noted t c.0 c.1) 0 places (λ j a b. over_same j (λ z. omega arith)) ∙ s.sums ∙ sym e;
        }

  -- how often a pair was this one
  module _ (h : total t < most) (world x : ℕ) (w : world < 4) (r : row_of x < rows) where
    note_count : count_at (noted t c.0 c.1) (place_of world x) ≡ count_at t (place_of world x) + pick (eqb c.0 world && eqb c.1 x) 1 0
    unfolding p
    note_count =
        either (eqb c.0 world && eqb c.1 x)
        (λ y.
        let a : c.0 ≡ world = eqb-true _ _ (left_true (eqb c.0 world) _ y) in
        let b : c.1 ≡ x = eqb-true _ _ (right_true (eqb c.0 world) _ y) in
        let z : place_of c.0 c.1 ≡ place_of world x = rw (a, b) in
        let k : count_at (noted t c.0 c.1) (place_of world x) ≡ count_at t (place_of world x) + 1 = rw z at (note_here h) in
        k ∙ rw (pick_yes {A = ℕ} (eqb c.0 world && eqb c.1 x) 1 0 y))
        (λ n.
        let k : place_of world x ≡ place_of c.0 c.1 → ⊥ = λ z. absurd (apart n z) in
        note_other h (place_of world x) k (λ z. omega arith) ∙ rw (pick_no {A = ℕ} (eqb c.0 world && eqb c.1 x) 1 0 n) (omega arith))
      where
        apart : (eqb c.0 world && eqb c.1 x) ≡ false → place_of world x ≡ place_of c.0 c.1 → ⊥
        apart n z =
            let k = placed.row in
            let a : c.0 ≡ world = omega arith in
            let b : row_of c.1 ≡ row_of x = omega arith in
            let d : c.1 ≡ x = sym (answer_row c.1 k) ∙ ap answer_at b ∙ answer_row x r in
            yes_or_no _ (both_true _ _ (eq-eqb c.0 world a) (eq-eqb c.1 x d)) n

-- ---- all of them
pub record Tells (t t' : List ℕ) (cs : List Counted) : Type 0 where
  pub sane : Sane t'
  pub all : total t' ≡ min (total t + length cs) most
  pub marked : read size t' (places + 1) ≡ pick (ltb most (total t + length cs)) 1 (read size t (places + 1))
  pub counts : (world x : ℕ) → world < 4 → row_of x < rows → count_at t' (place_of world x) ≡ count_at t (place_of world x) + occurs world x (take (most - total t) cs)

none_occurs : (world x : ℕ) (n : ℕ) → occurs world x (take n []) ≡ 0
unfolding occurs
none_occurs world x zero = refl
none_occurs world x (suc n) = refl

pub tells : (cs : List Counted) (t : List ℕ) → Sane t → Each Placed cs → Tells t (noted_all t cs) cs
unfolding noted_all Each occurs
tells [] t s e =
    record {
      sane = s;
      all = omega (arith, s.few);
      marked = sym (pick_no _ _ _ (le-ltb most (total t + 0) (omega (arith, s.few))));
      counts = λ world x w r. omega (arith, none_occurs world x (most - total t));
    }
tells (c ∷ cs) t s e =
    either (leb most (total t))
    (λ y.
    let h = leb-true most (total t) y in
    let k = tells cs (noted t c.0 c.1) (over_sane t s c e.0 h) e.1 in
    let z = over_same t s c e.0 h places (λ q. omega arith) in
    let a : most - total t ≡ 0 = omega (arith, s.few) in
    let b : most - total (noted t c.0 c.1) ≡ 0 = omega (arith, z, s.few) in
    record {
      sane = k.sane;
      all = omega (arith, k.all, z);
      marked = k.marked ∙ rw (over_marked t s c e.0 h) (either_one _) ∙ sym (pick_yes _ _ _ (lt-ltb most (total t + suc (length cs)) (omega arith)));
      counts = λ world x w r. k.counts world x w r ∙ rw (a, b) (ap (λ (n : ℕ). n + 0) (over_same t s c e.0 h (place_of world x) (λ q. omega arith)));
    })
    (λ n.
    let h = leb-false most (total t) n in
    let k = tells cs (noted t c.0 c.1) (note_sane t s c e.0 h) e.1 in
    let z = note_total t s c e.0 h in
    let a : most - total t ≡ suc (most - total (noted t c.0 c.1)) = omega (arith, z) in
    let b : total (noted t c.0 c.1) + length cs ≡ total t + suc (length cs) = omega (arith, z) in
    record {
      sane = k.sane;
      all = omega (arith, k.all, z);
      marked = k.marked ∙ rw (b, note_other t s c e.0 h (places + 1) (λ q. omega (arith, inside t s c e.0)) (λ q. omega arith));
      counts = λ world x w r. k.counts world x w r ∙ rw a (omega (arith, note_count t s c e.0 h world x w r));
    })
  where
    either_one : (b : Bool) → ◌≡◌ {A = ℕ} (pick b 1 1) 1
    either_one b = either b (λ y. pick_yes {A = ℕ} b 1 1 y) (λ n. pick_no {A = ℕ} b 1 1 n)
