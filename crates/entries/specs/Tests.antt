-- How the tests of the code meet the definitions of an entry.
use Rattle.std.specs.Prelude.{◌≡◌, ℕ, zero, suc, ◌+◌, ◌-◌, ◌*◌, ◌/◌, ◌%◌, ◌^◌, ◌<◌, ◌≤◌, Bool, true, false, ◌&&◌, List, ◌≢◌, None, Option, Some}
use Rattle.std.proofs.Math.Path.{refl, ap}
use Rattle.std.proofs.Common.{sym, ◌∙◌}
use native.Mathlib.Omega.{arith}
use Rattle.std.specs.Int.Count.{count_trailing_zeros}
use borrow.Author.Tests.{le-leb, lt-leb}
use Rattle.mapping.specs.Leads.{To}
use Rattle.mapping.specs.declared.Lead.{Lead}
use Rattle.rules.specs.Choice.{picked, passed}
use Rattle.rules.specs.Sizes.{page_size}
use Rattle.tools.specs.Search.{all}
use Rattle.ranges.specs.declared.Mapping.{Mapping}
use Rattle.mapping.specs.Mapping.{deciding, lead_of, touched, decided_by}
use Rattle.mapping.proofs.Deciding.{deciding_low}
use Rattle.stretches.specs.Steady.{steady, steady_most, steady_some, steady_decides}
use Rattle.descriptors.specs.Numbers.{span, leaf_number, table_number}
use Rattle.entries.specs.Entries.{same, is_by, decides, throughout, allowed, physical, block_by, block, leaf, whole, deeper, entry}

-- ---- the mapping that decides
module _ (d : Option Mapping) (o : Option Mapping) (said : d ≡ decided_by o) where
  decided_none : d ≡ None → o ≡ None
  unfolding decided_by
  decided_none e = go o (sym said ∙ e)
    where
      go : (o : Option Mapping) → decided_by o ≡ None → o ≡ None
      go None h = refl
      go (Some m) h = let z : Some m ≡ None = h in let y : ◌≡◌ {A = ℕ} 0 1 = cc in absurd (omega arith)

  decided_some : (m : Mapping) → d ≡ Some m → o ≡ Some m
  unfolding decided_by
  decided_some m e = go o (sym said ∙ e)
    where
      go : (o : Option Mapping) → decided_by o ≡ Some m → o ≡ Some m
      go None h = let z : None ≡ Some m = h in let y : ◌≡◌ {A = ℕ} 0 1 = cc in absurd (omega arith)
      go (Some n) h = let z : Some n ≡ Some m = h in let y : n ≡ m = cc in ap Some y

  pub by_nobody : (m : Mapping) → d ≡ None → false ≡ is_by m o
  unfolding is_by
  by_nobody m e = rw (decided_none e)

  pub by_one : (m n : Mapping) (r : Bool) → d ≡ Some n → r ≡ same m n → r ≡ is_by m o
  unfolding is_by
  by_one m n r e f = rw (decided_some n e) f

-- ---- the pages of a slot, as many at once as are decided alike
-- of so many pages from an address on, the first r are decided as the first is, and no sum wraps
pub record Alike (l : List Mapping) (start most r : ℕ) : Type 0 where
  pub some : 0 < r
  pub few : r ≤ most
  pub inside : (j : ℕ) → 0 < j → j < r → start + j * 4096 < 18446744073709551616
  pub same : (j : ℕ) → 0 < j → j < r → deciding l (start + j * 4096) ≡ deciding l start

module _ (l : List Mapping) (start most : ℕ) (h : 0 < most) where
  pub alike_one : Alike l start most 1
  alike_one = record { some = omega arith; few = omega arith; inside = λ j a b. absurd (omega arith); same = λ j a b. absurd (omega arith) }

  module _ (wanted n : ℕ) (e : wanted ≡ most * 4096) (f : n ≡ steady l start wanted) where
    pub alike_some : 0 < n
    alike_some = let z = steady_some l start wanted (omega arith) in omega arith

    pub alike_many : start + wanted ≤ 18446744073709551615 → Alike l start most ((n - 1) / 4096 + 1)
    alike_many u =
        let z = steady_most l start wanted in
        let y = alike_some in
        record {
          some = omega arith;
          few = omega arith;
          inside = λ j a b. omega arith;
          same = λ j a b. steady_decides l start wanted (start + j * 4096) (omega arith) (omega arith);
        }

-- pages that pass are passed over
all_skip : (p : ℕ → Bool) (a n r : ℕ) → r ≤ n → ((j : ℕ) → j < r → p (a + j) ≡ true) → all p a n ≡ all p (a + r) (n - r)
unfolding all
all_skip p a n zero h f = let y : a + 0 ≡ a = omega arith in let z : n - 0 ≡ n = omega arith in rw (y, z)
all_skip p a zero (suc r) h f = absurd (omega arith)
all_skip p a (suc n) (suc r) h f =
    let x : a + 0 ≡ a = omega arith in
    let y : a + suc r ≡ suc a + r = omega arith in
    let z : suc n - suc r ≡ n - r = omega arith in
    let e : p a ≡ true = rw x at (f 0 (omega arith)) in
    rw (y, z, e) (all_skip p (suc a) n r (omega arith) (λ j g. let w : suc a + j ≡ a + suc j = omega arith in rw w (f (suc j) (omega arith))))

wrapped : (b i j start : ℕ) → start ≡ (b + i * 4096) % 18446744073709551616 → start + j * 4096 < 18446744073709551616 → (b + (i + j) * 4096) % 18446744073709551616 ≡ start + j * 4096
wrapped b i j start e h = omega arith

module _ (l : List Mapping) (m : Mapping) (b i start : ℕ) (e : start ≡ (b + i * page_size) % 2 ^ 64) (v : Bool) (f : v ≡ is_by m (deciding l start)) where
  pub page_not : v ≡ false → decides l m b i ≡ false
  unfolding decides
  page_not g = rw (← e) (sym f ∙ g)

  pub pages_pass : (whole : Bool) (most r : ℕ) → whole ≡ all (decides l m b) i most → v ≡ true → Alike l start most r → whole ≡ all (decides l m b) (i + r) (most - r)
  unfolding decides
  pages_pass whole most r inv g a = inv ∙ all_skip (decides l m b) i most r a.few each
    where
      each : (j : ℕ) → j < r → decides l m b (i + j) ≡ true
      each zero h = let z : i + 0 ≡ i = omega arith in rw (z, ← e) (sym f ∙ g)
      each (suc j) h =
          let z = wrapped b i (suc j) start e (a.inside (suc j) (omega arith) h) in
          rw (z, a.same (suc j) (omega arith) h) (sym f ∙ g)

module _ (l : List Mapping) (b : ℕ) (d : Option Mapping) (said : d ≡ decided_by (deciding l b)) where
  pub block_nobody : d ≡ None → false ≡ block l b
  unfolding block block_by
  block_nobody e = rw (decided_none d (deciding l b) said e)

  pub block_one : (m : Mapping) (r : Bool) → d ≡ Some m → r ≡ (allowed (physical m b) && throughout l m b) → r ≡ block l b
  unfolding block block_by
  block_one m r e f = rw (decided_some d (deciding l b) said m e) f

  pub decider_low : (m : Mapping) → d ≡ Some m → m.virt ≤ b
  decider_low m e = deciding_low l b m (decided_some d (deciding l b) said m e)

module _ (l : List Mapping) (m : Mapping) (b p : ℕ) (e : p ≡ physical m b) where
  pub zeros_few : count_trailing_zeros 64 p < 21 → false ≡ (allowed (physical m b) && throughout l m b)
  unfolding allowed
  zeros_few h = rw (← e, lt-leb 21 (count_trailing_zeros 64 p) h)

  pub zeros_enough : (r : Bool) → 21 ≤ count_trailing_zeros 64 p → r ≡ throughout l m b → r ≡ (allowed (physical m b) && throughout l m b)
  unfolding allowed
  zeros_enough r h f = rw (← e, le-leb 21 (count_trailing_zeros 64 p) h) f

pub ruleset blocks = (by_nobody, by_one, block_nobody, block_one, decider_low, zeros_few, zeros_enough)

-- ---- an entry
module _ (l : List Mapping) (k b : ℕ) where
  pub whole_page : k ≡ 0 → true ≡ whole l k b
  unfolding whole
  whole_page e = rw e

  pub whole_slot : (r : Bool) → k ≡ 1 → r ≡ block l b → r ≡ whole l k b
  unfolding whole
  whole_slot r e f = rw e f

  pub whole_not : (k ≢ 0) → (k ≢ 1) → false ≡ whole l k b
  unfolding whole
  whole_not d e = let z : k ≡ suc (suc (k - 2)) = omega arith in rw z

  module _ (v : Bool) (h : v ≡ whole l k b) where
    pub deeper_whole : v ≡ true → false ≡ deeper l k b
    unfolding deeper
    deeper_whole i = rw (← h, i)

    pub entry_leaf : (t n : ℕ) (d : Option Lead) → v ≡ true → d ≡ lead_of l b → n ≡ leaf k d → n ≡ entry l k b t
    unfolding entry
    entry_leaf t n d i j q = picked _ _ _ _ (sym h ∙ i) (rw (← j) q)

    module _ (s : ℕ) (r : Bool) (n : v ≡ false) (e : s ≡ span k) (f : r ≡ touched l b s) where
      pub deeper_by : r ≡ deeper l k b
      unfolding deeper
      deeper_by = rw (← h, n, ← e) f

      pub entry_table : (t u : ℕ) → r ≡ true → u ≡ table_number t → u ≡ entry l k b t
      unfolding entry
      entry_table t u g q = passed _ _ _ _ (sym h ∙ n) (picked _ _ _ _ (rw (← e) (sym f) ∙ g) q)

      pub entry_none : (t : ℕ) → r ≡ false → 0 ≡ entry l k b t
      unfolding entry
      entry_none t g = passed _ _ _ _ (sym h ∙ n) (passed _ _ _ _ (rw (← e) (sym f) ∙ g) refl)

module _ (k : ℕ) (d : Option Lead) where
  pub leaf_none : d ≡ None → 0 ≡ leaf k d
  unfolding leaf
  leaf_none e = rw e

  pub leaf_some : (p a r : ℕ) → d ≡ To p a → r ≡ leaf_number k p a → r ≡ leaf k d
  unfolding leaf
  leaf_some p a r e f = rw e f

pub ruleset entries = (whole_page, whole_slot, whole_not, deeper_whole, deeper_by, entry_leaf, entry_table, entry_none, leaf_none, leaf_some)
