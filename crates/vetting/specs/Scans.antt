-- How the code meets the pass: the rows by their entries, and an entry by its tests.
use Rattle.std.specs.Prelude.{◌≡◌, Bool, true, false, List, ltb, length, get_or}
use Rattle.std.proofs.Math.Path.{refl, sym, ap}
use Rattle.std.proofs.Common.{◌∙◌, lt-ltb, le-ltb}
use Prim.Native.Nat.{ℕ, zero, suc, ◌+◌, ◌-◌, ◌/◌, ◌≤◌, ◌<◌}
use native.Mathlib.Omega.{arith}
use Rattle.rules.specs.Sizes.{page_size}
use Rattle.rules.specs.Choice.{pick, picked, passed, pick_no, yes_or_no}
use Rattle.rules.specs.Tests.{sieve, stops, goes, ends}
use Rattle.tools.specs.Search.{first}
use Rattle.ranges.specs.declared.Mapping.{Mapping}
use Rattle.descriptors.specs.Numbers.{span, base_of}
use Rattle.descriptors.specs.Meaning.{is_table, reserved, last_level}
use Rattle.vetting.specs.Answers.{otherwise}
use Rattle.vetting.specs.Reached.{again}
use Rattle.vetting.specs.Pass.{table_outside, reserved_entry, table_again, answered_otherwise, scan, place, outside, tests, refused_at, told, compared, judged, judged_at, vetted}
use Rattle.vetting.specs.Outcome.{Vetted, Accepted, Refused}

pub scan_whole : (f : ℕ → Vetted) (n : ℕ) → scan f 0 n ≡ scan f 0 (n - 0)
scan_whole f n = let z : n - 0 ≡ n = omega arith in rw z

-- ---- an entry
module _ (k e size : ℕ) (t : Bool) (f : t ≡ is_table k e) where
  pub outside_not : t ≡ false → false ≡ outside size k e
  unfolding outside
  outside_not h = rw (← f, h)

  pub outside_by : (s r : ℕ) → t ≡ true → s ≡ size → r ≡ base_of page_size e → ltb s (r / 8 + 512) ≡ outside size k e
  unfolding outside
  outside_by s r h g i = rw (← f, h, g, i)

pub ruleset outsides = (outside_not, outside_by)

module _ (l : List Mapping) (k b e s x : ℕ) (f : x ≡ first (otherwise l k e) b (span k)) (h : s ≡ span k) where
  pub compared_no : x < b + s → Refused answered_otherwise x ≡ compared l k b e
  unfolding compared told
  compared_no i = rw (← f) (picked _ _ _ _ (lt-ltb x (b + span k) (rw h at i)) refl)

  pub compared_yes : b + s ≤ x → Accepted ≡ compared l k b e
  unfolding compared told
  compared_yes i = rw (← f) (passed _ _ _ _ (le-ltb x (b + span k) (rw h at i)) refl)

pub ruleset comparing = (compared_no, compared_yes)

module _ (numbers : List ℕ) (l : List Mapping) (b e : ℕ) where
  -- what comes after the tests
  rest : ℕ → Vetted
  rest k = pick (is_table k e) (scan (judged_at numbers l (k - 1) (base_of page_size e) b) 0 512) (compared l k b e)

  -- at every level alike
  judged_is : (k : ℕ) → judged numbers l k b e ≡ sieve (refused_at b) (tests numbers k b e) (rest k)
  unfolding judged rest judged_at
  judged_is zero = rw (pick_no (is_table 0 e) _ (compared l 0 b e) (last_level e))
  judged_is (suc k) = let z : suc k - 1 ≡ k = omega arith in rw z

  module _ (k : ℕ) (o : Bool) (f : o ≡ outside (length numbers) k e) where
    pub judged_outside : o ≡ true → Refused table_outside b ≡ judged numbers l k b e
    judged_outside h = rw (judged_is k) (stops _ _ _ _ _ _ (sym f ∙ h) refl)

    module _ (n : o ≡ false) (v : Bool) (g : v ≡ reserved k e) where
      pub judged_reserved : v ≡ true → Refused reserved_entry b ≡ judged numbers l k b e
      judged_reserved h = rw (judged_is k) (goes _ _ _ _ _ _ (sym f ∙ n) (stops _ _ _ _ _ _ (sym g ∙ h) refl))

      module _ (q : v ≡ false) (w : Bool) (i : w ≡ again numbers k b e) where
        pub judged_again : w ≡ true → Refused table_again b ≡ judged numbers l k b e
        judged_again h = rw (judged_is k) (goes _ _ _ _ _ _ (sym f ∙ n) (goes _ _ _ _ _ _ (sym g ∙ q) (stops _ _ _ _ _ _ (sym i ∙ h) refl)))

        module _ (u : w ≡ false) (t : Bool) (j : t ≡ is_table k e) (r : Vetted) where
          through : r ≡ rest k → r ≡ judged numbers l k b e
          through h = rw (judged_is k) (goes _ _ _ _ _ _ (sym f ∙ n) (goes _ _ _ _ _ _ (sym g ∙ q) (goes _ _ _ _ _ _ (sym i ∙ u) (ends _ _ _ h))))

          pub judged_table : (at m : ℕ) → t ≡ true → at ≡ base_of page_size e → m ≡ k - 1 → r ≡ scan (judged_at numbers l m at b) 0 512 → r ≡ judged numbers l k b e
          unfolding rest
          judged_table at m h p d s = through (picked _ _ _ _ (sym j ∙ h) (s ∙ rw (p, d)))

          pub judged_leaf : t ≡ false → r ≡ compared l k b e → r ≡ judged numbers l k b e
          unfolding rest
          judged_leaf h s = through (passed _ _ _ _ (sym j ∙ h) s)

-- what is no table and not reserved is compared
pub judged_plain : (numbers : List ℕ) (l : List Mapping) (b e k : ℕ) → is_table k e ≡ false → reserved k e ≡ false → Accepted ≡ compared l k b e → Accepted ≡ judged numbers l k b e
unfolding outside again
judged_plain numbers l b e k t r c =
    judged_leaf numbers l b e k false (rw t) refl false (sym r) refl false (rw t) refl false (sym t) Accepted refl c

pub ruleset judging = (judged_outside, judged_reserved, judged_again, judged_table, judged_leaf)

-- a table has a level below it
module _ (k e : ℕ) (t : Bool) (j : t ≡ is_table k e) (h : t ≡ true) where
  pub table_some : k ≡ 0 → ⊥
  table_some z = yes_or_no t h (j ∙ ap (λ (m : ℕ). is_table m e) z ∙ last_level e)

  pub table_pos : 0 < k
  table_pos = let d = table_some in omega arith

module _ (numbers : List ℕ) (l : List Mapping) where
  pub entry_at : (k table a i b e : ℕ) (v : Vetted) → b ≡ place k a i → e ≡ get_or numbers (table / 8 + i) 0 → v ≡ judged numbers l k b e → v ≡ judged_at numbers l k table a i
  unfolding judged_at
  entry_at k table a i b e v h f g = g ∙ rw (h, f)

  module _ (s : ℕ) (f : s ≡ length numbers) where
    pub vetted_short : s < 512 → Refused table_outside 0 ≡ vetted numbers l
    unfolding vetted
    vetted_short h = picked _ _ _ _ (lt-ltb (length numbers) 512 (rw f at h)) refl

    pub vetted_by : (r : Vetted) → 512 ≤ s → r ≡ scan (judged_at numbers l 2 0 0) 0 4 → r ≡ vetted numbers l
    unfolding vetted
    vetted_by r h g = passed _ _ _ _ (le-ltb (length numbers) 512 (rw f at h)) g

pub ruleset vetting = (vetted_short, vetted_by)
