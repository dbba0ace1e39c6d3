-- What it takes for a row, an entry or a comparison to be accepted.
use Rattle.std.specs.Prelude.{◌≡◌, true, false, List, [], ◌∷◌, ℕ, zero, suc, ◌+◌, ◌≤◌, ◌<◌, ltb}
use Rattle.std.proofs.Math.Path.{refl}
use Rattle.std.proofs.Common.{sym, ◌∙◌, ⊎_elim, eq-or-lt_of_le, arith}
use borrow.Author.Tests.{ltb-true, ltb-false}
use Rattle.rules.specs.Sizes.{page_size}
use Rattle.rules.specs.Choice.{pick, either, pick_yes, pick_no, yes_or_no}
use Rattle.rules.specs.Tests.{Test, sieve, Clear}
use Rattle.tools.specs.Search.{first, first_is}
use Rattle.ranges.specs.declared.Mapping.{Mapping}
use Rattle.descriptors.specs.Numbers.{span, base_of}
use Rattle.descriptors.specs.Meaning.{is_table, reserved}
use Rattle.walks.specs.Walk.{entry_of}
use Rattle.vetting.specs.Answers.{otherwise}
use Rattle.vetting.specs.Pass.{or_else, scan, place, tests, refused_at, told, compared, judged, judged_at}
use Rattle.vetting.specs.Outcome.{Vetted}
use Rattle.vetting.specs.Outcome.{Accepted, Refused}

pub refused_not : {A : Type 0} (s x : ℕ) → Refused s x ≡ Accepted → A
refused_not s x h = let z : ◌≡◌ {A = ℕ} 0 1 = cc in absurd (omega arith)

-- ---- rows
or_left : (u v : Vetted) → or_else u v ≡ Accepted → u ≡ Accepted
unfolding or_else
or_left Accepted v h = refl
or_left (Refused s x) v h = h

or_right : (u v : Vetted) → or_else u v ≡ Accepted → v ≡ Accepted
unfolding or_else
or_right Accepted v h = h
or_right (Refused s x) v h = refused_not s x h

pub scan_at : (f : ℕ → Vetted) (a n i : ℕ) → scan f a n ≡ Accepted → a ≤ i → i < a + n → f i ≡ Accepted
unfolding scan
scan_at f a zero i h l u = absurd (omega arith)
scan_at f a (suc n) i h l u =
    ⊎_elim (λ (z : a ≡ i). rw (← z) (or_left (f a) (scan f (suc a) n) h))
    (λ (z : a < i). scan_at f (suc a) n i (or_right (f a) (scan f (suc a) n) h) (omega arith) (omega arith))
    (eq-or-lt_of_le l)

pub scan_if : (f : ℕ → Vetted) (a n : ℕ) → ((i : ℕ) → a ≤ i → i < a + n → f i ≡ Accepted) → scan f a n ≡ Accepted
unfolding scan or_else
scan_if f a zero h = refl
scan_if f a (suc n) h = rw (h a (omega arith) (omega arith)) (scan_if f (suc a) n (λ i l u. h i (omega arith) (omega arith)))

-- ---- the tests of an entry
sieve_clear : (b : ℕ) (ts : List (Test ℕ)) (j : Vetted) → sieve (refused_at b) ts j ≡ Accepted → Clear ts × (j ≡ Accepted)
unfolding sieve Clear
sieve_clear b [] j h = (tt, h)
sieve_clear b (t ∷ ts) j h =
    either t.0 (λ y. refused_not t.1 b (sym (pick_yes t.0 (Refused t.1 b) (sieve (refused_at b) ts j) y) ∙ h))
    (λ n. let r = sieve_clear b ts j (sym (pick_no t.0 (Refused t.1 b) (sieve (refused_at b) ts j) n) ∙ h) in ((n, r.0), r.1))

clear_sieve : (b : ℕ) (ts : List (Test ℕ)) (j : Vetted) → Clear ts → sieve (refused_at b) ts j ≡ j
unfolding sieve Clear
clear_sieve b [] j h = refl
clear_sieve b (t ∷ ts) j h = pick_no t.0 (Refused t.1 b) (sieve (refused_at b) ts j) h.0 ∙ clear_sieve b ts j h.1

-- none of 8A, 8B and 8C is so
abbrev pub Passes : List ℕ → ℕ → ℕ → ℕ → Type 0
Passes numbers k b e = Clear (tests numbers k b e)

pub passes_plain : (numbers : List ℕ) (k b e : ℕ) → Passes numbers k b e → reserved k e ≡ false
unfolding Clear
passes_plain numbers k b e p = p.1.0

module _ (numbers : List ℕ) (l : List Mapping) where
  -- ---- the addresses of an entry
  pub compared_at : (k b e x : ℕ) → compared l k b e ≡ Accepted → b ≤ x → x < b + span k → otherwise l k e x ≡ false
  unfolding compared told
  compared_at k b e x h lo hi =
      let f = first_is (otherwise l k e) b (span k) in
      let y = first (otherwise l k e) b (span k) in
      either (ltb y (b + span k)) (λ t. refused_not 141 y (sym (pick_yes (ltb y (b + span k)) (Refused 141 y) Accepted t) ∙ h))
      (λ n. let z : b + span k ≤ y = ltb-false y (b + span k) n in f.before x lo (omega arith))

  pub compared_if : (k b e : ℕ) → ((x : ℕ) → b ≤ x → x < b + span k → otherwise l k e x ≡ false) → compared l k b e ≡ Accepted
  unfolding compared told
  compared_if k b e h =
      let f = first_is (otherwise l k e) b (span k) in
      let y = first (otherwise l k e) b (span k) in
      either (ltb y (b + span k)) (λ t. absurd (yes_or_no _ (f.passes (ltb-true _ _ t)) (h y f.low (ltb-true _ _ t))))
      (λ n. pick_no (ltb y (b + span k)) (Refused 141 y) Accepted n)

  -- ---- an entry
  pub judged_last : (b e : ℕ) → judged numbers l 0 b e ≡ sieve (refused_at b) (tests numbers 0 b e) (compared l 0 b e)
  unfolding judged
  judged_last b e = refl

  pub judged_next :
      (k b e : ℕ) → judged numbers l (suc k) b e
      ≡ sieve (refused_at b) (tests numbers (suc k) b e) (pick (is_table (suc k) e) (scan (judged_at numbers l k (base_of page_size e) b) 0 512) (compared l (suc k) b e))
  unfolding judged judged_at
  judged_next k b e = refl

  pub entry_at : (k t a i : ℕ) → judged_at numbers l k t a i ≡ judged numbers l k (place k a i) (entry_of numbers t i)
  unfolding judged_at
  entry_at k t a i = refl

  pub leaf_accepted : (k b e : ℕ) → is_table k e ≡ false → judged numbers l k b e ≡ Accepted → Passes numbers k b e × (compared l k b e ≡ Accepted)
  leaf_accepted zero b e n h = sieve_clear b (tests numbers 0 b e) (compared l 0 b e) (sym (judged_last b e) ∙ h)
  leaf_accepted (suc k) b e n h =
      let r = sieve_clear b (tests numbers (suc k) b e) _ (sym (judged_next k b e) ∙ h) in (r.0, sym (pick_no _ _ _ n) ∙ r.1)

  pub table_accepted :
      (k b e : ℕ) → is_table (suc k) e ≡ true → judged numbers l (suc k) b e ≡ Accepted
      → Passes numbers (suc k) b e × (scan (judged_at numbers l k (base_of page_size e) b) 0 512 ≡ Accepted)
  table_accepted k b e y h =
      let r = sieve_clear b (tests numbers (suc k) b e) _ (sym (judged_next k b e) ∙ h) in (r.0, sym (pick_yes _ _ _ y) ∙ r.1)

  pub accepted_leaf : (k b e : ℕ) → is_table k e ≡ false → Passes numbers k b e → compared l k b e ≡ Accepted → judged numbers l k b e ≡ Accepted
  accepted_leaf zero b e n p h = judged_last b e ∙ clear_sieve b (tests numbers 0 b e) (compared l 0 b e) p ∙ h
  accepted_leaf (suc k) b e n p h = judged_next k b e ∙ clear_sieve b (tests numbers (suc k) b e) _ p ∙ pick_no _ _ _ n ∙ h

  pub accepted_table :
      (k b e : ℕ) → is_table (suc k) e ≡ true → Passes numbers (suc k) b e → scan (judged_at numbers l k (base_of page_size e) b) 0 512 ≡ Accepted
      → judged numbers l (suc k) b e ≡ Accepted
  accepted_table k b e y p h = judged_next k b e ∙ clear_sieve b (tests numbers (suc k) b e) _ p ∙ pick_yes _ _ _ y ∙ h
