-- A refusal is that of the first offence in the pass: the entries before it pass, and the addresses before it are answered as by the list.
use Rattle.std.specs.Prelude.{◌≡◌, Bool, true, false, List, ◌⊎◌, ℕ, zero, suc, ◌+◌, ◌*◌, ◌/◌, ◌%◌, ◌≤◌, ◌<◌, ltb, length}
use Rattle.std.proofs.Math.Path.{refl, sym}
use Rattle.std.proofs.Common.{◌∙◌, eq-or-lt_of_le, mul-le-mul_right, suc-mul}
use Rattle.std.proofs.Math.Logic.{inl, inr, ⊎_elim}
use native.Mathlib.Omega.{arith}
use borrow.Author.Tests.{ltb-true, ltb-false}
use Rattle.rules.specs.Sizes.{page_size, virtual_limit}
use Rattle.rules.specs.Choice.{pick, either, pick_yes, pick_no, yes_or_no}
use Rattle.rules.specs.Tests.{sieve, Clear}
use Rattle.tools.specs.Search.{first, first_is}
use Rattle.ranges.specs.declared.Mapping.{Mapping}
use Rattle.mapping.specs.Mapping.{lead_of}
use Rattle.descriptors.specs.Numbers.{span, base_of, span_some}
use Rattle.descriptors.specs.Meaning.{is_table, reserved, last_level}
use Rattle.walks.specs.Walk.{entry_of, descended, walked, walked_low}
use Rattle.vetting.specs.Answers.{otherwise}
use Rattle.vetting.specs.Reached.{again}
use Rattle.vetting.specs.Pass.{table_outside, reserved_entry, table_again, answered_otherwise, or_else, scan, place, outside, tests, refused_at, told, compared, judged, judged_at, vetted}
use Rattle.vetting.specs.Rooms.{region_is, part_aligned, entry_ends}
use Rattle.vetting.specs.Outcome.{Vetted}
use Rattle.vetting.specs.Outcome.{Accepted, Refused}
use Rattle.vet_theorems.specs.Passing.{refused_not, Passes, passes_plain, judged_last, judged_next, entry_at}
use Rattle.vet_theorems.specs.Tree.{Itself, From, Reached, Before, itself, from_table, from_lies, none_before}
use Rattle.vet_theorems.specs.Exactly.{inside, finds, Answers, leaf_answers, answers_leaf, table_answers, answers_table, descended_by, accepted_answers, accepted_passes}

-- ---- the refusal of a row is that of one of its entries, and those before it are accepted
record Stopped (f : ℕ → Vetted) (a n s x : ℕ) : Type 0 where
  at : ℕ
  low : a ≤ at
  high : at < a + n
  here : f at ≡ Refused s x
  before : (i : ℕ) → a ≤ i → i < at → f i ≡ Accepted

or_cases : (u v : Vetted) (s x : ℕ) → or_else u v ≡ Refused s x → (u ≡ Refused s x) ⊎ ((u ≡ Accepted) × (v ≡ Refused s x))
unfolding or_else
or_cases Accepted v s x h = inr (refl, h)
or_cases (Refused t y) v s x h = inl h

scan_stopped : (f : ℕ → Vetted) (a n s x : ℕ) → scan f a n ≡ Refused s x → Stopped f a n s x
unfolding scan
scan_stopped f a zero s x h = refused_not s x (sym h)
scan_stopped f a (suc n) s x h =
    ⊎_elim
    (λ (y : f a ≡ Refused s x). record { at = a; low = omega arith; high = omega arith; here = y; before = λ i lo hi. absurd (omega arith) })
    (λ (y : (f a ≡ Accepted) × (scan f (suc a) n ≡ Refused s x)).
    let r = scan_stopped f (suc a) n s x y.1 in
    record {
      at = r.at;
      low = omega (arith, r.low);
      high = omega (arith, r.high);
      here = r.here;
      before = λ i lo hi. ⊎_elim (λ (z : a ≡ i). rw (← z) y.0) (λ (z : a < i). r.before i z hi) (eq-or-lt_of_le lo);
    })
    (or_cases (f a) (scan f (suc a) n) s x h)

same_refusal : (s x t y : ℕ) → Refused s x ≡ Refused t y → (s ≡ t) × (x ≡ y)
same_refusal s x t y h = (cc, cc)

module _ (numbers : List ℕ) (l : List Mapping) where
  -- the first of 8A, 8B and 8C that the entry bears
  abbrev pub Bears8A : ℕ → ℕ → ℕ → Type 0
  Bears8A k e s = (s ≡ table_outside) × (outside (length numbers) k e ≡ true)

  abbrev pub Bears8B : ℕ → ℕ → ℕ → Type 0
  Bears8B k e s = (s ≡ reserved_entry) × (outside (length numbers) k e ≡ false) × (reserved k e ≡ true)

  abbrev pub Bears8C : ℕ → ℕ → ℕ → ℕ → Type 0
  Bears8C k b e s = (s ≡ table_again) × (outside (length numbers) k e ≡ false) × (reserved k e ≡ false) × (again numbers k b e ≡ true)

  abbrev pub Own : ℕ → ℕ → ℕ → ℕ → Type 0
  Own k b e s = Bears8A k e s ⊎ Bears8B k e s ⊎ Bears8C k b e s

  pub own_by : {P : Type 0} (k b e s : ℕ) → (Bears8A k e s → P) → (Bears8B k e s → P) → (Bears8C k b e s → P) → Own k b e s → P
  own_by k b e s p q r o = ⊎_elim p (λ (y : Bears8B k e s ⊎ Bears8C k b e s). ⊎_elim q r y) o

  -- it passes, is no table, and answers one of its addresses otherwise
  pub record Differs (k b e s x : ℕ) : Type 0 where
    pub status : s ≡ answered_otherwise
    pub low : b ≤ x
    pub high : x < b + span k
    pub passes : Passes numbers k b e
    pub leaf : is_table k e ≡ false
    pub differs : Answers numbers l k e x → ⊥

  abbrev pub Bears : ℕ → ℕ → ℕ → ℕ → ℕ → Type 0
  Bears k b e s x = (Own k b e s × (x ≡ b)) ⊎ Differs k b e s x

  own_other : (k b e s : ℕ) → Own k b e s → s ≡ answered_otherwise → ⊥
  own_other k b e s o z = own_by k b e s (λ y. omega (arith, y.0)) (λ y. omega (arith, y.0)) (λ y. omega (arith, y.0)) o

  -- ---- a refused entry bears one of its own, or passes and what comes after refuses
  own_or_after : (k b e : ℕ) (j : Vetted) (s x : ℕ) → sieve (refused_at b) (tests numbers k b e) j ≡ Refused s x
      → (Own k b e s × (x ≡ b)) ⊎ (Passes numbers k b e × (j ≡ Refused s x))
  unfolding sieve Clear
  own_or_after k b e j s x h =
      go (outside (length numbers) k e) table_outside _ (λ y q. inl (q, y))
      (λ n. go (reserved k e) reserved_entry _ (λ y q. inr (inl (q, n, y)))
      (λ m. go (again numbers k b e) table_again j (λ y q. inr (inr (q, n, m, y))) (λ w g. inr ((n, (m, (w, tt))), g)))) h
    where
      Goal : Type 0
      Goal = (Own k b e s × (x ≡ b)) ⊎ (Passes numbers k b e × (j ≡ Refused s x))

      go : (c : Bool) (t : ℕ) (rest : Vetted) → (c ≡ true → s ≡ t → Own k b e s) → (c ≡ false → rest ≡ Refused s x → Goal) → pick c (Refused t b) rest ≡ Refused s x → Goal
      go c t rest d f h =
          either c
          (λ y. let q = same_refusal t b s x (sym (pick_yes c (Refused t b) rest y) ∙ h) in
          inl (d y (sym q.0), sym q.1))
          (λ n. f n (sym (pick_no c (Refused t b) rest n) ∙ h))

  -- ---- the first offence at an entry or below it
  pub record FirstIn (k b e s x : ℕ) : Type 0 where
    pub level : ℕ
    pub start : ℕ
    pub number : ℕ
    pub from : From numbers k b e level start number
    pub bears : Bears level start number s x
    pub low : start ≤ x
    pub high : x < start + span level
    pub before : (j c f : ℕ) → From numbers k b e j c f → Before j c level start → Passes numbers j c f
    pub alike : (y : ℕ) → b ≤ y → y < x → Answers numbers l k e y
    pub differs : s ≡ answered_otherwise → Answers numbers l k e x → ⊥

  own_first : (k b e s x : ℕ) → k ≤ 2 → b % span k ≡ 0 → Own k b e s × (x ≡ b) → FirstIn k b e s x
  own_first k b e s x m a o =
      record {
        level = k;
        start = b;
        number = e;
        from = itself numbers k b e;
        bears = inl o;
        low = omega (arith, o.1);
        high = omega (arith, o.1, span_some k);
        before = λ j c f s h. absurd (none_before numbers k b e j c f m a s h);
        alike = λ y lo hi. absurd (omega (arith, o.1));
        differs = λ z w. own_other k b e s o.0 z;
      }

  leaf_first : (k b e s x : ℕ) → k ≤ 2 → b % span k ≡ 0 → is_table k e ≡ false → Passes numbers k b e → compared l k b e ≡ Refused s x → FirstIn k b e s x
  unfolding compared told
  leaf_first k b e s x m a n p h =
      let o = otherwise l k e in
      let f = first_is o b (span k) in
      let z = first o b (span k) in
      either (ltb z (b + span k))
      (λ y.
      let q = same_refusal 141 z s x (sym (pick_yes (ltb z (b + span k)) (Refused 141 z) Accepted y) ∙ h) in
      let u = ltb-true z (b + span k) y in
      let d : Answers numbers l k e z → ⊥ = λ w. yes_or_no (o z) (f.passes u) (answers_leaf numbers l k e z n w) in
      rw (← q.1) (record {
        level = k;
        start = b;
        number = e;
        from = itself numbers k b e;
        bears = inr (record { status = sym q.0; low = f.low; high = u; passes = p; leaf = n; differs = d });
        low = f.low;
        high = u;
        before = λ j c g s h. absurd (none_before numbers k b e j c g m a s h);
        alike = λ y lo hi. leaf_answers numbers l k e y n (f.before y lo hi);
        differs = λ _ w. d w;
      }))
      (λ o. refused_not s x (sym (sym (pick_no (ltb z (b + span k)) (Refused 141 z) Accepted o) ∙ h)))

  -- ---- and in a row
  pub record FirstOf (k t a n s x : ℕ) : Type 0 where
    pub index : ℕ
    pub small : index < n
    pub first : FirstIn k (place k a index) (entry_of numbers t index) s x
    pub accepted : (i : ℕ) → i < index → judged numbers l k (place k a i) (entry_of numbers t i) ≡ Accepted
    pub low : a ≤ x
    pub high : x < a + n * span k
    pub alike : (y : ℕ) → a ≤ y → y < x → descended numbers (suc k) t y ≡ lead_of l y
    pub differs : s ≡ answered_otherwise → descended numbers (suc k) t x ≡ lead_of l x → ⊥

  module _ (k : ℕ) (m : k ≤ 2) (below : (b e s x : ℕ) → b % span k ≡ 0 → judged numbers l k b e ≡ Refused s x → FirstIn k b e s x)
      (t a n s x : ℕ) (some : n ≤ 512) (al : a % (512 * span k) ≡ 0) where
    row_first : scan (judged_at numbers l k t a) 0 n ≡ Refused s x → FirstOf k t a n s x
    row_first h =
        let r = scan_stopped (judged_at numbers l k t a) 0 n s x h in
        let i = r.at in
        let b = place k a i in
        let ok : (j : ℕ) → j < i → judged numbers l k (place k a j) (entry_of numbers t j) ≡ Accepted = λ j u. sym (entry_at numbers l k t a j) ∙ r.before j (omega arith) u in
        let f = below b (entry_of numbers t i) s x (part_aligned k a i m al) (sym (entry_at numbers l k t a i) ∙ r.here) in
        let lie = from_lies numbers k m b (entry_of numbers t i) f.level f.start f.number (part_aligned k a i m al) f.from in
        let small : i < n = omega (arith, r.high) in
        let e = entry_ends (span k) i n small in
        let w = mul-le-mul_right (span k) some in
        let lo : b ≤ x = omega (arith, lie.low, f.low) in
        let hi : x < b + span k = omega (arith, lie.high, f.high) in
        let top : x < a + 512 * span k = omega arith in
        record {
          index = i;
          small = small;
          first = f;
          accepted = ok;
          low = omega arith;
          high = omega arith;
          alike = λ y ge u.
              let z = inside k a y m al ge (omega arith) in
              let j = y / span k % 512 in
              descended_by numbers l k t y
              ∙ either (ltb j i)
              (λ yes. accepted_answers numbers l k (place k a j) (entry_of numbers t j) y m z.aligned (ok j (ltb-true j i yes)) z.low z.high)
              (λ no.
              let q : j ≡ i = same y i j (ltb-false j i no) z.low u hi in
              rw q (f.alike y (rw q at z.low) u));
          differs = λ d c.
              let q = finds k a i x m (omega arith) al lo hi in
              f.differs d (rw q.index at (sym (descended_by numbers l k t x) ∙ c));
        }
      where
        same : (y i j : ℕ) → i ≤ j → place k a j ≤ y → y < x → x < place k a i + span k → j ≡ i
        same y i j v lo u hi =
            ⊎_elim (λ (z : i ≡ j). sym z)
            (λ (z : i < j). let o = mul-le-mul_right (span k) z in absurd (omega (arith, suc-mul i (span k)))) (eq-or-lt_of_le v)

    -- the entries of a row before the offence pass
    row_before :
        (r : FirstOf k t a n s x) (i j c f : ℕ) → From numbers k (place k a i) (entry_of numbers t i) j c f → Before j c r.first.level r.first.start → Passes numbers j c f
    row_before r i j c f g h =
        let o = r.first in
        let p = r.index in
        either (ltb i p) (λ y. accepted_passes numbers l k (place k a i) (entry_of numbers t i) j c f (r.accepted i (ltb-true i p y)) g)
        (λ no. ⊎_elim (λ (z : p ≡ i). o.before j c f (rw (← z) at g) h) (λ (z : p < i). absurd (later z)) (eq-or-lt_of_le (ltb-false i p no)))
      where
        later : r.index < i → ⊥
        later z =
            let o = r.first in
            let u = from_lies numbers k m (place k a i) (entry_of numbers t i) j c f (part_aligned k a i m al) g in
            let v = from_lies numbers k m (place k a r.index) (entry_of numbers t r.index) o.level o.start o.number (part_aligned k a r.index m al) o.from in
            let q = mul-le-mul_right (span k) z in
            let w = suc-mul r.index (span k) in
            let far : o.start < c = omega (arith, u.low, v.high, span_some o.level) in
            ⊎_elim (λ (y : c < o.start). omega arith) (λ (y : (c ≡ o.start) × (o.level < j)). omega (arith, y.0)) h

  -- ---- every entry
  table_first : (k b e s x : ℕ) → suc k ≤ 2 → b % span (suc k) ≡ 0 → is_table (suc k) e ≡ true → Passes numbers (suc k) b e
      → ((b e s x : ℕ) → b % span k ≡ 0 → judged numbers l k b e ≡ Refused s x → FirstIn k b e s x)
      → scan (judged_at numbers l k (base_of page_size e) b) 0 512 ≡ Refused s x → FirstIn (suc k) b e s x
  unfolding From
  table_first k b e s x m a y p below h =
      let g = region_is k m in
      let t = base_of page_size e in
      let al : b % (512 * span k) ≡ 0 = rw g a in
      let r = row_first k (omega arith) below t b 512 s x (omega arith) al h in
      let o = r.first in
      record {
        level = o.level;
        start = o.start;
        number = o.number;
        from = from_table numbers k b e r.index o.level o.start o.number y r.small o.from;
        bears = o.bears;
        low = o.low;
        high = o.high;
        before = λ j c f w q.
            ⊎_elim (λ (z : Itself (suc k) b e j c f). rw (z.level, z.start, z.number) p)
            (λ (z : (is_table (suc k) e ≡ true) × ((i : ℕ) × (i < 512) × From numbers k (place k b i) (entry_of numbers (base_of page_size e) i) j c f)).
            row_before k (omega arith) below t b 512 s x (omega arith) al r z.1.0 j c f z.1.2 q)
            w;
        alike = λ v lo hi. table_answers numbers l (suc k) e v y (passes_plain numbers (suc k) b e p) (r.alike v lo hi);
        differs = λ d w. r.differs d (answers_table numbers l (suc k) e x y (passes_plain numbers (suc k) b e p) w);
      }

  pub refused_first : (k : ℕ) → k ≤ 2 → (b e s x : ℕ) → b % span k ≡ 0 → judged numbers l k b e ≡ Refused s x → FirstIn k b e s x
  refused_first zero m b e s x a h =
      ⊎_elim (λ (y : Own 0 b e s × (x ≡ b)). own_first 0 b e s x m a y)
      (λ (y : Passes numbers 0 b e × (compared l 0 b e ≡ Refused s x)). leaf_first 0 b e s x m a (last_level e) y.0 y.1)
      (own_or_after 0 b e (compared l 0 b e) s x (sym (judged_last numbers l b e) ∙ h))
  refused_first (suc k) m b e s x a h =
      let row = scan (judged_at numbers l k (base_of page_size e) b) 0 512 in
      let leaf = compared l (suc k) b e in
      ⊎_elim (λ (y : Own (suc k) b e s × (x ≡ b)). own_first (suc k) b e s x m a y)
      (λ (y : Passes numbers (suc k) b e × (pick (is_table (suc k) e) row leaf ≡ Refused s x)).
      either (is_table (suc k) e)
      (λ t. table_first k b e s x m a t y.0 (refused_first k (omega arith)) (sym (pick_yes (is_table (suc k) e) row leaf t) ∙ y.1))
      (λ n. leaf_first (suc k) b e s x m a n y.0 (sym (pick_no (is_table (suc k) e) row leaf n) ∙ y.1)))
      (own_or_after (suc k) b e _ s x (sym (judged_next numbers l k b e) ∙ h))

  -- ---- the whole
  pub record FirstAt (s x : ℕ) : Type 0 where
    pub level : ℕ
    pub start : ℕ
    pub number : ℕ
    pub reached : Reached numbers level start number
    pub bears : Bears level start number s x
    pub before : (k b e : ℕ) → Reached numbers k b e → Before k b level start → Passes numbers k b e
    pub high : x < virtual_limit
    pub alike : (y : ℕ) → y < x → walked numbers y ≡ lead_of l y
    pub differs : s ≡ answered_otherwise → walked numbers x ≡ lead_of l x → ⊥

  top_is : (i : ℕ) → place 2 0 i ≡ i * 1073741824
  unfolding span
  top_is i = omega arith

  top_span : 4 * span 2 ≡ 4294967296
  unfolding span
  top_span = refl

  top_room : 0 % (512 * span 2) ≡ 0
  unfolding span
  top_room = refl

  at_top : (s x : ℕ) → scan (judged_at numbers l 2 0 0) 0 4 ≡ Refused s x → FirstAt s x
  at_top s x h =
      let r = row_first 2 (omega arith) (refused_first 2 (omega arith)) 0 0 4 s x (omega arith) top_room h in
      let o = r.first in
      let u : x < virtual_limit = omega (arith, r.high, top_span) in
      record {
        level = o.level;
        start = o.start;
        number = o.number;
        reached = record { top = r.index; few = r.small; from = rw (top_is r.index) at o.from };
        bears = o.bears;
        before = λ k b e q w. row_before 2 (omega arith) (refused_first 2 (omega arith)) 0 0 4 s x (omega arith) top_room r q.top k b e (rw (← top_is q.top) at q.from) w;
        high = u;
        alike = λ y v. walked_low numbers y (omega arith) ∙ r.alike y (omega arith) v;
        differs = λ d w. r.differs d (sym (walked_low numbers x u) ∙ w);
      }

  -- with fewer than 512 numbers, 8A at 0; else the first offence
  pub vetted_first : (s x : ℕ) → vetted numbers l ≡ Refused s x → ((length numbers < 512) × (s ≡ table_outside) × (x ≡ 0)) ⊎ ((512 ≤ length numbers) × FirstAt s x)
  unfolding vetted
  vetted_first s x h =
      either (ltb (length numbers) 512)
      (λ y.
      let q = same_refusal 138 0 s x (sym (pick_yes (ltb (length numbers) 512) (Refused 138 0) (scan (judged_at numbers l 2 0 0) 0 4) y) ∙ h) in
      inl (ltb-true _ _ y, sym q.0, sym q.1))
      (λ n. inr (ltb-false _ _ n, at_top s x (sym (pick_no (ltb (length numbers) 512) (Refused 138 0) (scan (judged_at numbers l 2 0 0) 0 4) n) ∙ h)))
