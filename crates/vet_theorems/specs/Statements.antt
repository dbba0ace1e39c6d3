-- What vetting tells, for any numbers of any length and any list of mappings: the statements for a reviewer.
-- The pass is defined in `Pass` of `vetting`, the walk in `Walk` of `walks`, what a number says and which are reserved in `Meaning` of
-- `descriptors`, the entries that are reached and their order in `Tree`.
use Rattle.std.specs.Prelude.{◌≡◌, true, false, List, ◌⊎◌, ℕ, ◌+◌, ◌*◌, ◌/◌, ◌≤◌, ◌<◌, length}
use Rattle.std.proofs.Common.{sym, inl, inr, arith}
use Rattle.std.proofs.Math.Logic.{⊎_elim}
use borrow.Author.Tests.{ltb-true, lt-ltb}
use Rattle.rules.specs.Sizes.{page_size, virtual_limit}
use Rattle.rules.specs.Choice.{either, both_true, left_true, right_true, yes_or_no}
use Rattle.rules.specs.Tests.{Clear}
use Rattle.ranges.specs.declared.Mapping.{Mapping}
use Rattle.mapping.specs.Mapping.{lead_of}
use Rattle.descriptors.specs.Numbers.{span, span_some, base_of}
use Rattle.descriptors.specs.Meaning.{is_table, reserved}
use Rattle.walks.specs.Walk.{walked}
use Rattle.vetting.specs.Reached.{again}
use Rattle.vetting.specs.Pass.{outside, vetted}
use Rattle.vetting.specs.Outcome.{Accepted, Refused}
use Rattle.vet_theorems.specs.Passing.{Passes, passes_plain}
use Rattle.vet_theorems.specs.Tree.{Reached, Before, same_place, reached_lies}
use Rattle.vet_theorems.specs.Exactly.{accepted_all, all_accepted}
use Rattle.vet_theorems.specs.Once.{Earlier, earlier_found, apart, not_level_one}
use Rattle.vet_theorems.specs.First.{Own, own_by, Differs, Bears, FirstAt, vetted_first}

-- ---- what may be amiss with an entry e for the addresses from b on, with k levels below it
module _ (numbers : List ℕ) where
  -- 8A: it leads to a table whose 4,096 bytes do not lie wholly in the numbers
  abbrev pub TableOutside : ℕ → ℕ → Type 0
  TableOutside k e = (is_table k e ≡ true) × (8 * length numbers < base_of page_size e + 4096)

  -- 8C: it leads to the table at 0, which is level 1, or to one that an entry before it in the pass leads to
  abbrev pub TableAgain : ℕ → ℕ → ℕ → Type 0
  TableAgain k b e = (is_table k e ≡ true) × ((base_of page_size e ≡ 0) ⊎ Earlier numbers k b (base_of page_size e))

  -- neither is so, nor is it reserved
  pub record Unblamed (k b e : ℕ) : Type 0 where
    pub inside : TableOutside k e → ⊥
    pub plain : reserved k e ≡ false
    pub new : TableAgain k b e → ⊥

  -- 8A to 8C do not arise: level 1 lies in the numbers, each table that is reached does, no number that is reached is reserved, and no
  -- two entries that are reached lead to one table, nor does any to level 1
  pub record Sane : Type 0 where
    pub room : 512 ≤ length numbers
    pub inside : (k b e : ℕ) → Reached numbers k b e → TableOutside k e → ⊥
    pub plain : (k b e : ℕ) → Reached numbers k b e → reserved k e ≡ false
    pub level_one : (k b e : ℕ) → Reached numbers k b e → is_table k e ≡ true → base_of page_size e ≡ 0 → ⊥
    pub once : (k b e j c f : ℕ) → Reached numbers k b e → Reached numbers j c f → is_table k e ≡ true → is_table j f ≡ true → base_of page_size e ≡ base_of page_size f → (k ≡ j) × (b ≡ c)

  -- ---- the tests of the definition say this
  outside_so : (k e : ℕ) → outside (length numbers) k e ≡ true → TableOutside k e
  unfolding outside
  outside_so k e h =
      let g = ltb-true (length numbers) (base_of page_size e / 8 + 512) (right_true (is_table k e) _ h) in
      (left_true (is_table k e) _ h, omega arith)

  so_outside : (k e : ℕ) → TableOutside k e → outside (length numbers) k e ≡ true
  unfolding outside
  so_outside k e h = both_true (is_table k e) _ h.0 (lt-ltb (length numbers) (base_of page_size e / 8 + 512) (omega (arith, h.1)))

  not_outside : (k e : ℕ) → outside (length numbers) k e ≡ false → TableOutside k e → ⊥
  not_outside k e n h = yes_or_no _ (so_outside k e h) n

  inside_so : (k e : ℕ) → (TableOutside k e → ⊥) → outside (length numbers) k e ≡ false
  inside_so k e h = either (outside (length numbers) k e) (λ y. absurd (h (outside_so k e y))) (λ n. n)

  again_so : (k b e : ℕ) → Reached numbers k b e → again numbers k b e ≡ true → TableAgain k b e
  unfolding again
  again_so k b e r h =
      (left_true (is_table k e) _ h, earlier_found numbers k b (base_of page_size e) (reached_lies numbers k b e r).high (right_true (is_table k e) _ h))

  not_again : (k b e : ℕ) → Reached numbers k b e → (TableAgain k b e → ⊥) → again numbers k b e ≡ false
  not_again k b e r h = either (again numbers k b e) (λ y. absurd (h (again_so k b e r y))) (λ n. n)

  -- where the entries before some place of the pass pass their tests
  module _ (level start : ℕ) (passes : (k b e : ℕ) → Reached numbers k b e → Before k b level start → Passes numbers k b e) where
    plain_before : (k b e : ℕ) → Reached numbers k b e → Before k b level start → reserved k e ≡ false
    unfolding Clear
    plain_before k b e r w = (passes k b e r w).1.0

    new_before : (k b e : ℕ) → Reached numbers k b e → Before k b level start → again numbers k b e ≡ false
    unfolding Clear
    new_before k b e r w = (passes k b e r w).1.1.0

    unblamed_before : (k b e : ℕ) → Reached numbers k b e → Before k b level start → Unblamed k b e
    unfolding Clear
    unblamed_before k b e r w =
        record {
          inside = not_outside k e (passes k b e r w).0;
          plain = plain_before k b e r w;
          new = λ h.
              ⊎_elim (λ (z : base_of page_size e ≡ 0). not_level_one numbers level start plain_before k b e r w h.0 (new_before k b e r w) z)
              (λ (z : Earlier numbers k b (base_of page_size e)).
              apart numbers level start plain_before k b e r w h.0 (new_before k b e r w) z.level z.start z.number z.reached z.table z.before z.same)
              h.1;
        }

  -- ---- every entry lies before 2^32
  before_end : (k b e : ℕ) → Reached numbers k b e → Before k b 0 virtual_limit
  before_end k b e r = inl (reached_lies numbers k b e r).high

  passed_sane : 512 ≤ length numbers → ((k b e : ℕ) → Reached numbers k b e → Passes numbers k b e) → Sane
  passed_sane room p =
      let all : (k b e : ℕ) → Reached numbers k b e → Before k b 0 virtual_limit → Passes numbers k b e = λ k b e r w. p k b e r in
      let un : (k b e : ℕ) → Reached numbers k b e → Unblamed k b e = λ k b e r. unblamed_before 0 virtual_limit all k b e r (before_end k b e r) in
      record {
        room = room;
        inside = λ k b e r. (un k b e r).inside;
        plain = λ k b e r. (un k b e r).plain;
        level_one = λ k b e r y z. (un k b e r).new (y, inl z);
        once = λ k b e j c f p q y z s.
            same_place k b j c
            (λ w. (un k b e p).new (y, inr (record { level = j; start = c; number = f; reached = q; before = w; table = z; same = sym s })))
            (λ w. (un j c f q).new (z, inr (record { level = k; start = b; number = e; reached = p; before = w; table = y; same = s })));
      }

  sane_passes : Sane → (k b e : ℕ) → Reached numbers k b e → Passes numbers k b e
  unfolding Clear
  sane_passes s k b e r = (
    inside_so k e (s.inside k b e r),
    (
      s.plain k b e r,
      (
        not_again k b e r (λ h.
            ⊎_elim (λ (z : base_of page_size e ≡ 0). s.level_one k b e r h.0 z)
            (λ (z : Earlier numbers k b (base_of page_size e)).
            let w = s.once k b e z.level z.start z.number r z.reached h.0 z.table (sym z.same) in
            ⊎_elim (λ (u : z.start < b). omega (arith, w.1)) (λ (u : (z.start ≡ b) × (k < z.level)). omega (arith, w.0, u.1)) z.before)
            h.1),
        tt,
      ),
    ),
  )

module _ (numbers : List ℕ) (l : List Mapping) where
  -- every address below 2^32 walks to the list's answer, in address and attributes, or leads nowhere in both
  abbrev pub Answered : Type 0
  Answered = (x : ℕ) → x < 4294967296 → walked numbers x ≡ lead_of l x

  -- **Accepted exactly when** none of 8A to 8C arises and every address below 2^32 walks to the list's answer.
  pub accepted_only : vetted numbers l ≡ Accepted → Sane numbers × Answered
  accepted_only h = let r = accepted_all numbers l h in (passed_sane numbers r.0 r.1, r.2)

  pub accepted_if : Sane numbers → Answered → vetted numbers l ≡ Accepted
  accepted_if s a = all_accepted numbers l s.room (sane_passes numbers s) a

  -- ---- what is told of a refusal at x with status s
  -- an entry bears 8A; or 8B and not 8A; or 8C and neither; each told with the entry's first address; or it bears none of them, is no
  -- table, and x is an address of it that is answered otherwise than by the list
  abbrev pub Is8A : ℕ → ℕ → ℕ → ℕ → ℕ → Type 0
  Is8A k b e s x = (s ≡ 138) × (x ≡ b) × TableOutside numbers k e

  abbrev pub Is8B : ℕ → ℕ → ℕ → ℕ → ℕ → Type 0
  Is8B k b e s x = (s ≡ 139) × (x ≡ b) × (TableOutside numbers k e → ⊥) × (reserved k e ≡ true)

  abbrev pub Is8C : ℕ → ℕ → ℕ → ℕ → ℕ → Type 0
  Is8C k b e s x = (s ≡ 140) × (x ≡ b) × (TableOutside numbers k e → ⊥) × (reserved k e ≡ false) × TableAgain numbers k b e

  abbrev pub Is8D : ℕ → ℕ → ℕ → ℕ → Type 0
  Is8D k e s x = (s ≡ 141) × (is_table k e ≡ false) × (reserved k e ≡ false) × (walked numbers x ≡ lead_of l x → ⊥)

  pub record Blamed (k b e s x : ℕ) : Type 0 where
    pub low : b ≤ x
    pub high : x < b + span k
    pub offence : Is8A k b e s x ⊎ Is8B k b e s x ⊎ Is8C k b e s x ⊎ Is8D k e s x

  pub record FirstOffence (s x : ℕ) : Type 0 where
    -- the entry that bears it is reached
    pub level : ℕ
    pub start : ℕ
    pub number : ℕ
    pub reached : Reached numbers level start number
    pub blamed : Blamed level start number s x
    -- no entry before it in the pass bears 8A, 8B or 8C
    pub before : (k b e : ℕ) → Reached numbers k b e → Before k b level start → Unblamed numbers k b e
    -- every address before it walks to the list's answer
    pub below : x < 4294967296
    pub alike : (y : ℕ) → y < x → walked numbers y ≡ lead_of l y

  blame : (k b e s x : ℕ) → Reached numbers k b e → (s ≡ 141 → walked numbers x ≡ lead_of l x → ⊥) → Bears numbers l k b e s x → Blamed k b e s x
  blame k b e s x r d =
      ⊎_elim
      (λ (y : Own numbers l k b e s × (x ≡ b)).
      record {
        low = omega (arith, y.1);
        high = omega (arith, y.1, span_some k);
        offence = own_by numbers l k b e s
            (λ q. inl (q.0, y.1, outside_so numbers k e q.1))
            (λ q. inr (inl (q.0, y.1, not_outside numbers k e q.1, q.2)))
            (λ q. inr (inr (inl (q.0, y.1, not_outside numbers k e q.1, q.2, again_so numbers k b e r q.3))))
            y.0;
      })
      (λ (y : Differs numbers l k b e s x).
      record { low = y.low; high = y.high; offence = inr (inr (inr (y.status, y.leaf, passes_plain numbers k b e y.passes, d y.status))) })

  -- **The status and the address told are those of the first offence**: 8A at 0 where there are fewer than 512 numbers, before all.
  pub refused_first : (s x : ℕ) → vetted numbers l ≡ Refused s x → ((length numbers < 512) × (s ≡ 138) × (x ≡ 0)) ⊎ ((512 ≤ length numbers) × FirstOffence s x)
  refused_first s x h =
      ⊎_elim (λ (y : (length numbers < 512) × (s ≡ 138) × (x ≡ 0)). inl y)
      (λ (y : (512 ≤ length numbers) × FirstAt numbers l s x).
      let f = y.1 in
      inr (
        y.0,
        record {
          level = f.level;
          start = f.start;
          number = f.number;
          reached = f.reached;
          blamed = blame f.level f.start f.number s x f.reached f.differs f.bears;
          before = unblamed_before numbers f.level f.start f.before;
          below = f.high;
          alike = f.alike;
        },
      ))
      (vetted_first numbers l s x h)
