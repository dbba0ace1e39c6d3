-- Accepted exactly when every entry that is reached passes and every address is answered as by the list.
use Rattle.std.specs.Prelude.{◌≡◌, true, false, List, ltb, length, Option}
use Rattle.std.proofs.Math.Path.{refl}
use Rattle.std.proofs.Common.{sym, ◌∙◌}
use Rattle.std.proofs.Math.Logic.{⊎_elim}
use Prim.Native.Nat.{ℕ, zero, suc, ◌+◌, ◌*◌, ◌/◌, ◌%◌, ◌≤◌, ◌<◌}
use native.Mathlib.Omega.{arith}
use borrow.Author.Tests.{le-ltb, ltb-false}
use Rattle.mapping.specs.declared.Lead.{Lead}
use Rattle.rules.specs.Sizes.{page_size, virtual_limit}
use Rattle.rules.specs.Choice.{pick_yes, pick_no, either}
use Rattle.ranges.specs.declared.Mapping.{Mapping}
use Rattle.mapping.specs.Mapping.{lead_of}
use Rattle.descriptors.specs.Numbers.{span, base_of}
use Rattle.descriptors.specs.Meaning.{is_table, reserved, meaning, last_level, table_says, other_says}
use Rattle.descriptors.specs.declared.Descriptor.{Descriptor}
use Rattle.walks.specs.Walk.{entry_of, entry_for, led, descended, walked, walked_low}
use Rattle.vetting.specs.Answers.{answer, otherwise, nowhere, alike_here, here_alike}
use Rattle.vetting.specs.Pass.{place, scan, judged, judged_at, vetted}
use Rattle.vetting.specs.Rooms.{region_is, part_aligned}
use Rattle.vetting.specs.Outcome.{Accepted, Refused}
use Rattle.vet_theorems.specs.Passing.{refused_not, scan_at, scan_if, Passes, passes_plain, compared_at, compared_if, entry_at, leaf_accepted, table_accepted, accepted_leaf, accepted_table}
use Rattle.vet_theorems.specs.Tree.{Itself, From, Reached, itself, from_table, top_aligned}

-- ---- an address in the region of a table, and the entry that it has there
pub record Inside (k a x i : ℕ) : Type 0 where
  pub small : i < 512
  pub low : place k a i ≤ x
  pub high : x < place k a i + span k
  pub aligned : place k a i % span k ≡ 0

pub inside : (k a x : ℕ) → k ≤ 2 → a % (512 * span k) ≡ 0 → a ≤ x → x < a + 512 * span k → Inside k a x (x / span k % 512)
unfolding span
inside zero a x h e l u = record { small = omega arith; low = omega arith; high = omega arith; aligned = omega arith }
inside (suc zero) a x h e l u = record { small = omega arith; low = omega arith; high = omega arith; aligned = omega arith }
inside (suc (suc zero)) a x h e l u = record { small = omega arith; low = omega arith; high = omega arith; aligned = omega arith }
inside (suc (suc (suc k))) a x h e l u = absurd (omega arith)

-- and the other way: the addresses of an entry lie in the region, and find the entry
pub record Finds (k a i x : ℕ) : Type 0 where
  pub index : x / span k % 512 ≡ i
  pub from : a ≤ x
  pub to : x < a + 512 * span k

pub finds : (k a i x : ℕ) → k ≤ 2 → i < 512 → a % (512 * span k) ≡ 0 → place k a i ≤ x → x < place k a i + span k → Finds k a i x
unfolding span
finds zero a i x h n e l u = record { index = omega arith; from = omega arith; to = omega arith }
finds (suc zero) a i x h n e l u = record { index = omega arith; from = omega arith; to = omega arith }
finds (suc (suc zero)) a i x h n e l u = record { index = omega arith; from = omega arith; to = omega arith }
finds (suc (suc (suc k))) a i x h n e l u = absurd (omega arith)

-- ---- where an entry leads an address
module _ (k e x : ℕ) (deeper : ℕ → Option Lead) where
  leaf_led : is_table k e ≡ false → led deeper (meaning k x e) ≡ answer k e x
  unfolding led answer
  leaf_led h = other_says k e x h (λ (m : Descriptor). led deeper m ≡ led nowhere m) refl refl

  table_led : is_table k e ≡ true → reserved k e ≡ false → led deeper (meaning k x e) ≡ deeper (base_of page_size e)
  unfolding led
  table_led h r = rw (table_says k e x h r)

module _ (numbers : List ℕ) (l : List Mapping) where
  -- the entry leads an address where the list does
  abbrev pub Answers : ℕ → ℕ → ℕ → Type 0
  Answers k e x = led (λ (at : ℕ). descended numbers k at x) (meaning k x e) ≡ lead_of l x

  pub leaf_answers : (k e x : ℕ) → is_table k e ≡ false → otherwise l k e x ≡ false → Answers k e x
  leaf_answers k e x n h = leaf_led k e x (λ (at : ℕ). descended numbers k at x) n ∙ alike_here l k e x h

  pub answers_leaf : (k e x : ℕ) → is_table k e ≡ false → Answers k e x → otherwise l k e x ≡ false
  answers_leaf k e x n h = here_alike l k e x (sym (leaf_led k e x (λ (at : ℕ). descended numbers k at x) n) ∙ h)

  pub table_answers : (k e x : ℕ) → is_table k e ≡ true → reserved k e ≡ false → descended numbers k (base_of page_size e) x ≡ lead_of l x → Answers k e x
  table_answers k e x y r h = table_led k e x (λ (at : ℕ). descended numbers k at x) y r ∙ h

  pub answers_table : (k e x : ℕ) → is_table k e ≡ true → reserved k e ≡ false → Answers k e x → descended numbers k (base_of page_size e) x ≡ lead_of l x
  answers_table k e x y r h = sym (table_led k e x (λ (at : ℕ). descended numbers k at x) y r) ∙ h

  pub descended_by : (k table x : ℕ) → descended numbers (suc k) table x ≡ led (λ (at : ℕ). descended numbers k at x) (meaning k x (entry_of numbers table (x / span k % 512)))
  unfolding descended entry_for
  descended_by k table x = refl

  -- ---- from accepted to answered, and to passed
  pub accepted_answers : (k b e x : ℕ) → k ≤ 2 → b % span k ≡ 0 → judged numbers l k b e ≡ Accepted → b ≤ x → x < b + span k → Answers k e x
  accepted_answers zero b e x m a h lo hi =
      leaf_answers 0 e x (last_level e) (compared_at numbers l 0 b e x (leaf_accepted numbers l 0 b e (last_level e) h).1 lo hi)
  accepted_answers (suc k) b e x m a h lo hi =
      either (is_table (suc k) e)
      (λ y.
      let g = region_is k m in
      let i = inside k b x (omega arith) (rw g a) lo (rw g hi) in
      let t = base_of page_size e in
      let n = x / span k % 512 in
      let r = table_accepted numbers l k b e y h in
      let s = scan_at (judged_at numbers l k t b) 0 512 n r.1 (omega arith) i.small in
      table_answers (suc k) e x y (passes_plain numbers (suc k) b e r.0)
      (descended_by k t x ∙ accepted_answers k (place k b n) (entry_of numbers t n) x (omega arith) i.aligned (sym (entry_at numbers l k t b n) ∙ s) i.low i.high))
      (λ n. leaf_answers (suc k) e x n (compared_at numbers l (suc k) b e x (leaf_accepted numbers l (suc k) b e n h).1 lo hi))

  itself_passes : (k b e j c f : ℕ) → Passes numbers k b e → Itself k b e j c f → Passes numbers j c f
  itself_passes k b e j c f p s = rw (s.level, s.start, s.number) p

  pub accepted_passes : (k b e j c f : ℕ) → judged numbers l k b e ≡ Accepted → From numbers k b e j c f → Passes numbers j c f
  unfolding From
  accepted_passes zero b e j c f h s = itself_passes 0 b e j c f (leaf_accepted numbers l 0 b e (last_level e) h).0 s
  accepted_passes (suc k) b e j c f h s =
      ⊎_elim
      (λ (y : Itself (suc k) b e j c f).
      itself_passes (suc k) b e j c f
      (either (is_table (suc k) e) (λ t. (table_accepted numbers l k b e t h).0) (λ n. (leaf_accepted numbers l (suc k) b e n h).0)) y)
      (λ (y : (is_table (suc k) e ≡ true) × ((i : ℕ) × (i < 512) × From numbers k (place k b i) (entry_of numbers (base_of page_size e) i) j c f)).
      let i = y.1.0 in
      let t = base_of page_size e in
      accepted_passes k (place k b i) (entry_of numbers t i) j c f
      (sym (entry_at numbers l k t b i) ∙ scan_at (judged_at numbers l k t b) 0 512 i (table_accepted numbers l k b e y.0 h).1 (omega arith) y.1.1) y.1.2)
      s

  -- ---- and back
  leaf_back : (k b e : ℕ) → is_table k e ≡ false → Passes numbers k b e → ((x : ℕ) → b ≤ x → x < b + span k → Answers k e x) → judged numbers l k b e ≡ Accepted
  leaf_back k b e n p f = accepted_leaf numbers l k b e n p (compared_if numbers l k b e (λ x lo hi. answers_leaf k e x n (f x lo hi)))

  pub answers_accepted :
      (k b e : ℕ) → k ≤ 2 → b % span k ≡ 0 → ((j c f : ℕ) → From numbers k b e j c f → Passes numbers j c f)
      → ((x : ℕ) → b ≤ x → x < b + span k → Answers k e x) → judged numbers l k b e ≡ Accepted
  answers_accepted zero b e m a p f = leaf_back 0 b e (last_level e) (p 0 b e (itself numbers 0 b e)) f
  answers_accepted (suc k) b e m a p f =
      let own = p (suc k) b e (itself numbers (suc k) b e) in
      either (is_table (suc k) e)
      (λ y.
      let t = base_of page_size e in
      let g = region_is k m in
      accepted_table numbers l k b e y own
      (scan_if (judged_at numbers l k t b) 0 512 (λ i _ u.
      entry_at numbers l k t b i
      ∙ answers_accepted k (place k b i) (entry_of numbers t i) (omega arith) (part_aligned k b i (omega arith) (rw g a))
      (λ j c f s. p j c f (from_table numbers k b e i j c f y u s))
      (λ x lo hi.
      let q = finds k b i x (omega arith) u (rw g a) lo hi in
      let w = answers_table (suc k) e x y (passes_plain numbers (suc k) b e own) (f x q.from (rw g at q.to)) in
      rw (← q.index) (sym (descended_by k t x) ∙ w)))))
      (λ n. leaf_back (suc k) b e n own f)

  -- ---- the whole
  vetted_is : 512 ≤ length numbers → vetted numbers l ≡ scan (judged_at numbers l 2 0 0) 0 4
  unfolding vetted
  vetted_is h = pick_no _ _ _ (le-ltb (length numbers) 512 h)

  vetted_room : vetted numbers l ≡ Accepted → 512 ≤ length numbers
  unfolding vetted
  vetted_room h =
      either (ltb (length numbers) 512)
      (λ y. refused_not 138 0 (sym (pick_yes (ltb (length numbers) 512) (Refused 138 0) (scan (judged_at numbers l 2 0 0) 0 4) y) ∙ h)) (λ n. ltb-false _ _ n)

  pub top_entry : (i : ℕ) → judged_at numbers l 2 0 0 i ≡ judged numbers l 2 (i * 1073741824) (entry_of numbers 0 i)
  unfolding span
  top_entry i = let z : 0 + i * 1073741824 ≡ i * 1073741824 = omega arith in entry_at numbers l 2 0 0 i ∙ rw z

  top_inside : (x : ℕ) → x < virtual_limit → (x / span 2 % 512 < 4) × ((x / span 2 % 512) * 1073741824 ≤ x) × (x < (x / span 2 % 512) * 1073741824 + span 2)
  unfolding span
  top_inside x h = (omega arith, omega arith, omega arith)

  top_index : (i x : ℕ) → i < 4 → i * 1073741824 ≤ x → x < i * 1073741824 + span 2 → (x / span 2 % 512 ≡ i) × (x < virtual_limit)
  unfolding span
  top_index i x n lo hi = (omega arith, omega arith)

  -- every entry that is reached passes
  abbrev pub AllPass : Type 0
  AllPass = (k b e : ℕ) → Reached numbers k b e → Passes numbers k b e

  -- every address below 2^32 walks to the list's answer
  abbrev pub AllAnswer : Type 0
  AllAnswer = (x : ℕ) → x < virtual_limit → walked numbers x ≡ lead_of l x

  pub accepted_all : vetted numbers l ≡ Accepted → (512 ≤ length numbers) × AllPass × AllAnswer
  accepted_all h =
      let r = vetted_room h in
      let s : scan (judged_at numbers l 2 0 0) 0 4 ≡ Accepted = sym (vetted_is r) ∙ h in
      let g : (i : ℕ) → i < 4 → judged numbers l 2 (i * 1073741824) (entry_of numbers 0 i) ≡ Accepted = λ i u. sym (top_entry i) ∙ scan_at (judged_at numbers l 2 0 0) 0 4 i s (omega arith) u in (
        r,
        (λ k b e q. accepted_passes 2 (q.top * 1073741824) (entry_of numbers 0 q.top) k b e (g q.top q.few) q.from),
        λ x u.
            let t = top_inside x u in
            let i = x / span 2 % 512 in
            walked_low numbers x u ∙ descended_by 2 0 x
            ∙ accepted_answers 2 (i * 1073741824) (entry_of numbers 0 i) x (omega arith) (top_aligned i) (g i t.0) t.1 t.2,
      )

  pub all_accepted : 512 ≤ length numbers → AllPass → AllAnswer → vetted numbers l ≡ Accepted
  all_accepted r p f =
      vetted_is r
      ∙ scan_if (judged_at numbers l 2 0 0) 0 4 (λ i _ u.
      top_entry i
      ∙ answers_accepted 2 (i * 1073741824) (entry_of numbers 0 i) (omega arith) (top_aligned i)
      (λ j c g s. p j c g (record { top = i; few = u; from = s }))
      (λ x lo hi. let t = top_index i x u lo hi in rw (← t.0) (sym (descended_by 2 0 x) ∙ sym (walked_low numbers x t.1) ∙ f x t.1)))
