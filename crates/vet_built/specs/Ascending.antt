-- Of the entries that are reached in tables that were built, none is reserved, and those that lead to tables lead to ascending ones.
use Rattle.std.specs.Prelude.{◌≡◌, true, false, List, ltb}
use Rattle.std.proofs.Common.{sym, ap, ◌∙◌, eq-or-lt_of_le, mul-le-mul_right, suc-mul, ltb-true, ltb-false}
use Rattle.std.proofs.Math.Logic.{⊎_elim}
use Prim.Native.Nat.{ℕ, zero, suc, ◌+◌, ◌*◌, ◌%◌, ◌≤◌, ◌<◌}
use native.Mathlib.Omega.{arith}
use Rattle.rules.specs.Sizes.{page_size}
use Rattle.rules.specs.Choice.{either, yes_or_no}
use Rattle.pages.specs.Window.{Acceptable}
use Rattle.pages.specs.declared.Window.{Window}
use Rattle.ranges.specs.declared.Mapping.{Mapping}
use Rattle.mapping.specs.Entries.{Every}
use Rattle.mapping.specs.Sound.{Formed}
use Rattle.descriptors.specs.Numbers.{span, base_of, span_some, table_number}
use Rattle.descriptors.specs.Meaning.{is_table, reserved}
use Rattle.walks.specs.Walk.{entry_of}
use Rattle.layout.specs.Rows.{total_within, Stands}
use Rattle.layout.specs.Layout.{part, tables, below, below_at, next, tree}
use Rattle.layout.proofs.Laws.{tables_are}
use Rattle.tables_right.specs.Numbers.{table_means}
use Rattle.vetting.specs.Rooms.{region_is, part_aligned, entry_ends}
use Rattle.vet_theorems.specs.Tree.{Itself, From, Before, Lies, from_lies, none_before}
use Rattle.vet_theorems.specs.Once.{table_of}
use Rattle.vet_built.specs.Entries.{Plain, Deep, Entry, row_entry}

-- the number of a table that was built
pub record IsTable (k t : ℕ) : Type 0 where
  pub table : is_table (suc k) (table_number (4096 * t)) ≡ true
  pub base : base_of page_size (table_number (4096 * t)) ≡ 4096 * t
  pub plain : reserved (suc k) (table_number (4096 * t)) ≡ false

is_table_lem : (k t : ℕ) → t < 68719476736 → IsTable k t
is_table_lem k t u = let r = table_of (4096 * t) (suc k) (table_number (4096 * t)) 0 (table_means k t u 0) in record { table = r.0; base = r.1; plain = r.2 }

-- a number that is not reserved, and where it leads to a table, to one of the n from t on
pub record Good (t n j f : ℕ) : Type 0 where
  pub plain : reserved j f ≡ false
  pub low : is_table j f ≡ true → 4096 * t ≤ base_of page_size f
  pub high : is_table j f ≡ true → base_of page_size f + 4096 ≤ 4096 * (t + n)

-- within more tables
pub wider : (t n u m j f : ℕ) → u ≤ t → t + n ≤ u + m → Good t n j f → Good u m j f
wider t n u m j f a b g = record { plain = g.plain; low = λ y. omega (arith, g.low y); high = λ y. omega (arith, g.high y) }

plain_good : (k b e t n j c f : ℕ) → Plain k e → Itself k b e j c f → Good t n j f
plain_good k b e t n j c f p s =
    rw (s.level, s.number) (record { plain = p.plain; low = λ y. absurd (yes_or_no _ y p.leaf); high = λ y. absurd (yes_or_no _ y p.leaf) })

module _ (w : Window) (acc : Acceptable w) (l : List Mapping) (formed : Every (Formed w) l) (numbers : List ℕ) where
  pub some_tables : (k a : ℕ) → 1 ≤ tables l k a
  some_tables k a = omega (arith, tables_are l k a)

  -- ---- the numbers of the tables below the entries of a table
  pub next_more : (k a t i : ℕ) → t < next l k a t i
  unfolding next
  next_more k a t i = omega arith

  pub next_within : (k a t i : ℕ) → i < 512 → next l k a t i + below l k (part k a i) ≤ t + tables l k a
  unfolding next below_at
  next_within k a t i h = omega (arith, total_within (below_at l k a) i 512 h, tables_are l k a)

  pub next_order : (k a t i j : ℕ) → i < j → next l k a t i + below l k (part k a i) ≤ next l k a t j
  unfolding next below_at
  next_order k a t i j h = omega (arith, total_within (below_at l k a) i j h)

  -- ---- the entries of a table that stands among the numbers, each with what is reached from it
  abbrev pub Here : ℕ → ℕ → ℕ → ℕ → ℕ → ℕ → ℕ → Type 0
  Here k a t i j c f = From numbers k (part k a i) (entry_of numbers (4096 * t) i) j c f

  pub record Region (k a t : ℕ) : Type 0 where
    pub level : k ≤ 2
    pub aligned : a % (512 * span k) ≡ 0
    pub ends : a + 512 * span k ≤ 549755813888
    pub few : t + tables l k a ≤ 68719476736
    pub stands : Stands numbers (512 * t) (tree l k a t)

  entry_in : (k a t i : ℕ) → Region k a t → i < 512 → Entry w acc l formed numbers k (part k a i) (entry_of numbers (4096 * t) i) (next l k a t i)
  entry_in k a t i r h =
      row_entry w acc l formed numbers k a t i h (omega (arith, entry_ends (span k) i 512 h, r.ends)) (part_aligned k a i r.level r.aligned) (omega (arith, span_some k)) r.stands

  -- the table below an entry is a region of its own
  region_below : (k a t i : ℕ) → Region (suc k) a t → i < 512 → Deep w acc l formed numbers k (part (suc k) a i) (entry_of numbers (4096 * t) i) (next l (suc k) a t i)
      → Region k (part (suc k) a i) (next l (suc k) a t i)
  region_below k a t i r h d =
      let g = region_is k r.level in
      record {
        level = omega (arith, r.level);
        aligned = rw g (part_aligned (suc k) a i r.level r.aligned);
        ends = omega (arith, g, entry_ends (span (suc k)) i 512 h, r.ends);
        few = omega (arith, d.count, next_within (suc k) a t i h, r.few);
        stands = d.stands;
      }

  small_next : (k a t i : ℕ) → Region (suc k) a t → i < 512 → Deep w acc l formed numbers k (part (suc k) a i) (entry_of numbers (4096 * t) i) (next l (suc k) a t i) → next l (suc k) a t i < 68719476736
  small_next k a t i r h d = omega (arith, d.count, next_within (suc k) a t i h, r.few, some_tables k (part (suc k) a i))

  module _ (k a t i : ℕ) (r : Region (suc k) a t) (h : i < 512) (d : Deep w acc l formed numbers k (part (suc k) a i) (entry_of numbers (4096 * t) i) (next l (suc k) a t i)) where
    deep_is : IsTable k (next l (suc k) a t i)
    deep_is = is_table_lem k (next l (suc k) a t i) (small_next k a t i r h d)

    deep_base : base_of page_size (entry_of numbers (4096 * t) i) ≡ 4096 * next l (suc k) a t i
    deep_base = ap (base_of page_size) d.number ∙ deep_is.base

    deep_good : (j c f : ℕ) → Itself (suc k) (part (suc k) a i) (entry_of numbers (4096 * t) i) j c f → Good (next l (suc k) a t i) 1 j f
    deep_good j c f s =
        rw (s.level, s.number, d.number)
        (record { plain = deep_is.plain; low = λ y. omega (arith, deep_is.base); high = λ y. omega (arith, deep_is.base) })

    -- an entry of the table below
    inner : (n j c f : ℕ) → From numbers k (part k (part (suc k) a i) n) (entry_of numbers (base_of page_size (entry_of numbers (4096 * t) i)) n) j c f
        → Here k (part (suc k) a i) (next l (suc k) a t i) n j c f
    inner n j c f s = rw deep_base at s

  -- ---- everything that is reached from an entry is good
  pub all_good : (k a t i j c f : ℕ) → Region k a t → i < 512 → Here k a t i j c f → Good (next l k a t i) (below l k (part k a i)) j f
  unfolding From Entry
  all_good zero a t i j c f r h s = plain_good 0 (part 0 a i) _ _ _ j c f (entry_in zero a t i r h) s
  all_good (suc k) a t i j c f r h s =
      let b = part (suc k) a i in
      let e = entry_of numbers (4096 * t) i in
      let u = next l (suc k) a t i in
      ⊎_elim
      (λ (p : Plain (suc k) e).
      ⊎_elim (λ (z : Itself (suc k) b e j c f). plain_good (suc k) b e u (below l (suc k) b) j c f p z)
      (λ (z : (is_table (suc k) e ≡ true) × ((n : ℕ) × (n < 512) × From numbers k (part k b n) (entry_of numbers (base_of page_size e) n) j c f)). absurd (yes_or_no _ z.0 p.leaf))
      s)
      (λ (d : Deep w acc l formed numbers k b e u).
      ⊎_elim (λ (z : Itself (suc k) b e j c f). wider u 1 u (below l (suc k) b) j f (omega arith) (omega (arith, d.count, some_tables k b)) (deep_good k a t i r h d j c f z))
      (λ (z : (is_table (suc k) e ≡ true) × ((n : ℕ) × (n < 512) × From numbers k (part k b n) (entry_of numbers (base_of page_size e) n) j c f)).
      let n = z.1.0 in
      wider (next l k b u n) (below l k (part k b n)) u (below l (suc k) b) j f (omega (arith, next_more k b u n)) (omega (arith, d.count, next_within k b u n z.1.1))
      (all_good k b u n j c f (region_below k a t i r h d) z.1.1 (inner k a t i r h d n j c f z.1.2)))
      s)
      (entry_in (suc k) a t i r h)

  -- ---- of two entries that lead to tables, the one before leads to the one before
  abbrev Later : ℕ → ℕ → Type 0
  Later f g = base_of page_size f < base_of page_size g

  here_lies : (k a t i j c f : ℕ) → Region k a t → Here k a t i j c f → Lies k (part k a i) j c
  here_lies k a t i j c f r s = from_lies numbers k r.level (part k a i) _ j c f (part_aligned k a i r.level r.aligned) s

  -- entries of one row
  pub row_later : (k a t i m j c f p d g : ℕ) → Region k a t → i < 512 → m < 512
      → (i ≡ m → Later f g)
      → Here k a t i j c f → Here k a t m p d g → is_table j f ≡ true → is_table p g ≡ true → Before j c p d → Later f g
  row_later k a t i m j c f p d g r h u same s q y z o =
      either (ltb i m)
      (λ v.
      let x = all_good k a t i j c f r h s in
      let x' = all_good k a t m p d g r u q in
      omega (arith, x.high y, x'.low z, next_order k a t i m (ltb-true i m v)))
      (λ n. ⊎_elim (λ (v : m ≡ i). same (sym v)) (λ (v : m < i). absurd (back v)) (eq-or-lt_of_le (ltb-false i m n)))
    where
      back : m < i → ⊥
      back v =
          let x = here_lies k a t i j c f r s in
          let x' = here_lies k a t m p d g r q in
          let e = mul-le-mul_right (span k) v in
          let e' = suc-mul m (span k) in
          let far : d < c = omega (arith, x.low, x'.high, span_some p) in
          ⊎_elim (λ (b : c < d). omega arith) (λ (b : (c ≡ d) × (p < j)). omega (arith, b.0)) o

  pub ascending : (k a t i j c f p d g : ℕ) → Region k a t → i < 512 → Here k a t i j c f → Here k a t i p d g → is_table j f ≡ true → is_table p g ≡ true → Before j c p d → Later f g
  unfolding From Entry
  ascending zero a t i j c f p d g r h s q y z o =
      let e = entry_in zero a t i r h in
      absurd (yes_or_no _ (rw (s.level, s.number) at y) e.leaf)
  ascending (suc k) a t i j c f p d g r h s q y z o =
      let b = part (suc k) a i in
      let e = entry_of numbers (4096 * t) i in
      let u = next l (suc k) a t i in
      let al = part_aligned (suc k) a i r.level r.aligned in
      ⊎_elim
      (λ (v : Plain (suc k) e).
      ⊎_elim (λ (x : Itself (suc k) b e j c f). absurd (yes_or_no _ (rw (x.level, x.number) at y) v.leaf))
      (λ (x : (is_table (suc k) e ≡ true) × ((n : ℕ) × (n < 512) × From numbers k (part k b n) (entry_of numbers (base_of page_size e) n) j c f)). absurd (yes_or_no _ x.0 v.leaf))
      s)
      (λ (v : Deep w acc l formed numbers k b e u).
      ⊎_elim
      (λ (x' : Itself (suc k) b e p d g). absurd (none_before numbers (suc k) b e j c f r.level al s (rw (x'.level, x'.start) at o)))
      (λ (x' : (is_table (suc k) e ≡ true) × ((n : ℕ) × (n < 512) × From numbers k (part k b n) (entry_of numbers (base_of page_size e) n) p d g)).
      let m = x'.1.0 in
      let rb = region_below k a t i r h v in
      let sub = inner k a t i r h v m p d g x'.1.2 in
      ⊎_elim
      (λ (x : Itself (suc k) b e j c f).
      let own = deep_good k a t i r h v j c f x in
      let low = all_good k b u m p d g rb x'.1.1 sub in
      omega (arith, own.high y, low.low z, next_more k b u m))
      (λ (x : (is_table (suc k) e ≡ true) × ((n : ℕ) × (n < 512) × From numbers k (part k b n) (entry_of numbers (base_of page_size e) n) j c f)).
      let n = x.1.0 in
      let up = inner k a t i r h v n j c f x.1.2 in
      row_later k b u n m j c f p d g rb x.1.1 x'.1.1
      (λ same. ascending k b u m j c f p d g rb x'.1.1 (rw same at up) sub y z o) up sub y z o)
      s)
      q)
      (entry_in (suc k) a t i r h)
