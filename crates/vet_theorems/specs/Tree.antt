-- The entries that tables in numbers have, and their order in the pass.
use Rattle.std.specs.Prelude.{◌≡◌, refl, true, List, ◌⊎◌, ℕ, zero, suc, ◌+◌, ◌*◌, ◌%◌, ◌≤◌, ◌<◌, ltb}
use Rattle.std.proofs.Common.{sym, ◌∙◌, inl, inr, ⊎_elim, arith, ltb-true, ltb-false}
use Rattle.rules.specs.Sizes.{page_size}
use Rattle.rules.specs.Choice.{either}
use Rattle.descriptors.specs.Numbers.{span, base_of, span_some}
use Rattle.descriptors.specs.Meaning.{is_table}
use Rattle.walks.specs.Walk.{entry_of}
use Rattle.vetting.specs.Pass.{place}
use Rattle.vetting.specs.Rooms.{region_is, entry_ends, part_aligned}

-- the number f with j levels below it, for the addresses from c on, is this entry
pub record Itself (k b e j c f : ℕ) : Type 0 where
  pub level : j ≡ k
  pub start : c ≡ b
  pub number : f ≡ e

-- it is this entry, or one that is reached from an entry of the table that this one leads to
unfoldable pub From : List ℕ → ℕ → ℕ → ℕ → ℕ → ℕ → ℕ → Type 0
From numbers zero b e j c f = Itself 0 b e j c f
From numbers (suc k) b e j c f =
    Itself (suc k) b e j c f
    ⊎ ((is_table (suc k) e ≡ true) × ((i : ℕ) × (i < 512) × From numbers k (place k b i) (entry_of numbers (base_of page_size e) i) j c f))

-- it is reached from one of the first four entries of level 1
pub record Reached (numbers : List ℕ) (j c f : ℕ) : Type 0 where
  pub top : ℕ
  pub few : top < 4
  pub from : From numbers 2 (top * 1073741824) (entry_of numbers 0 top) j c f

-- ascending, and of two entries for the same first address the upper one is first
abbrev pub Before : ℕ → ℕ → ℕ → ℕ → Type 0
Before j c k b = (c < b) ⊎ ((c ≡ b) × (k < j))

pub before_both : (j c k b i a : ℕ) → Before j c k b → Before k b i a → Before j c i a
before_both j c k b i a h g =
    ⊎_elim
    (λ (u : c < b). ⊎_elim (λ (v : b < a). inl (omega arith)) (λ (v : (b ≡ a) × (i < k)). inl (omega (arith, v.0))) g)
    (λ (u : (c ≡ b) × (k < j)).
    ⊎_elim (λ (v : b < a). inl (omega (arith, u.0))) (λ (v : (b ≡ a) × (i < k)). inr (u.0 ∙ v.0, omega (arith, u.1, v.1))) g)
    h

-- of two entries of which neither comes before the other, both are one
pub same_place : (k b j c : ℕ) → (Before j c k b → ⊥) → (Before k b j c → ⊥) → (k ≡ j) × (b ≡ c)
same_place k b j c first second =
    let d : b ≡ c = either (ltb b c) (λ v. absurd (second (inl (ltb-true b c v))))
    (λ v. either (ltb c b) (λ u. absurd (first (inl (ltb-true c b u)))) (λ u. let m = ltb-false b c v in let o = ltb-false c b u in omega arith)) in (
      either (ltb k j) (λ v. absurd (first (inr (sym d, ltb-true k j v))))
          (λ v. either (ltb j k) (λ u. absurd (second (inr (d, ltb-true j k u)))) (λ u. let m = ltb-false k j v in let o = ltb-false j k u in omega arith)),
      d,
    )

-- ---- the entry itself is reached
pub itself : (numbers : List ℕ) (k b e : ℕ) → From numbers k b e k b e
unfolding From
itself numbers zero b e = record { level = refl; start = refl; number = refl }
itself numbers (suc k) b e = inl (record { level = refl; start = refl; number = refl })

pub from_table :
    (numbers : List ℕ) (k b e i j c f : ℕ) → is_table (suc k) e ≡ true → i < 512
    → From numbers k (place k b i) (entry_of numbers (base_of page_size e) i) j c f → From numbers (suc k) b e j c f
unfolding From
from_table numbers k b e i j c f y u h = inr (y, (i, u, h))

-- ---- where an entry lies that is reached from another
pub record Lies (k b j c : ℕ) : Type 0 where
  pub level : j ≤ k
  pub low : b ≤ c
  pub high : c + span j ≤ b + span k
  pub aligned : c % span j ≡ 0

itself_lies : (k b e j c f : ℕ) → b % span k ≡ 0 → Itself k b e j c f → Lies k b j c
itself_lies k b e j c f a s = rw (s.level, s.start) (record { level = omega arith; low = omega arith; high = omega arith; aligned = a })

pub from_lies : (numbers : List ℕ) (k : ℕ) → k ≤ 2 → (b e j c f : ℕ) → b % span k ≡ 0 → From numbers k b e j c f → Lies k b j c
unfolding From
from_lies numbers zero m b e j c f a s = itself_lies 0 b e j c f a s
from_lies numbers (suc k) m b e j c f a s =
    ⊎_elim (λ (y : Itself (suc k) b e j c f). itself_lies (suc k) b e j c f a y)
    (λ (y : (is_table (suc k) e ≡ true) × ((i : ℕ) × (i < 512) × From numbers k (place k b i) (entry_of numbers (base_of page_size e) i) j c f)).
    let i = y.1.0 in
    let g = region_is k m in
    let r = from_lies numbers k (omega arith) (place k b i) (entry_of numbers (base_of page_size e) i) j c f (part_aligned k b i (omega arith) (rw g a)) y.1.2 in
    record {
      level = omega (arith, r.level);
      low = omega (arith, r.low);
      high = omega (arith, r.high, entry_ends (span k) i 512 y.1.1);
      aligned = r.aligned;
    })
    s

pub top_aligned : (i : ℕ) → (i * 1073741824) % span 2 ≡ 0
unfolding span
top_aligned i = omega arith

-- no entry that is reached from another comes before it
pub none_before : (numbers : List ℕ) (k b e j c f : ℕ) → k ≤ 2 → b % span k ≡ 0 → From numbers k b e j c f → Before j c k b → ⊥
none_before numbers k b e j c f m a s h =
    let r = from_lies numbers k m b e j c f a s in
    ⊎_elim (λ (y : c < b). omega (arith, r.low)) (λ (y : (c ≡ b) × (k < j)). omega (arith, r.level, y.1)) h

-- ---- where an entry lies that is reached
pub record Stands (k b : ℕ) : Type 0 where
  pub level : k ≤ 2
  pub aligned : b % span k ≡ 0
  pub high : b < 4294967296

pub reached_lies : (numbers : List ℕ) (k b e : ℕ) → Reached numbers k b e → Stands k b
unfolding span
reached_lies numbers k b e r =
    let z = from_lies numbers 2 (omega arith) (r.top * 1073741824) (entry_of numbers 0 r.top) k b e (top_aligned r.top) r.from in
    record { level = z.level; aligned = z.aligned; high = omega (arith, z.high, r.few, span_some k) }
