-- What the code asks of a place, and what the place answers: the tests of Mapping, asked only of a place that is held.
use Rattle.std.specs.Prelude.{Bool, true, false, eqb, ◌≡◌, ℕ}
use Rattle.std.proofs.Math.Path.{refl}
use Rattle.std.proofs.Common.{eq-eqb, ne_eqb}
use Rattle.rules.specs.Choice.{pick, picked, passed}
use Rattle.ranges.specs.Ranges.{meet}
use Rattle.ranges.specs.Mapping.{exact, on_range, on_pages, touches, clashes}
use Rattle.ranges.specs.declared.Mapping.{Mapping}
use Rattle.ranges.specs.declared.Question.{Question}
use Rattle.ranges.specs.declared.Question.TheVariants.{Free, Exact, OnPages, OnRange, Touches}

abbrev pub is_free : Mapping → Bool
is_free m = eqb m.size 0

unfoldable pub asks_free : Question → Bool
asks_free Free = true
asks_free (Exact v s) = false
asks_free (OnPages start count) = false
asks_free (OnRange start size) = false
asks_free (Touches start size) = false

unfoldable pub asks : Question → Mapping → Bool
asks Free m = false
asks (Exact v s) m = exact v s m
asks (OnPages start count) m = on_pages start count m
asks (OnRange start size) m = on_range start size m
asks (Touches start size) m = touches start size m

unfoldable pub answers : Question → Mapping → Bool
answers q m = pick (is_free m) (asks_free q) (asks q m)

-- ---- how the code's arms meet these
module _ (q : Question) (m : Mapping) (r : Bool) where
  pub answers_free : m.size ≡ 0 → r ≡ asks_free q → r ≡ answers q m
  unfolding answers
  answers_free h e = picked _ _ _ _ (eq-eqb _ _ h) e

  pub answers_held : (m.size ≡ 0 → ⊥) → r ≡ asks q m → r ≡ answers q m
  unfolding answers
  answers_held h e = passed _ _ _ _ (ne_eqb _ _ h) e

-- the question that an arm of the code knows
module _ (q : Question) (m : Mapping) (r : Bool) where
  pub asks_free_lem : q ≡ Free → r ≡ false → r ≡ asks q m
  unfolding asks
  asks_free_lem e h = rw e h

  pub asks_exact : (v s : ℕ) → q ≡ Exact v s → r ≡ exact v s m → r ≡ asks q m
  unfolding asks
  asks_exact v s e h = rw e h

  pub asks_pages : (start count : ℕ) → q ≡ OnPages start count → r ≡ on_pages start count m → r ≡ asks q m
  unfolding asks
  asks_pages start count e h = rw e h

  pub asks_range : (start size : ℕ) → q ≡ OnRange start size → r ≡ meet start size m.phys m.size → r ≡ asks q m
  unfolding asks
  asks_range start size e h = rw e h

  pub asks_touches : (start size : ℕ) → q ≡ Touches start size → r ≡ meet start size m.virt m.size → r ≡ asks q m
  unfolding asks
  asks_touches start size e h = rw e h

pub ruleset asking = (asks_free_lem, asks_exact, asks_pages, asks_range, asks_touches)

-- ---- a place that is held, and that a new mapping may not stand beside
unfoldable pub clashing : Mapping → Mapping → Bool
clashing n m = pick (is_free m) false (clashes n m)

module _ (n m : Mapping) where
  pub clashing_free : m.size ≡ 0 → false ≡ clashing n m
  unfolding clashing
  clashing_free h = picked _ _ _ _ (eq-eqb _ _ h) refl

  pub clashing_held : (r : Bool) → (m.size ≡ 0 → ⊥) → r ≡ clashes n m → r ≡ clashing n m
  unfolding clashing
  clashing_held r h e = passed _ _ _ _ (ne_eqb _ _ h) e

pub ruleset clashings = (clashing_free, clashing_held)
