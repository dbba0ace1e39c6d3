-- Why there is a free place for every entry that is accepted: a ledger that entries are made in has no more of them than pairs with a handler, and there are as many places as pairs.
use Rattle.std.specs.Prelude.{◌≡◌, refl, Bool, true, false, List, ℕ, ◌+◌, ◌*◌, ◌/◌, ◌%◌, ◌≤◌, ◌<◌, None, Option, Some}
use Rattle.std.proofs.Common.{sym, arith}
use Rattle.rules.specs.Sizes.{last_owner, last_kind, last_handler}
use Rattle.rules.specs.Choice.{yes_or_no}
use Rattle.tools.specs.Count.{count, count_more, count_short}
use Rattle.ledger.specs.Places.{Sized, empty, handler, used, recorded, empty_sized, empty_used, recorded_sized, recorded_used, recorded_keeps, recorded_in}

-- the pair has a handler
abbrev pub has : Option ℕ → Bool
has (Some number) = true
has None = false

unfoldable pub taken : List ℕ → ℕ → ℕ → Bool
taken t kind owner = has (handler t kind owner)

-- the same of the pairs in a row, the yielding ones first
unfoldable pub taken_pair : List ℕ → ℕ → Bool
taken_pair t i = taken t (i / 64) (i % 64)

-- a ledger that entries are made in: it has its places, and no more entries than pairs with a handler
pub record Proper (t : List ℕ) : Type 0 where
  pub sized : Sized t
  pub few : used t ≤ count (taken_pair t) 0 128

pub not_taken : (t : List ℕ) (kind owner : ℕ) → handler t kind owner ≡ None → taken t kind owner ≡ false
unfolding taken
not_taken t kind owner e = rw e

pub taken_not : (t : List ℕ) (kind owner : ℕ) → taken t kind owner ≡ false → handler t kind owner ≡ None
unfolding taken
taken_not t kind owner e = nobody (handler t kind owner) e
  where
    nobody : (found : Option ℕ) → has found ≡ false → found ≡ None
    nobody None e = refl
    nobody (Some number) e = absurd (yes_or_no true refl e)

is_pair : (t : List ℕ) (kind owner : ℕ) → kind ≤ last_kind → owner ≤ last_owner → taken_pair t (64 * kind + owner) ≡ taken t kind owner
unfolding taken_pair
is_pair t kind owner k o =
    let q : (64 * kind + owner) / 64 ≡ kind = omega arith in
    let r : (64 * kind + owner) % 64 ≡ owner = omega arith in
    rw (q, r)

pub empty_proper : Proper empty
empty_proper = record { sized = empty_sized; few = omega (arith, empty_used) }

-- where a pair is free, so is a place
pub room : (t : List ℕ) (kind owner : ℕ) → Proper t → kind ≤ last_kind → owner ≤ last_owner → handler t kind owner ≡ None → used t < 128
room t kind owner w k o e =
    omega (arith, w.few, count_short (taken_pair t) 0 128 (64 * kind + owner) (rw (is_pair t kind owner k o) (not_taken t kind owner e)) (omega arith) (omega arith))

-- an entry for free pairs takes a place, and a pair more
pub recorded_proper : (t : List ℕ) (first last kind number : ℕ) → Proper t → first ≤ last → last ≤ last_owner → kind ≤ last_kind → number ≤ last_handler
    → handler t kind first ≡ None → Proper (recorded t first last kind number)
unfolding taken taken_pair
recorded_proper t first last kind number w f l k n e =
    let h : used t < 128 = room t kind first w k (omega arith) e in
    let u = recorded t first last kind number in
    let gains = recorded_in t first last kind number w.sized h f l k n first (omega arith) f e in
    let more : count (taken_pair t) 0 128 < count (taken_pair u) 0 128 =
    count_more (taken_pair t) (taken_pair u) (λ i y. stays (i / 64) (i % 64) (handler t (i / 64) (i % 64)) refl y) 0 128 (64 * kind + first)
    (rw (is_pair t kind first k (omega arith)) (not_taken t kind first e)) (rw (is_pair u kind first k (omega arith)) (rw gains)) (omega arith) (omega arith) in
    record {
      sized = recorded_sized t first last kind number w.sized;
      few = omega (arith, w.few, recorded_used t first last kind number w.sized h);
    }
  where
    stays : (j o : ℕ) (found : Option ℕ) → handler t j o ≡ found → has found ≡ true → has (handler (recorded t first last kind number) j o) ≡ true
    stays j o (Some h) g y = rw (recorded_keeps t first last kind number j o h g)
    stays j o None g y = absurd (yes_or_no true refl (sym y))
