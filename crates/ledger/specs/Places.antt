-- How a ledger keeps the accepted entries: one behind the other, oldest first, and a free place behind the last of them. The layout is opened nowhere else: `handler` says what a ledger holds, `used` how many entries, and the laws what one entry more does to both.
use Rattle.std.specs.Prelude.{◌≡◌, Bool, true, false, ◌&&◌, ltb, leb, eqb, get_or, set, take, replicate, None, Option, Some}
use Rattle.std.proofs.Math.Path.{refl, sym}
use Rattle.std.proofs.Common.{ap, ◌∙◌, length-append, get_or-take, get_or-set_same}
use mathlib.Core.List.{List, [], ◌∷◌, ◌++◌}
use Prim.Native.Nat.{ℕ, zero, suc, ◌+◌, ◌-◌, ◌*◌, ◌/◌, ◌%◌, ◌≤◌, ◌<◌}
use Rattle.std.proofs.Math.Numerals.{add-one}
use native.Mathlib.Omega.{arith}
use Rattle.std.proofs.Math.ListN.{length, get_or-eq_default}
use Rattle.std.proofs.Math.Seq.{set_out}
use borrow.Author.Tests.{lt-ltb, le-ltb, eq-eqb, le-leb, ltb-true, ltb-false, eqb-true, leb-true, leb-false}
use Rattle.rules.specs.Sizes.{last_owner, last_kind, last_handler}
use Rattle.rules.specs.Choice.{pick, pick_yes, pick_no, either, both_true, left_true, right_true}
use Rattle.tools.specs.Store.{read, write, Whole, read_in, write_in, write_out, write_other, write_whole, blank_whole, blank_read}

-- the pair of type k and owner o is one of those that an entry names
unfoldable pub names : ℕ → ℕ → ℕ → ℕ → ℕ → Bool
names first last kind k o = eqb k kind && (leb first o && leb o last)

module _ (first last kind k o : ℕ) where
  pub named : names first last kind k o ≡ true → (k ≡ kind) × (first ≤ o) × (o ≤ last)
  unfolding names
  named e =
      let f = right_true (eqb k kind) _ e in
      (eqb-true _ _ (left_true _ _ e), leb-true _ _ (left_true _ _ f), leb-true _ _ (right_true (leb first o) _ f))

  pub naming : k ≡ kind → first ≤ o → o ≤ last → names first last kind k o ≡ true
  unfolding names
  naming e h l = both_true _ _ (eq-eqb _ _ e) (both_true _ _ (le-leb _ _ h) (le-leb _ _ l))

  unnamed : (k ≡ kind → first ≤ o → o ≤ last → ⊥) → names first last kind k o ≡ false
  unnamed apart = either (names first last kind k o) (λ y. let p = named y in absurd (apart p.0 p.1 p.2)) (λ n. n)

-- ---- an entry in two bytes
-- bit 15 is set, bit 14 the type, bits 13 to 8 the last owner, bits 7 and 6 the handler, bits 5 to 0 the first owner
entry : ℕ → ℕ → ℕ → ℕ → ℕ
entry first last kind number = 32768 + 16384 * kind + 256 * last + 64 * number + first

-- a place whose bit 15 is clear has no entry
free : ℕ → Bool
free e = ltb e 32768

-- the parts of an entry; its type and its last owner are the number of its last pair, the yielding ones first
abbrev last_pair : ℕ → ℕ
last_pair e = e / 256 % 128

abbrev kind_of : ℕ → ℕ
kind_of e = last_pair e / 64

abbrev last_of : ℕ → ℕ
last_of e = last_pair e % 64

abbrev number_of : ℕ → ℕ
number_of e = e / 64 % 4

abbrev first_of : ℕ → ℕ
first_of e = e % 64

-- the entry names the pair
pub meant : ℕ → ℕ → ℕ → Bool
meant e kind owner = names (first_of e) (last_of e) (kind_of e) kind owner

-- ---- the entries in their order
-- the entries that stand in the places from `at` on, of which there are `left`, up to the first free one
entries : List ℕ → ℕ → ℕ → List ℕ
entries t at zero = []
entries t at (suc left) = pick (free (read 128 t at)) [] (read 128 t at ∷ entries t (suc at) left)

-- the handler of the first entry that names the pair
serving : List ℕ → ℕ → ℕ → Option ℕ
serving [] kind owner = None
serving (e ∷ l) kind owner = pick (meant e kind owner) (Some (number_of e)) (serving l kind owner)

-- ---- a ledger
-- it has 128 places
pub Sized : List ℕ → Type 0
Sized t = Whole 128 t

-- a ledger with no entry
pub empty : List ℕ
empty = replicate 128 0

-- who takes the calls of a pair
pub handler : List ℕ → ℕ → ℕ → Option ℕ
handler t kind owner = serving (entries t 0 128) kind owner

-- how many places are in use
pub used : List ℕ → ℕ
used t = length (entries t 0 128)

-- an entry comes to the first free place, and the place behind it is free; where all are taken nothing changes
appended : List ℕ → ℕ → List ℕ
appended t e = write 128 (write 128 t (used t) e) (used t + 1) 0

-- the ledger with an entry more
pub recorded : List ℕ → ℕ → ℕ → ℕ → ℕ → List ℕ
recorded t first last kind number = appended t (entry first last kind number)

-- ---- for this crate's code: an entry's parts
pub blank : replicate 128 0 ≡ empty
unfolding empty
blank = refl

module _ (e kind owner : ℕ) where
  not_meant : (kind ≡ kind_of e → first_of e ≤ owner → owner ≤ last_of e → ⊥) → meant e kind owner ≡ false
  unfolding meant
  not_meant = unnamed (first_of e) (last_of e) (kind_of e) kind owner

  module _ (k : kind ≤ last_kind) (o : owner ≤ last_owner) where
    ends : e / 256 % 128 < kind * 64 + owner → false ≡ meant e kind owner
    ends h = sym (not_meant (λ z f l. omega arith))

    starts : kind * 64 + owner ≤ e / 256 % 128 → leb (kind_of e * 16384 + first_of e) (kind * 16384 + owner) ≡ meant e kind owner
    unfolding meant
    starts h =
        let pair = kind * 16384 + owner in
        let start = kind_of e * 16384 + first_of e in
        either (leb start pair)
        (λ y.
        let s : start ≤ pair = leb-true start pair y in
        y ∙ sym (naming (first_of e) (last_of e) (kind_of e) kind owner (omega arith) (omega arith) (omega arith)))
        (λ n. n ∙ sym (not_meant (λ z f l. omega (arith, leb-false start pair n))))

    -- an entry in use ends before a pair exactly where it is below the least that ends with the pair
    module _ (inUse : 32768 ≤ e) (fits : e < 65536) where
      pub ends_before : e < 32768 + (kind * 64 + owner) * 256 → false ≡ meant e kind owner
      ends_before h = ends (omega arith)

      pub starts_before : 32768 + (kind * 64 + owner) * 256 ≤ e → leb (e / 16384 % 2 * 16384 + e % 64) (kind * 16384 + owner) ≡ meant e kind owner
      starts_before h = let type : e / 16384 % 2 ≡ kind_of e = omega arith in rw type (starts (omega arith))

pub ruleset meanings = (ends_before, starts_before)

-- no entry names a pair that is none
module _ (t : List ℕ) (kind owner : ℕ) where
  unmeant : ((e : ℕ) → meant e kind owner ≡ false) → (l : List ℕ) → serving l kind owner ≡ None
  unfolding serving
  unmeant none [] = refl
  unmeant none (e ∷ l) = pick_no _ _ _ (none e) ∙ unmeant none l

  pub no_kind : last_kind < kind → None ≡ handler t kind owner
  unfolding handler
  no_kind h = sym (unmeant (λ e. not_meant e kind owner (λ z f l. omega arith)) (entries t 0 128))

  pub no_owner : last_owner < owner → None ≡ handler t kind owner
  unfolding handler
  no_owner h = sym (unmeant (λ e. not_meant e kind owner (λ z f l. omega arith)) (entries t 0 128))

-- ---- and the walk over the places
-- what the walk still finds, and how many entries there still are
pub onward : List ℕ → ℕ → ℕ → ℕ → ℕ → Option ℕ
onward t kind owner at left = serving (entries t at left) kind owner

pub counted : List ℕ → ℕ → ℕ → ℕ
counted t at left = at + length (entries t at left)

no_places : (t : List ℕ) (at left : ℕ) → left ≤ 0 → entries t at left ≡ []
unfolding entries
no_places t at left h = let z : left ≡ 0 = omega arith in rw z

module _ (t : List ℕ) (at left e : ℕ) (is : e ≡ get_or t at 0) (all : at + left ≡ 128) (some : 0 < left) where
  a_place : entries t at left ≡ pick (free e) [] (e ∷ entries t (at + 1) (left - 1))
  unfolding entries
  a_place = from left all some
    where
      from : (n : ℕ) → at + n ≡ 128 → 0 < n → entries t at n ≡ pick (free e) [] (e ∷ entries t (at + 1) (n - 1))
      from zero f h = absurd (omega arith)
      from (suc n) f h =
          let q : suc n - 1 ≡ n = omega arith in
          let r : read 128 t at ≡ e = sym (is ∙ read_in 128 t at (omega arith)) in
          rw (q, add-one, r)

  free_place : e < 32768 → entries t at left ≡ []
  unfolding free
  free_place h = a_place ∙ pick_yes _ _ _ (lt-ltb e 32768 h)

  entry_place : 32768 ≤ e → entries t at left ≡ e ∷ entries t (at + 1) (left - 1)
  unfolding free
  entry_place h = a_place ∙ pick_no _ _ _ (le-ltb e 32768 h)

-- `k` being what the whole walk finds
module _ (t : List ℕ) (kind owner at left : ℕ) (k : Option ℕ) (still : k ≡ onward t kind owner at left) where
  pub walk_ends : left ≤ 0 → None ≡ k
  unfolding onward serving
  walk_ends h = sym (still ∙ rw (no_places t at left h))

  module _ (e : ℕ) (is : e ≡ get_or t at 0) (all : at + left ≡ 128) (some : 0 < left) where
    pub walk_free : e < 32768 → None ≡ k
    unfolding onward serving
    walk_free h = sym (still ∙ rw (free_place t at left e is all some h))

    pub walk_found : 32768 ≤ e → meant e kind owner ≡ true → Some (e / 64 % 4) ≡ k
    unfolding onward serving
    walk_found h m = sym (still ∙ rw (entry_place t at left e is all some h) (pick_yes _ _ _ m))

module _ (t : List ℕ) (kind owner at : ℕ) (k : Option ℕ) (still : k ≡ onward t kind owner at (128 - at)) (e : ℕ) (is : e ≡ get_or t at 0) (some : at < 128) where
  pub walk_goes : 32768 ≤ e → meant e kind owner ≡ false → k ≡ onward t kind owner (at + 1) (128 - (at + 1))
  unfolding onward serving
  walk_goes h m =
      let q : 128 - (at + 1) ≡ 128 - at - 1 = omega arith in
      still ∙ rw (entry_place t at (128 - at) e is (omega arith) (omega arith) h, q) (pick_no _ _ _ m)

pub walk_starts : (t : List ℕ) (kind owner : ℕ) → handler t kind owner ≡ onward t kind owner 0 128
unfolding handler onward
walk_starts t kind owner = refl

pub ruleset walking = (no_kind, no_owner, walk_starts, walk_ends, walk_free, walk_found, walk_goes)

-- `k` being how many entries there are
module _ (t : List ℕ) (at left k : ℕ) (still : k ≡ counted t at left) where
  pub count_ends : left ≤ 0 → at ≡ k
  unfolding counted
  count_ends h = let z : length (entries t at left) ≡ 0 = rw (no_places t at left h) in omega arith

  module _ (e : ℕ) (is : e ≡ get_or t at 0) (all : at + left ≡ 128) (some : 0 < left) where
    pub count_free : e < 32768 → at ≡ k
    unfolding counted
    count_free h = let z : length (entries t at left) ≡ 0 = rw (free_place t at left e is all some h) in omega arith

module _ (t : List ℕ) (at k : ℕ) (still : k ≡ counted t at (128 - at)) (e : ℕ) (is : e ≡ get_or t at 0) (some : at < 128) where
  pub count_goes : 32768 ≤ e → k ≡ counted t (at + 1) (128 - (at + 1))
  unfolding counted
  count_goes h =
      let q : 128 - (at + 1) ≡ 128 - at - 1 = omega arith in
      let z : length (entries t at (128 - at)) ≡ suc (length (entries t (at + 1) (128 - at - 1))) = rw (entry_place t at (128 - at) e is (omega arith) (omega arith) h) in
      rw q (omega arith)

pub count_starts : (t : List ℕ) → used t ≡ counted t 0 128
unfolding used counted
count_starts t = omega arith

pub ruleset counting = (count_starts, count_ends, count_free, count_goes)

-- ---- and an entry that comes to the first free place, `n` being how many there are in use
module _ (t : List ℕ) (first last kind number n : ℕ) (is : n ≡ used t) where
  abbrev came : List ℕ
  came = set t n (32768 + 16384 * kind + 256 * last + 64 * number + first)

  pub record_full : 128 ≤ n → t ≡ recorded t first last kind number
  unfolding recorded appended
  record_full h = rw (← is, ← write_out 128 t n (entry first last kind number) h) (write_out 128 t (n + 1) 0 (omega arith))

  pub record_last : n < 128 → 128 ≤ n + 1 → came ≡ recorded t first last kind number
  unfolding recorded appended entry
  record_last h l = rw (← is, ← write_in 128 t n (entry first last kind number) h) (write_out 128 came (n + 1) 0 l)

  pub record_more : n < 128 → n + 1 < 128 → set came (n + 1) 0 ≡ recorded t first last kind number
  unfolding recorded appended entry
  record_more h l = rw (← is, ← write_in 128 t n (entry first last kind number) h) (write_in 128 came (n + 1) 0 l)

pub ruleset recording = (record_full, record_last, record_more)

-- ---- a place after a write
module _ (t : List ℕ) (i v : ℕ) (h : i < 128) where
  written : i < length t → read 128 (write 128 t i v) i ≡ v
  written l = rw (← write_in 128 t i v h, ← read_in 128 (set t i v) i h) (get_or-set_same t i v 0 l)

  not_written : length t ≤ i → write 128 t i v ≡ t
  not_written l = sym (write_in 128 t i v h) ∙ set_out t i v l

cleared : (t : List ℕ) (i : ℕ) → i < 128 → read 128 (write 128 t i 0) i ≡ 0
cleared t i h =
    either (ltb i (length t)) (λ y. written t i 0 h (ltb-true i (length t) y))
    (λ n. let l = ltb-false i (length t) n in rw (not_written t i 0 h l, ← read_in 128 t i h) (get_or-eq_default t 0 l))

-- ---- the entries of a ledger with an entry more
module _ (t : List ℕ) (at left : ℕ) where
  at_free : free (read 128 t at) ≡ true → entries t at (suc left) ≡ []
  unfolding entries
  at_free y = pick_yes _ _ _ y

  at_entry : free (read 128 t at) ≡ false → entries t at (suc left) ≡ read 128 t at ∷ entries t (suc at) left
  unfolding entries
  at_entry n = pick_no _ _ _ n

module _ (t : List ℕ) (e : ℕ) (busy : free e ≡ false) (room : used t < 128) (inside : used t < length t) where
  -- the new entry, what stands behind it, and the old ones
  at_end : read 128 (appended t e) (used t) ≡ e
  unfolding appended
  at_end = write_other 128 (write 128 t (used t) e) (used t + 1) 0 (used t) (λ z. omega arith) ∙ written t (used t) e room inside

  behind_end : used t + 1 < 128 → read 128 (appended t e) (used t + 1) ≡ 0
  unfolding appended
  behind_end h = cleared (write 128 t (used t) e) (used t + 1) h

  before_end : (i : ℕ) → i < used t → read 128 (appended t e) i ≡ read 128 t i
  unfolding appended
  before_end i h =
      write_other 128 (write 128 t (used t) e) (used t + 1) 0 i (λ z. omega arith) ∙ write_other 128 t (used t) e i (λ z. omega arith)

  none_behind : (left : ℕ) → used t + 1 + left ≡ 128 → entries (appended t e) (suc (used t)) left ≡ []
  unfolding free
  none_behind zero f = no_places (appended t e) (suc (used t)) 0 (omega arith)
  none_behind (suc left) f = at_free (appended t e) (suc (used t)) left (rw (← add-one (used t), behind_end (omega arith)))

  grown : (left at : ℕ) → at + left ≡ 128 → at + length (entries t at left) ≡ used t → entries (appended t e) at left ≡ entries t at left ++ (e ∷ [])
  grown zero at f g = absurd (omega arith)
  grown (suc left) at f g =
      either (free (read 128 t at))
      (λ y.
      let n : length (entries t at (suc left)) ≡ 0 = rw (at_free t at left y) in
      let z : at ≡ used t = omega arith in
      let r : read 128 (appended t e) at ≡ e = rw z at_end in
      at_entry (appended t e) at left (rw r busy) ∙ rw (r, at_free t at left y, z) (ap (λ (l : List ℕ). e ∷ l) (none_behind left (omega arith))))
      (λ n.
      let m : length (entries t at (suc left)) ≡ suc (length (entries t (suc at) left)) = rw (at_entry t at left n) in
      let r : read 128 (appended t e) at ≡ read 128 t at = before_end at (omega arith) in
      at_entry (appended t e) at left (rw r n) ∙ rw (r, at_entry t at left n) (ap (λ (l : List ℕ). read 128 t at ∷ l) (grown left (suc at) (omega arith) (omega arith))))

  one_more : entries (appended t e) 0 128 ≡ entries t 0 128 ++ (e ∷ [])
  unfolding used
  one_more = grown 128 0 refl (omega arith)

-- ---- an entry's parts, and what it serves behind others
low_part : (q r : ℕ) → r < 64 → (64 * q + r) % 64 ≡ r
low_part q r h = omega arith

module _ (first last kind number : ℕ) where
  entry_busy : free (entry first last kind number) ≡ false
  unfolding free entry
  entry_busy = le-ltb (entry first last kind number) 32768 (omega arith)

  module _ (f : first ≤ last) (l : last ≤ last_owner) (k : kind ≤ last_kind) (n : number ≤ last_handler) where
    entry_number : number_of (entry first last kind number) ≡ number
    unfolding entry
    entry_number = omega arith

    entry_means : (j o : ℕ) → meant (entry first last kind number) j o ≡ names first last kind j o
    unfolding meant entry
    entry_means j o =
        let e = entry first last kind number in
        let whole : e ≡ 64 * (512 + 256 * kind + 4 * last + number) + first = omega arith in
        let high : e / 256 ≡ 128 + (64 * kind + last) = omega arith in
        let pair : last_pair e ≡ 64 * kind + last = rw high (omega arith) in
        let a : first_of e ≡ first = rw whole (low_part (512 + 256 * kind + 4 * last + number) first (omega arith)) in
        let b : last_of e ≡ last = rw pair (low_part kind last (omega arith)) in
        let c : kind_of e ≡ kind = rw pair (omega arith) in
        cc

or_else : Option ℕ → Option ℕ → Option ℕ
or_else (Some number) found = Some number
or_else None found = found

serving_behind : (l : List ℕ) (e kind owner : ℕ) → serving (l ++ (e ∷ [])) kind owner ≡ or_else (serving l kind owner) (pick (meant e kind owner) (Some (number_of e)) None)
unfolding serving or_else pick
serving_behind [] e kind owner = refl
serving_behind (d ∷ l) e kind owner = either (meant d kind owner) (λ y. rw y) (λ n. rw n (serving_behind l e kind owner))

-- ---- all that other files need to know of the layout
pub empty_sized : Sized empty
unfolding Sized empty
empty_sized = blank_whole 128 0

no_entries : entries empty 0 128 ≡ []
unfolding empty free
no_entries = at_free (replicate 128 0) 0 127 (rw (blank_read 128 0 0 (omega arith)))

pub empty_used : used empty ≡ 0
unfolding used
empty_used = rw no_entries

pub empty_handler : (kind owner : ℕ) → handler empty kind owner ≡ None
unfolding handler serving
empty_handler kind owner = rw no_entries

module _ (t : List ℕ) (first last kind number : ℕ) where
  pub recorded_sized : Sized t → Sized (recorded t first last kind number)
  unfolding Sized recorded appended
  recorded_sized w = write_whole 128 _ (used t + 1) 0 (write_whole 128 t (used t) (entry first last kind number) w)

  -- there is an entry more, or nothing changes
  more_or_same : (P : List ℕ → Type 0) → P (entries t 0 128 ++ (entry first last kind number ∷ [])) → P (entries t 0 128) → P (entries (recorded t first last kind number) 0 128)
  unfolding recorded appended
  more_or_same P more same =
      either (ltb (used t) 128)
      (λ y.
      let h = ltb-true (used t) 128 y in
      either (ltb (used t) (length t))
      (λ z. rw (one_more t (entry first last kind number) (entry_busy first last kind number) h (ltb-true (used t) (length t) z)) more)
      (λ z.
      let l = ltb-false (used t) (length t) z in
      kept (not_written t (used t) (entry first last kind number) h l)
      (either (ltb (used t + 1) 128) (λ a. not_written t (used t + 1) 0 (ltb-true (used t + 1) 128 a) (omega arith)) (λ a. sym (write_out 128 t (used t + 1) 0 (ltb-false (used t + 1) 128 a))))))
      (λ n.
      let h = ltb-false (used t) 128 n in
      kept (sym (write_out 128 t (used t) (entry first last kind number) h)) (sym (write_out 128 t (used t + 1) 0 (omega arith))))
    where
      kept : write 128 t (used t) (entry first last kind number) ≡ t → write 128 t (used t + 1) 0 ≡ t → P (entries (appended t (entry first last kind number)) 0 128)
      kept a b = rw (a, b) same

  -- a pair that has a handler keeps it
  pub recorded_keeps : (k o h : ℕ) → handler t k o ≡ Some h → handler (recorded t first last kind number) k o ≡ Some h
  unfolding handler or_else
  recorded_keeps k o h e = more_or_same (λ (l : List ℕ). serving l k o ≡ Some h) (rw (serving_behind, e)) e

  module _ (f : first ≤ last) (l : last ≤ last_owner) (j : kind ≤ last_kind) (n : number ≤ last_handler) where
    -- and a pair that the entry does not name has what it had
    pub recorded_out : (k o : ℕ) → (k ≡ kind → first ≤ o → o ≤ last → ⊥) → handler (recorded t first last kind number) k o ≡ handler t k o
    unfolding handler or_else
    recorded_out k o apart =
        more_or_same (λ (m : List ℕ). serving m k o ≡ serving (entries t 0 128) k o)
        (rw (serving_behind, entry_means first last kind number f l j n k o, unnamed first last kind k o apart, pick_no false) (alone (serving (entries t 0 128) k o))) refl
      where
        alone : (found : Option ℕ) → or_else found None ≡ found
        alone (Some h) = refl
        alone None = refl

  -- where a place is free there is an entry more
  module _ (w : Sized t) (room : used t < 128) where
    gained : entries (recorded t first last kind number) 0 128 ≡ entries t 0 128 ++ (entry first last kind number ∷ [])
    unfolding Sized Whole recorded
    gained = one_more t (entry first last kind number) (entry_busy first last kind number) room (omega arith)

    pub recorded_used : used (recorded t first last kind number) ≡ used t + 1
    unfolding used
    recorded_used = rw gained (length-append (entries t 0 128) (entry first last kind number ∷ []))

    -- and a pair that it names and nobody had has its handler
    pub recorded_in : first ≤ last → last ≤ last_owner → kind ≤ last_kind → number ≤ last_handler → (owner : ℕ) → first ≤ owner → owner ≤ last
        → handler t kind owner ≡ None → handler (recorded t first last kind number) kind owner ≡ Some number
    unfolding handler or_else
    recorded_in f l j n owner h g e =
        rw (gained, serving_behind, e, entry_means first last kind number f l j n kind owner, naming first last kind kind owner refl h g, pick_yes true) (ap Some (entry_number first last kind number f l j n))

-- ---- what the lookup does not look at
-- `u` has the entries of `t` and the free place that ends them: the first used t + 1 places, or all of them where none is free
module _ (t u : List ℕ) (alike : take (used t + 1) u ≡ take (used t + 1) t) where
  alike_at : (i : ℕ) → i ≤ used t → i < 128 → read 128 u i ≡ read 128 t i
  alike_at i h l =
      rw (← read_in 128 u i l, ← read_in 128 t i l, ← get_or-take (used t + 1) u i 0 (omega arith), ← get_or-take (used t + 1) t i 0 (omega arith), alike)

  same_entries : (left at : ℕ) → at + left ≡ 128 → at + length (entries t at left) ≡ used t → entries u at left ≡ entries t at left
  same_entries zero at f g = no_places u at 0 (omega arith) ∙ sym (no_places t at 0 (omega arith))
  same_entries (suc left) at f g =
      let r = alike_at at (omega arith) (omega arith) in
      either (free (read 128 t at)) (λ y. at_free u at left (rw r y) ∙ sym (at_free t at left y))
      (λ n.
      let m : length (entries t at (suc left)) ≡ suc (length (entries t (suc at) left)) = rw (at_entry t at left n) in
      at_entry u at left (rw r n) ∙ rw (r, same_entries left (suc at) (omega arith) (omega arith)) (sym (at_entry t at left n)))

  all_same : entries u 0 128 ≡ entries t 0 128
  unfolding used
  all_same = same_entries 128 0 refl (omega arith)

  -- so it finds what `t` has, whatever stands behind that place,
  pub rest_unread : (kind owner : ℕ) → handler u kind owner ≡ handler t kind owner
  unfolding handler
  rest_unread kind owner = rw all_same

  -- and as many entries
  pub rest_uncounted : used u ≡ used t
  unfolding used
  rest_uncounted = rw all_same
