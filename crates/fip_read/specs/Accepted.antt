-- What holds of every package that is accepted, and what a read of any package shows. The statements come first, the theorems last.
use Rattle.std.specs.Prelude.{◌≡◌, refl, Bool, false, not, ◌||◌, List, [], ◌∷◌, ◌⊎◌, ℕ, ◌+◌, ◌-◌, ◌*◌, ◌≤◌, ◌<◌, ltb, eqb, length, get_or, ⊤, Result, Ok, Err}
use Rattle.std.specs.Result.{result_and}
use Rattle.std.proofs.Math.Path.{sym, ap}
use Rattle.std.proofs.Common.{◌∙◌, inl, inr, ⊎_elim, arith, lit≤, length-drop}
use Rattle.std.proofs.Math.Bool.{true}
use borrow.Author.Tests.{ltb-true, ltb-false, lt-ltb, le-ltb, eqb-true, eqb-false, not-false}
use Rattle.rules.specs.Choice.{chosen, either, yes_or_no, neither, not_first, not_second}
use Rattle.rules.specs.Tests.{refuses, sieve, Clear}
use Rattle.tools.specs.Search.{first_is}
use Rattle.fip_entries.specs.declared.Fault.{Fault}
use Rattle.fip_entries.specs.Faults.{number_of, status_of, number_low, accepted_clear, clear_accepted, both_accept}
use Rattle.fip_entries.specs.declared.Fault.TheVariants.{NoImage}
use Rattle.fip_entries.specs.Numbers.{four}
use Rattle.fip_entries.specs.Entries.{entry, offset, size, same, zeros, same_bytes, bytes_same, zeros_byte, Apart, shares_apart, apart_shares}
use Rattle.fip_table.specs.Table.{blank, twins, doubled, strays, table_end, crowded, slots, count, unended, ended, holds, sought}
use Rattle.fip_table.specs.Meaning.{blank_zero, zero_blank, single_one, one_single, all_inside, inside_all, all_clear, clear_all, slots_most, slots_room, slots_have, firstly_one, count_is, count_room}
use Rattle.fip_read.specs.Reading.{wrong_length, wrong_header, behind, entries, faults, judged, doubts, placed, located, part_of}
use Rattle.fip_read.specs.Reading.{length_least, length_most, right_header, refused_part, ok_is}
use Rattle.fip_read.specs.declared.Part.{Part}

-- ---- the statements
-- byte b of the identifier of entry k
abbrev pub id_byte : List ℕ → ℕ → ℕ → ℕ
id_byte s k b = get_or (behind s) (entry k + b) 0

-- where image k begins, and how many bytes it has
abbrev pub start : List ℕ → ℕ → ℕ
start s k = offset (behind s) k

abbrev pub bytes : List ℕ → ℕ → ℕ
bytes s k = size (behind s) k

-- A sound package, with n entries before its end entry.
pub record Sound (s : List ℕ) (n : ℕ) : Type 0 where
  -- It is at least 16 bytes long.
  pub least : 16 ≤ length s
  -- It is at most 65536 bytes long.
  pub most : length s ≤ 65536
  -- Its header begins with the name.
  pub name : four s 0 ≡ 0xaa640001
  -- Its serial number is not 0.
  pub serial : four s 4 ≡ 0 → ⊥
  -- At most 64 entries stand before the end entry.
  pub few : n ≤ 64
  -- The header, those entries and the whole end entry lie inside.
  pub whole : 16 + 40 * n + 40 ≤ length s
  -- The identifier of the end entry is all zero.
  pub ended : (b : ℕ) → b < 16 → id_byte s n b ≡ 0
  -- That of no entry before it is.
  pub earlier : (k : ℕ) → k < n → ((b : ℕ) → b < 16 → id_byte s k b ≡ 0) → ⊥
  -- No two entries have the same identifier.
  pub single : (i j : ℕ) → i < n → j < n → (i ≡ j → ⊥) → ((b : ℕ) → b < 16 → id_byte s i b ≡ id_byte s j b) → ⊥
  -- Each image lies inside.
  pub inside : (k : ℕ) → k < n → start s k + bytes s k ≤ length s
  -- Each image that has bytes begins at or behind the end of the table.
  pub clear : (k : ℕ) → k < n → (bytes s k ≡ 0 → ⊥) → 16 + 40 * n + 40 ≤ start s k
  -- Two images that have bytes share none: one ends at or before where the other begins.
  pub apart : (i j : ℕ) → i < n → j < n → (i ≡ j → ⊥) → (bytes s i ≡ 0 → ⊥) → (bytes s j ≡ 0 → ⊥)
      → (start s i + bytes s i ≤ start s j) ⊎ (start s j + bytes s j ≤ start s i)

-- The image of an identifier, l bytes from a on.
pub record Held (s id : List ℕ) (a l : ℕ) : Type 0 where
  -- The package is sound.
  pub sound : Sound s (entries s)
  -- The image is that of one of its entries.
  pub at : ℕ
  pub known : at < entries s
  -- That entry has the identifier.
  pub asked : (b : ℕ) → b < 16 → id_byte s at b ≡ get_or id b 0
  -- It says where the image begins and how many bytes it has.
  pub begins : start s at ≡ a
  pub long : bytes s at ≡ l
  -- The image lies inside the package.
  pub within : a + l ≤ length s

-- The number of a refusal: 81 to 86 hex.
abbrev pub Reason : ℕ → Type 0
Reason v = (0x81 ≤ v) × (v ≤ 0x86)

-- A status: 0, or such a number.
abbrev pub Status : ℕ → Type 0
Status v = (v ≡ 0) ⊎ Reason v

-- An answer that is a refusal has such a number, so that a status of 0 is that of an image that was found.
unfoldable pub Told : Result Part Fault → Type 0
Told (Ok p) = Unit {0}
Told (Err f) = Reason (number_of f)

-- ---- an accepted package has passed every test
record Passed (s : List ℕ) (n : ℕ) : Type 0 where
  long : wrong_length (length s) ≡ false
  headed : wrong_header s ≡ false
  ended : unended (behind s) ≡ false
  single : doubled (behind s) n ≡ false
  inside : strays (behind s) (length s) n ≡ false
  clear : crowded (behind s) n ≡ false

judged_passed : (s : List ℕ) → judged s ≡ Ok tt → Passed s (entries s)
unfolding judged faults Clear
judged_passed s e =
    let t = behind s in
    let n = entries s in
    let c = (accepted_clear (faults s t n) tt tt e).0 in
    let place = c.1.1.1.1.0 in
    record {
      long = c.0;
      headed = c.1.0;
      ended = c.1.1.0;
      single = c.1.1.1.0;
      inside = not_first _ _ place;
      clear = not_second (strays t (length s) n) _ place;
    }

passed_judged : (s : List ℕ) → Passed s (entries s) → judged s ≡ Ok tt
unfolding judged faults Clear
passed_judged s p =
    sym (clear_accepted (faults s (behind s) (entries s)) tt (p.long, (p.headed, (p.ended, (p.single, (neither _ _ p.inside p.clear, tt))))))

-- ---- what it passed makes it sound
right_name : (s : List ℕ) → wrong_header s ≡ false → four s 0 ≡ 0xaa640001
unfolding wrong_header
right_name s e = eqb-true (four s 0) 0xaa640001 (not-false _ (not_first (not (eqb (four s 0) 0xaa640001)) _ e))

right_serial : (s : List ℕ) → wrong_header s ≡ false → four s 4 ≡ 0 → ⊥
unfolding wrong_header
right_serial s e = eqb-false (four s 4) 0 (not_second (not (eqb (four s 0) 0xaa640001)) _ e)

-- what holds of a later and an earlier entry, and then also the other way round, holds of any two
by_order : (P : ℕ → ℕ → Type 0) → ((i j : ℕ) → j < i → P i j) → ((i j : ℕ) → P j i → P i j) → (i j : ℕ) → (i ≡ j → ⊥) → P i j
by_order P f g i j d =
    either (ltb j i) (λ y. f i j (ltb-true j i y))
    (λ y. let h = ltb-false j i y in g i j (f j i (let z : i < j = omega arith in z)))

passed_sound : (s : List ℕ) → Passed s (entries s) → Sound s (entries s)
unfolding twins table_end
passed_sound s p =
    let t = behind s in
    let n = entries s in
    let f = count_is t in
    let h = count_room t p.ended in
    let m = slots_most (length t) in
    let r = slots_room (length t) in
    let d : length t ≡ length s - 16 = length-drop 16 s in
    let l = length_least (length s) p.long in
    record {
      least = l;
      most = length_most (length s) p.long;
      name = right_name s p.headed;
      serial = right_serial s p.headed;
      few = omega arith;
      whole = omega arith;
      ended = blank_zero t n (f.passes (omega arith));
      earlier = λ k a z. yes_or_no (blank t k) (zero_blank t k z) (f.before k (omega arith) a);
      single = λ i j a b q z. by_order (λ (i j : ℕ). i < n → j < n → ((b : ℕ) → b < 16 → id_byte s i b ≡ id_byte s j b) → ⊥)
          (λ i j g a b z. yes_or_no (twins t i j) (bytes_same t (entry j) t (entry i) (λ k y. sym (z k y))) (single_one t n p.single i j a g))
          (λ i j g a b z. g b a (λ k y. sym (z k y))) i j q a b z;
      inside = all_inside t (length s) n p.inside;
      clear = λ k a z. let g = (all_clear t n p.clear k a z).0 in omega arith;
      apart = λ i j a b q y z. by_order (λ (i j : ℕ). i < n → j < n → (bytes s i ≡ 0 → ⊥) → (bytes s j ≡ 0 → ⊥) → Apart t i j)
          (λ i j g a b y z. shares_apart t i j ((all_clear t n p.clear i a y).1 j g) z)
          (λ i j g a b y z. ⊎_elim (λ (u : start s j + bytes s j ≤ start s i). inr u) (λ (u : start s i + bytes s i ≤ start s j). inl u) (g b a z y)) i j q a b y z;
    }

-- ---- and a sound one passes every test
false_unless : (b : Bool) → (b ≡ true → ⊥) → b ≡ false
false_unless b f = either b (λ y. absurd (f y)) (λ y. y)

-- its end entry is the one that the count finds
counted : (s : List ℕ) (n : ℕ) → Sound s n → n ≡ entries s
counted s n g =
    let t = behind s in
    let d : length t ≡ length s - 16 = length-drop 16 s in
    let l : n < slots (length t) = slots_have (length t) n (omega (arith, g.few)) (omega (arith, g.whole)) in
    firstly_one (blank t) 0 (slots (length t)) n (count t)
    (record {
      low = omega arith;
      high = omega arith;
      before = λ k a b. false_unless (blank t k) (λ y. g.earlier k b (blank_zero t k y));
      passes = λ a. zero_blank t n g.ended;
    }) (count_is t)

sound_passed : (s : List ℕ) → Sound s (entries s) → Passed s (entries s)
unfolding wrong_length twins table_end
sound_passed s g =
    let t = behind s in
    let n = entries s in
    let d : length t ≡ length s - 16 = length-drop 16 s in
    record {
      long = neither _ _ (le-ltb (length s) 16 g.least) (le-ltb 65536 (length s) g.most);
      headed = sym (right_header s g.name g.serial);
      ended = sym (ended t (slots_have (length t) n (omega (arith, g.few)) (omega (arith, g.whole))));
      single = one_single t n (λ i j a b. false_unless (twins t i j) (λ y. g.single i j a (omega arith) (λ e. omega arith) (λ k l. sym (same_bytes t (entry j) t (entry i) y k l))));
      inside = inside_all t (length s) n g.inside;
      clear = clear_all t n (λ i a z. (omega (arith, g.clear i a z), λ j b. apart_shares t i j (λ y. g.apart i j a (omega arith) (λ e. omega arith) z y)));
    }

-- ---- the theorems: a package
-- Every package that is accepted is sound.
pub accepted : (s : List ℕ) → judged s ≡ Ok tt → Sound s (entries s)
accepted s e = passed_sound s (judged_passed s e)

-- Every sound package is accepted, so these are exactly the conditions; and it has as many entries as it is said to have.
pub sound_accepted : (s : List ℕ) (n : ℕ) → Sound s n → (judged s ≡ Ok tt) × (n ≡ entries s)
sound_accepted s n g = let e = counted s n g in (passed_judged s (sound_passed s (rw e at g)), e)

-- It has a whole header.
pub accepted_least : (s : List ℕ) → Ok tt ≡ judged s → 16 ≤ length s
accepted_least s e = (accepted s (sym e)).least

-- The table of an accepted package lies inside it, as the code has it in hand.
pub table_inside : (s t : List ℕ) (n : ℕ) → t ≡ behind s → n ≡ count t → Ok tt ≡ judged s → 16 + 40 * n ≤ length s
table_inside s t n is-t is-n e = let h : 16 + 40 * entries s + 40 ≤ length s = (accepted s (sym e)).whole in rw (is-n, is-t) (omega arith)

-- ---- the theorems: one image
-- What is found is the image of the identifier asked for, and lies inside the package.
pub found : (s id : List ℕ) (a l : ℕ) → located s id ≡ Ok (record { start = a; size = l }) → Held s id a l
unfolding located doubts placed Clear sought holds
found s id a l e =
    let t = behind s in
    let k = sought t (entries s) id in
    let b = both_accept (judged s) _ _ e in
    let d = accepted_clear (doubts t (entries s) id) (placed t k) (record { start = a; size = l }) b.1 in
    let h : k < entries s = ltb-true k (entries s) (not-false _ (not_second (same id 0 zeros 0) _ d.0.0)) in
    let f = first_is (holds t id) 0 (entries s) in
    let x : offset t k ≡ a = ap (λ (p : Part). p.start) d.1 in
    let y : size t k ≡ l = ap (λ (p : Part). p.size) d.1 in
    let g = accepted s b.0 in
    record {
      sound = g;
      at = k;
      known = h;
      asked = λ b u. let z : 0 + b ≡ b = omega arith in same_bytes t (entry k) id 0 (f.passes (omega arith)) b u ∙ rw z;
      begins = x;
      long = y;
      within = omega (arith, g.inside k h);
    }

-- It lies there, as the code has the answer in hand.
pub found_inside : (s id : List ℕ) (y : Result Part Fault) (q : Part) → y ≡ located s id → y ≡ Ok q → q.start + q.size ≤ length s
found_inside s id y q w e = (found s id q.start q.size (ok_is (located s id) y w q e)).within

-- Each image of an accepted package is found by its identifier.
module _ (s id : List ℕ) (k : ℕ) (ok : judged s ≡ Ok tt) (known : k < entries s) (asked : (b : ℕ) → b < 16 → id_byte s k b ≡ get_or id b 0) where
  from_zero : (l : List ℕ) (b : ℕ) → get_or l (0 + b) 0 ≡ get_or l b 0
  from_zero l b = let z : 0 + b ≡ b = omega arith in rw z

  has_name : holds (behind s) id k ≡ true
  unfolding holds
  has_name = bytes_same (behind s) (entry k) id 0 (λ b h. asked b h ∙ sym (from_zero id b))

  not_blank : same id 0 zeros 0 ≡ false
  not_blank =
      false_unless (same id 0 zeros 0)
      (λ y. (accepted s ok).earlier k known (λ b h. asked b h ∙ sym (from_zero id b) ∙ same_bytes id 0 zeros 0 y b h ∙ zeros_byte b h))

  -- the first entry with this identifier is the only one
  only_one : k ≡ sought (behind s) (entries s) id
  unfolding sought holds
  only_one =
      let t = behind s in
      let n = entries s in
      let j = sought t n id in
      let f = first_is (holds t id) 0 n in
      let l : j ≤ k = either (ltb k j) (λ y. absurd (yes_or_no (holds t id k) has_name (f.before k (omega arith) (ltb-true k j y)))) (λ y. ltb-false k j y) in
      let g : holds t id j ≡ true = f.passes (omega arith) in
      either (eqb k j) (λ y. eqb-true k j y)
      (λ y. absurd ((accepted s ok).single k j known (omega arith) (eqb-false k j y)
      (λ b h. same_bytes t (entry k) id 0 has_name b h ∙ sym (same_bytes t (entry j) id 0 g b h))))

  pub found_by_name : located s id ≡ Ok (record { start = start s k; size = bytes s k })
  unfolding located doubts placed Clear
  found_by_name =
      rw (ok, ← only_one)
      (sym (clear_accepted (refuses (same id 0 zeros 0 || not (ltb k (entries s))) NoImage ∷ []) (placed (behind s) k)
      (neither _ _ not_blank (rw (lt-ltb k (entries s) known)), tt)))

-- A refused read shows an empty part.
pub refused_empty : (s id : List ℕ) (f : Fault) → located s id ≡ Err f → part_of s (located s id) ≡ []
refused_empty s id f e = sym (refused_part (located s id) (located s id) refl f e s)

-- ---- the theorems: a status
-- That of a found image is 0.
pub found_status : (s id : List ℕ) (a l : ℕ) → located s id ≡ Ok (record { start = a; size = l }) → status_of (located s id) ≡ 0
unfolding status_of
found_status s id a l e = rw e

-- That of a package is 0 or the number of a refusal, and that of a refused question is such a number.
pub judged_status : (s : List ℕ) → Status (status_of (judged s))
unfolding judged faults sieve status_of
judged_status s =
    let P : Result ⊤ Fault → Type 0 = λ r. Status (status_of r) in
    chosen P _ _ _ (λ e. inr (lit≤ tt, lit≤ tt)) (λ e.
    chosen P _ _ _ (λ e. inr (lit≤ tt, lit≤ tt)) (λ e.
    chosen P _ _ _ (λ e. inr (lit≤ tt, lit≤ tt)) (λ e.
    chosen P _ _ _ (λ e. inr (lit≤ tt, lit≤ tt)) (λ e.
    chosen P _ _ _ (λ e. inr (lit≤ tt, lit≤ tt)) (λ e. inl refl)))))

-- of a package's answer and a question's
told_of : (x : Result ⊤ Fault) (y : Result Part Fault) → Status (status_of x) → Told y → Told (result_and x y)
unfolding status_of Told
told_of (Ok tt) y r t = t
told_of (Err f) y r t = ⊎_elim (λ (z : number_of f ≡ 0). absurd (omega (arith, number_low f))) (λ r. r) r

pub located_status : (s id : List ℕ) → Told (located s id)
unfolding located doubts sieve Told
located_status s id =
    told_of (judged s) _ (judged_status s)
    (chosen Told _ _ _ (λ e. (lit≤ tt, lit≤ tt)) (λ e. tt))
