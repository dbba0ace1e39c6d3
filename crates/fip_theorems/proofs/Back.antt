-- What the reader makes of the package that is laid out for a plan which breaks no rule.
use Rattle.std.specs.Prelude.{◌≡◌, true, not, ◌||◌, ℕ, ◌+◌, ◌*◌, ◌≤◌, ◌<◌, ltb, length, take, Ok, Err}
use Rattle.std.proofs.Math.Path.{refl, sym, ap}
use Rattle.std.proofs.Common.{◌∙◌, length-take-le}
use mathlib.Core.List.{List}
use Rattle.std.proofs.Math.Logic.{inl, inr}
use native.Mathlib.Omega.{arith}
use Rattle.std.proofs.Math.ListN.{get_or, length-drop, get_or-replicate}
use borrow.Author.Tests.{ltb-true, ltb-false}
use Rattle.rules.specs.Choice.{pick_yes, not_true, second_or, first_or, either, yes_or_no}
use Rattle.rules.specs.Tests.{stops}
use Rattle.tools.specs.Search.{first_is}
use Rattle.fip_entries.specs.Numbers.{four, eight}
use Rattle.fip_entries.specs.Entries.{entry, offset, size, same, zeros, same_bytes, bytes_same}
use Rattle.fip_table.specs.Table.{twins, holds, sought, table_end}
use Rattle.fip_entries.specs.Entries as Entries
use Rattle.fip_read.specs.Reading.{behind, entries, judged, tabled, doubts, located, part_of}
use Rattle.fip_table.specs.Meaning.{zero_blank}
use Rattle.fip_read.specs.Accepted.{Sound, sound_accepted, found_by_name}
use Rattle.fip_entries.specs.declared.Fault.TheVariants.{NoImage}
use Rattle.fip_entries.specs.Faults.{status_of}
use Rattle.fip_lay.specs.Bytes.{spell, copied, copied_is}
use Rattle.fip_plan.specs.Plan.{total, planned}
use Rattle.fip_write.specs.Packed.{header, row, packed, length_packed}
use Rattle.fip_theorems.specs.Statements.{identifier, image, place, Entry, Package}
use Rattle.fip_theorems.specs.Bytes.{copied_byte, copied_same, same_copied, copied_in, copied_take, copied_whole, number, number_spell, four_number, eight_number}
use Rattle.fip_theorems.specs.Layout.{header_parts, row_parts, ending_parts, entry_of_lem, sizes_to, packed_header, packed_row, packed_ending, packed_image}
use Rattle.fip_theorems.specs.Fit.{Fit}

module _ (serial flags : ℕ) (d pool : List ℕ) (space : ℕ) (u32 : serial < 0x100000000) (u64 : flags < 0x10000000000000000) (f : Fit serial d (length pool) space) where
  -- the images, the package, and its bytes behind the header
  abbrev n : ℕ
  n = planned d

  abbrev p : List ℕ
  p = packed serial flags d pool n

  abbrev t : List ℕ
  t = behind p

  long : length p ≡ total d n
  long = length_packed serial flags d pool n

  -- ---- the header
  head : copied p 0 16 ≡ header serial flags
  head = packed_header serial flags d pool n

  head_four : (i v : ℕ) → i + 4 ≤ 16 → v < 0x100000000 → copied (header serial flags) i 4 ≡ spell 4 v → four p i ≡ v
  head_four i v h l e =
      let z : 0 + i ≡ i = omega arith in
      four_number p i ∙ ap number (rw z at (copied_in p _ 0 16 i 4 head h) ∙ e) ∙ number_spell 4 v l

  has_name : four p 0 ≡ 0xaa640001
  has_name = head_four 0 0xaa640001 (omega arith) (omega arith) (header_parts serial flags).first

  has_serial : four p 4 ≡ serial
  has_serial = head_four 4 serial (omega arith) u32 (header_parts serial flags).second

  has_flags : eight p 8 ≡ flags
  has_flags =
      eight_number p 8 ∙ ap number (copied_in p _ 0 16 8 8 head (omega arith) ∙ (header_parts serial flags).third) ∙ number_spell 8 flags u64

  -- ---- the table
  ends : (k : ℕ) → k < n → place d n k + size d k ≤ total d n
  unfolding total
  ends k h = let z : 0 + k ≡ k = omega arith in omega (arith, rw z at (sizes_to d 0 n k h))

  -- the entry of image k, wherever its bytes stand
  entry_in : (s : List ℕ) (k : ℕ) → k < n → copied s (entry k) 40 ≡ row d k (place d n k) → Entry s k (identifier d k) (place d n k) (size d k) (Entries.flags d k)
  unfolding size Entries.flags
  entry_in s k h r =
      let e = entry_of_lem s _ _ _ _ k r (row_parts d k (place d n k)) in
      let q : (i : ℕ) → i + 8 ≤ 16 → number (copied (copied d (entry k + 24) 16) i 8) ≡ eight d (entry k + 24 + i) =
      λ i l. ap number (sym (copied_in d _ (entry k + 24) 16 i 8 refl l)) ∙ sym (eight_number d (entry k + 24 + i)) in
      let x : entry k + 24 + 0 ≡ entry k + 24 = omega arith in
      let y : entry k + 24 + 8 ≡ entry k + 32 = omega arith in
      record {
        has_identifier = e.has_identifier;
        has_offset = e.has_offset ∙ number_spell 8 (place d n k) (omega (arith, f.short, ends k h));
        has_size = e.has_size ∙ rw x at (q 0 (omega arith));
        has_flags = e.has_flags ∙ rw y at (q 8 (omega arith));
      }

  row_entry : (k : ℕ) → k < n → Entry t k (identifier d k) (place d n k) (size d k) (Entries.flags d k)
  row_entry k h = entry_in t k h (packed_row serial flags d pool n k h)

  end_entry : Entry t n zeros (total d n) 0 0
  unfolding spell copied number
  end_entry =
      let e = entry_of_lem t _ _ _ _ n (packed_ending serial flags d pool n) (ending_parts (total d n)) in
      record {
        has_identifier = e.has_identifier;
        has_offset = e.has_offset ∙ number_spell 8 (total d n) (omega (arith, f.short));
        has_size = e.has_size;
        has_flags = e.has_flags;
      }

  -- ---- it is sound
  id_byte : (k : ℕ) → k < n → (b : ℕ) → b < 16 → get_or t (entry k + b) 0 ≡ get_or d (entry k + b) 0
  id_byte k h = same_copied t d (entry k) (entry k) 16 (row_entry k h).has_identifier

  -- a later image has another identifier than an earlier one, and lies behind it
  other_id : (i j : ℕ) → i < n → j < i → ((b : ℕ) → b < 16 → get_or t (entry i + b) 0 ≡ get_or t (entry j + b) 0) → ⊥
  unfolding twins
  other_id i j h l e =
      yes_or_no _ (bytes_same d (entry j) d (entry i) (λ b m. sym (id_byte j (omega arith) b m) ∙ sym (e b m) ∙ id_byte i h b m)) (f.single i j h l)

  later : (i j : ℕ) → i < n → j < i → offset t j + size t j ≤ offset t i
  later i j h l =
      let z : 0 + j ≡ j = omega arith in
      let g : j < n = omega arith in
      omega (arith, (row_entry i h).has_offset, (row_entry j g).has_offset, (row_entry j g).has_size, rw z at (sizes_to d 0 i j l))

  sound : Sound p n
  unfolding total table_end
  sound =
      record {
        least = omega (arith, long);
        most = omega (arith, long, f.short);
        name = has_name;
        serial = λ e. f.numbered (sym has_serial ∙ e);
        few = f.few;
        whole = omega (arith, long);
        ended = λ b h. sym (copied_byte t (entry n) 16 b h) ∙ ap (λ (l : List ℕ). get_or l b 0) end_entry.has_identifier ∙ get_or-replicate 16 b 0 0 h;
        earlier = λ k h e. yes_or_no _ (zero_blank d k (λ b m. sym (id_byte k h b m) ∙ e b m)) (f.marked k h);
        single = λ i j h l e q. either (ltb j i) (λ y. other_id i j h (ltb-true j i y) q)
            (λ y. let g = ltb-false j i y in other_id j i l (omega arith) (λ b m. sym (q b m)));
        inside = λ k h. omega (arith, long, (row_entry k h).has_offset, (row_entry k h).has_size, ends k h);
        clear = λ k h e. omega (arith, (row_entry k h).has_offset);
        apart = λ i j h l e y z. either (ltb j i) (λ g. inr (later i j h (ltb-true j i g))) (λ g. let g = ltb-false j i g in inl (later j i l (omega arith)));
      }

  accepted : judged p ≡ Ok tt
  accepted = (sound_accepted p n sound).0

  many : entries p ≡ n
  many = sym (sound_accepted p n sound).1

  -- ---- what the reader shows of the table
  shown : tabled p ≡ take (40 * n) t
  unfolding tabled
  shown = pick_yes _ _ _ (rw accepted) ∙ rw many

  shown_long : length (tabled p) ≡ 40 * n
  unfolding total table_end
  shown_long = rw shown (length-take-le (40 * n) t (omega (arith, long, length-drop 16 p)))

  each : (k : ℕ) → k < n → Entry (tabled p) k (identifier d k) (place d n k) (size d k) (Entries.flags d k)
  each k h = entry_in (tabled p) k h (rw shown (copied_take t (40 * n) (entry k) 40 (omega arith) ∙ packed_row serial flags d pool n k h))

  -- ---- one image
  found : (k : ℕ) → k < n → located p (identifier d k) ≡ Ok (record { start = place d n k; size = size d k })
  found k h =
      found_by_name p (identifier d k) k accepted (rw many h) (λ b m. id_byte k h b m ∙ sym (copied_byte d (entry k) 16 b m))
      ∙ rw ((row_entry k h).has_offset, (row_entry k h).has_size)

  given_back : (k : ℕ) → k < n → part_of p (located p (identifier d k)) ≡ image d pool k
  unfolding part_of
  given_back k h =
      rw (found k h)
      (sym (copied_is p (place d n k) (size d k) (omega (arith, long, ends k h)))
      ∙ packed_image serial flags d pool n k h ∙ copied_is pool (offset d k) (size d k) (f.inside k h))

  -- ---- no image
  not_found : (id : List ℕ) → (same id 0 zeros 0 || not (ltb (sought t (entries p) id) (entries p))) ≡ true → located p id ≡ Err NoImage
  unfolding located doubts
  not_found id e = rw accepted (sym (stops _ _ _ _ _ _ e refl))

  refused_as : (id : List ℕ) → (same id 0 zeros 0 || not (ltb (sought t (entries p) id) (entries p))) ≡ true → (located p id ≡ Err NoImage) × (status_of (located p id) ≡ 0x86)
  unfolding status_of
  refused_as id e = let f = not_found id e in (f, rw f refl)

  absent : (id : List ℕ) → length id ≡ 16 → ((k : ℕ) → k < n → id ≡ identifier d k → ⊥) → (located p id ≡ Err NoImage) × (status_of (located p id) ≡ 0x86)
  unfolding sought holds
  absent id e g =
      let k = sought t (entries p) id in
      let r = first_is (holds t id) 0 (entries p) in
      either (ltb k (entries p))
      (λ y.
      let z = ltb-true k (entries p) y in
      let h : k < n = omega (arith, many) in
      let q : copied id 0 16 ≡ copied t (entry k) 16 = copied_same id t 0 (entry k) 16 (λ b m. sym (same_bytes t (entry k) id 0 (r.passes (omega arith)) b m)) in
      absurd (g k h (sym (copied_whole id 16 e) ∙ q ∙ (row_entry k h).has_identifier)))
      (λ y. refused_as id (second_or (same id 0 zeros 0) _ (not_true _ y)))

  pub read_back : Package serial flags d pool p
  read_back =
      record {
        long = long;
        accepted = accepted;
        has_name = has_name;
        has_serial = has_serial;
        has_flags = has_flags;
        many = many;
        shown = shown;
        shown_long = shown_long;
        each = each;
        last = rw long end_entry;
        found = found;
        given_back = given_back;
        absent = absent;
        zeros_absent = refused_as zeros (first_or _ _ (bytes_same zeros 0 zeros 0 (λ b m. refl)));
      }
