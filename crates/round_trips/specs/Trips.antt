-- Either trip, where the conversion may be done.
use Rattle.std.specs.Prelude.{◌≡◌, ℕ, ◌+◌, ◌*◌, ◌/◌, ◌%◌, ◌≤◌, ◌<◌, ltb, length, take, drop}
use Rattle.std.proofs.Math.Path.{sym, ap}
use Rattle.std.proofs.Common.{◌∙◌, ltb-true, ltb-false}
use mathlib.Core.List.{List, ◌++◌}
use native.Mathlib.Omega.{arith}
use Rattle.std.proofs.Math.ListN.{get_or}
use Rattle.rules.specs.Choice.{pick, pick_yes, pick_no, either}
use Rattle.rules.specs.Tests.{sieve}
use Rattle.marks.specs.Digits.{same_digits}
use Rattle.marks.specs.Owners.{mark_of, owner_of, mark_of_owner, owner_world}
use Rattle.conversions.specs.Conversions.{byte_of, mark_in, numbers_for, mark_for, gathered, number_for, byte_for, written, packed, unpacked}
use Rattle.conversions.specs.Laws.{mark_for_small, gathered_fits, gathered_digit}
use Rattle.converting.specs.Outcomes.{bytes_fit, numbers_fit}
use Rattle.round_trips.specs.Statements.{Room, Owned, Marked, Unpacked}
use Rattle.round_trips.specs.Written.{written_at, written_past, written_long, written_take}
use Rattle.round_trips.specs.Asked.{not_cramped, not_stray, not_strays}

-- ---- a conversion that may be done
packed_so : (n : ℕ) (bytes numbers : List ℕ) → Room n bytes numbers → Owned n bytes → packed n bytes numbers ≡ (0, written (number_for n bytes) (numbers_for n) numbers)
unfolding packed sieve pick
packed_so n bytes numbers r o = rw (not_cramped n bytes numbers r, not_stray n bytes o)

pub unpacked_so : (n : ℕ) (numbers bytes : List ℕ) → Room n bytes numbers → Marked n numbers → unpacked n numbers bytes ≡ (0, written (byte_for numbers) n bytes)
unfolding unpacked sieve pick
unpacked_so n numbers bytes r m = rw (not_cramped n bytes numbers r, not_strays n numbers m)

-- ---- numbers to bytes and back
module _ (n : ℕ) (numbers bytes : List ℕ) (r : Room n bytes numbers) (m : Marked n numbers) where
  abbrev since : List ℕ
  since = written (byte_for numbers) n bytes

  since_byte : (page : ℕ) → page < n → byte_of since page ≡ owner_of (mark_in numbers page)
  unfolding byte_of byte_for
  since_byte page h = written_at (byte_for numbers) n bytes page h

  since_owned : Owned n since
  unfolding Owned
  since_owned page h = rw (since_byte page h) (owner_world _ (m.low page h) (m.high page h))

  since_page : (page : ℕ) → page < n → mark_of (byte_of since page) ≡ mark_in numbers page
  since_page page h = ap mark_of (since_byte page h) ∙ mark_of_owner _ (m.low page h) (m.high page h)

  since_mark : (page : ℕ) → page < 16 * numbers_for n → mark_for n since page ≡ mark_in numbers page
  unfolding mark_for
  since_mark page l =
      either (ltb page n) (λ y. pick_yes _ _ _ y ∙ since_page page (ltb-true page n y))
      (λ z. pick_no _ _ _ z ∙ sym (m.padding page (ltb-false page n z) l))

  module _ (fits : (i : ℕ) → get_or numbers i 0 < 0x10000000000000000) where
    since_number : (i : ℕ) → i < numbers_for n → number_for n since i ≡ get_or numbers i 0
    unfolding number_for mark_in
    since_number i h =
        let f = mark_for n since in
        let small = mark_for_small n since in
        same_digits 16 (gathered f (16 * i) 16) (get_or numbers i 0) (gathered_fits f small (16 * i) 16) (fits i)
        (λ place l. let a : (16 * i + place) / 16 ≡ i = omega arith in
        let b : (16 * i + place) % 16 ≡ place = omega arith in
        gathered_digit f small (16 * i) 16 place l ∙ (rw (a, b) at (since_mark (16 * i + place) (omega arith))))

    numbers_back : (space : List ℕ) → numbers_for n ≤ length space → packed n since space ≡ (0, take (numbers_for n) numbers ++ drop (numbers_for n) space)
    numbers_back space h =
        let q : Room n since space = record {
          some = r.some;
          most = r.most;
          bytes_fit = rw (written_long (byte_for numbers) n bytes r.bytes_fit) r.bytes_fit;
          numbers_fit = h;
        } in
        packed_so n since space q since_owned
        ∙ ap (λ (l : List ℕ). (0, l)) (written_take (number_for n since) (numbers_for n) space numbers r.numbers_fit since_number)

  pub trip_of_numbers : Unpacked n numbers bytes since
  trip_of_numbers = record {
    had_room = r;
    had_marks = m;
    as_long = written_long (byte_for numbers) n bytes r.bytes_fit;
    past = written_past (byte_for numbers) n bytes;
    owners = since_owned;
    each = since_page;
    back = numbers_back;
  }
