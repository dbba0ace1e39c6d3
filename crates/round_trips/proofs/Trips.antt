-- Either trip, where the conversion may be done.
use Rattle.std.specs.Prelude.{◌≡◌, ℕ, ◌+◌, ◌*◌, ◌/◌, ◌%◌, ◌≤◌, ◌<◌, length, take, drop}
use Rattle.std.proofs.Math.Path.{ap}
use Rattle.std.proofs.Common.{◌∙◌, lt-ltb, le-ltb}
use mathlib.Core.List.{List, ◌++◌}
use native.Mathlib.Omega.{arith}
use Rattle.std.proofs.Math.ListN.{get_or}
use Rattle.rules.specs.Choice.{pick_yes, pick_no}
use Rattle.marks.specs.Digits.{digit}
use Rattle.marks.specs.Owners.{mark_of, owner_of, owner_of_mark, mark_low, mark_high}
use Rattle.conversions.specs.Conversions.{byte_of, mark_in, numbers_for, mark_for, gathered, number_for, byte_for, written, unpacked}
use Rattle.conversions.specs.Laws.{mark_for_small, gathered_digit}
use Rattle.converting.specs.Outcomes.{bytes_fit, numbers_fit}
use Rattle.round_trips.specs.Statements.{Room, Owned, Marked, Packed}
use Rattle.round_trips.specs.Written.{written_at, written_past, written_long, written_take}
use Rattle.round_trips.specs.Trips.{unpacked_so}

-- ---- bytes to numbers and back
module _ (n : ℕ) (bytes numbers : List ℕ) (r : Room n bytes numbers) (o : Owned n bytes) where
  abbrev after : List ℕ
  after = written (number_for n bytes) (numbers_for n) numbers

  -- the marks of the numbers that were written are those that were to be
  after_mark : (page : ℕ) → page < 16 * numbers_for n → mark_in after page ≡ mark_for n bytes page
  unfolding mark_in number_for
  after_mark page h =
      let e : 16 * (page / 16) + page % 16 ≡ page = omega arith in
      let w : get_or after (page / 16) 0 ≡ gathered (mark_for n bytes) (16 * (page / 16)) 16 = written_at (number_for n bytes) (numbers_for n) numbers (page / 16) (omega arith) in
      ap (λ (x : ℕ). digit x (page % 16)) w
      ∙ gathered_digit (mark_for n bytes) (mark_for_small n bytes) (16 * (page / 16)) 16 (page % 16) (omega arith)
      ∙ ap (mark_for n bytes) e

  after_page : (page : ℕ) → page < n → mark_in after page ≡ mark_of (byte_of bytes page)
  unfolding mark_for
  after_page page h = after_mark page (omega arith) ∙ pick_yes _ _ _ (lt-ltb page n h)

  after_padding : (page : ℕ) → n ≤ page → page < 16 * numbers_for n → mark_in after page ≡ 0
  unfolding mark_for
  after_padding page h l = after_mark page l ∙ pick_no _ _ _ (le-ltb page n h)

  after_marked : Marked n after
  unfolding Owned
  after_marked = record {
    low = λ page h. rw (after_page page h) (mark_low _ (o page h));
    high = λ page h. rw (after_page page h) (mark_high _ (o page h));
    padding = after_padding;
  }

  after_byte : (page : ℕ) → page < n → byte_for after page ≡ byte_of bytes page
  unfolding byte_for Owned
  after_byte page h = ap owner_of (after_page page h) ∙ owner_of_mark _ (o page h)

  bytes_back : (space : List ℕ) → n ≤ length space → unpacked n after space ≡ (0, take n bytes ++ drop n space)
  unfolding byte_of
  bytes_back space h =
      let q : Room n space after = record {
        some = r.some;
        most = r.most;
        bytes_fit = h;
        numbers_fit = rw (written_long (number_for n bytes) (numbers_for n) numbers r.numbers_fit) r.numbers_fit;
      } in
      unpacked_so n after space q after_marked ∙ ap (λ (l : List ℕ). (0, l)) (written_take (byte_for after) n space bytes r.bytes_fit after_byte)

  pub trip_of_bytes : Packed n bytes numbers after
  trip_of_bytes = record {
    had_room = r;
    had_owners = o;
    as_long = written_long (number_for n bytes) (numbers_for n) numbers r.numbers_fit;
    past = written_past (number_for n bytes) (numbers_for n) numbers;
    each = after_page;
    padding = after_padding;
    back = bytes_back;
  }
