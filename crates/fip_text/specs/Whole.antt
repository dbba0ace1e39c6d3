-- The list of a package: a line for each of its images, and no line where it is refused. The theorems come last.
use Rattle.std.specs.Prelude.{◌≡◌, List, [], ltb, length, take, Ok}
use Rattle.std.specs.Result.{is_ok}
use Rattle.std.proofs.Math.Path.{refl}
use Rattle.std.proofs.Common.{◌∙◌, arith, length-drop, length-take-le, ltb-false}
use Prim.Native.Nat.{ℕ, zero, suc, ◌+◌, ◌*◌, ◌/◌, ◌≤◌}
use Rattle.std.proofs.Math.Seq.{get_or-take}
use Rattle.rules.specs.Choice.{pick, pick_yes, pick_no, either}
use Rattle.fip_entries.specs.Numbers.{two, four, eight}
use Rattle.fip_entries.specs.Entries.{entry, offset, size, flags}
use Rattle.fip_read.specs.Reading.{judged, behind, entries, tabled, untabled}
use Rattle.fip_read.specs.Accepted.{accepted}
use Rattle.fip_identifiers.specs.Identifiers.{run, id_text}
use Rattle.fip_text.specs.Line.{numbers_text, line_text, lines_text, listed, list_text}

-- ---- what stands in the first m bytes is read there as in all of them
module _ (m : ℕ) (t : List ℕ) where
  run_part : (a n : ℕ) → a + n ≤ m → run (take m t) a n ≡ run t a n
  unfolding run
  run_part a zero h = refl
  run_part a (suc n) h = rw (get_or-take m t a 0 (omega arith), run_part (suc a) n (omega arith))

  id_part : (a : ℕ) → a + 16 ≤ m → id_text (take m t) a ≡ id_text t a
  unfolding id_text
  id_part a h =
      rw (run_part a 4 (omega arith), run_part (a + 4) 2 (omega arith), run_part (a + 6) 2 (omega arith), run_part (a + 8) 2 (omega arith), run_part (a + 10) 6 (omega arith))

  two_part : (a : ℕ) → a + 2 ≤ m → two (take m t) a ≡ two t a
  unfolding two
  two_part a h = rw (get_or-take m t a 0 (omega arith), get_or-take m t (a + 1) 0 (omega arith))

  four_part : (a : ℕ) → a + 4 ≤ m → four (take m t) a ≡ four t a
  unfolding four
  four_part a h = rw (two_part a (omega arith), two_part (a + 2) (omega arith))

  eight_part : (a : ℕ) → a + 8 ≤ m → eight (take m t) a ≡ eight t a
  unfolding eight
  eight_part a h = rw (four_part a (omega arith), four_part (a + 4) (omega arith))

  line_part : (k : ℕ) → 40 * k + 40 ≤ m → line_text (take m t) k ≡ line_text t k
  unfolding line_text numbers_text offset size flags
  line_part k h =
      rw (id_part (entry k) (omega arith), eight_part (entry k + 16) (omega arith), eight_part (entry k + 24) (omega arith), eight_part (entry k + 32) (omega arith))

  lines_part : (k n : ℕ) → 40 * (k + n) ≤ m → lines_text (take m t) k n ≡ lines_text t k n
  unfolding lines_text
  lines_part k zero h = refl
  lines_part k (suc n) h = rw (line_part k (omega arith), lines_part (suc k) n (omega arith))

-- all of a table of at most 64 entries is listed
listed_all : (t : List ℕ) (n : ℕ) → n ≤ 64 → length t ≡ 40 * n → listed t ≡ n
unfolding listed
listed_all t n h e =
    let q : length t / 40 ≡ n = omega arith in
    rw q (either (ltb n 64) (λ y. pick_yes (ltb n 64) n 64 y) (λ x. let g : 64 ≤ n = ltb-false _ _ x in pick_no (ltb n 64) n 64 x ∙ omega arith))

-- ---- the theorems
-- The list of an accepted package has the line of each of its entries, in their order.
pub every_image : (s : List ℕ) → judged s ≡ Ok tt → list_text (tabled s) ≡ lines_text (behind s) 0 (entries s)
unfolding list_text tabled
every_image s e =
    let p = accepted s e in
    let n = entries s in
    let room : 40 * n ≤ length (behind s) = omega (arith, p.whole, length-drop 16 s) in
    let all = listed_all (take (40 * n) (behind s)) n p.few (length-take-le (40 * n) (behind s) room) in
    rw (pick_yes (is_ok (judged s)) (take (40 * n) (behind s)) [] (rw e), all) (lines_part (40 * n) (behind s) 0 n (omega arith))

-- That of a refused one is empty.
pub no_image : (s : List ℕ) → (judged s ≡ Ok tt → ⊥) → list_text (tabled s) ≡ []
unfolding list_text listed lines_text pick
no_image s n = rw (← untabled s n)
