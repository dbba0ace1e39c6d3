-- What an input is read as: the frames of its lines. And the line at a place, as the code finds it.
use Rattle.std.proofs.Math.Path.{◌≡◌, refl, ap}
use Rattle.std.proofs.Common.{sym, arith}
use Rattle.std.specs.Prelude.{Bool, ℕ, ◌+◌, ◌-◌, ◌≤◌, ◌<◌, length, None, Option}
use mathlib.Core.List.{List, []}
use Rattle.std.proofs.Math.Dec.{ltb}
use borrow.Author.Tests.{ltb-true, ltb-false}
use Rattle.lines.specs.Next.{Line, line_frame, line_after}
use Rattle.lines.specs.declared.Next.{Next}
use Rattle.rules.specs.Choice.{pick, by}
use Rattle.parsing.specs.Frame.{is_call, numbers_of, parsed, long_line, other_parsed, parsed_frame, parsed_call}
use Rattle.lines.specs.Lines.{end_of, line_at, lined, next_of, end_from}
use Rattle.lines.specs.Meant.{meant, Blind, blind_by}
use Rattle.parsing.specs.declared.Status.TheVariants.{NoHex}
use Rattle.parsing.specs.declared.Frame.{Frame}
use Rattle.parsing.specs.declared.Frame.TheVariants.{Refused}

-- a line by itself: its frame, and the eight numbers of a call
abbrev pub reading : List ℕ → Frame × List ℕ
reading l = parsed l []

-- a line of more than 132 bytes is refused, whatever they are
pub long_reading : (l : List ℕ) → 132 < length l → reading l ≡ (Refused NoHex, [])
long_reading l h = sym (other_parsed l [] (Refused NoHex) (long_line l h) refl)

pub reading_blind : Blind reading
reading_blind = blind_by reading (Refused NoHex, []) long_reading

-- the lines of an input, each by itself
abbrev pub readings : List ℕ → List (Frame × List ℕ)
readings input = meant reading input

-- ---- the line at a place, as it was parsed into numbers lent for it
pub reading_of : (l xs ys : List ℕ) (f : Frame) → (f, ys) ≡ parsed l xs → reading l ≡ (f, pick (is_call f) ys [])
unfolding parsed pick
reading_of l xs ys f p =
    rw (← parsed_frame l xs ys f p)
    (by (λ (b : Bool). is_call f ≡ b → ◌≡◌ {A = Frame × List ℕ} (f, pick b (numbers_of l) []) (f, pick b ys [])) (is_call f)
    (λ y c. rw (parsed_call l xs ys f p c)) (λ n c. refl) refl)

pub record Found (s : List ℕ) (at : ℕ) (xs : List ℕ) (f : Frame) (after : ℕ) (ys : List ℕ) : Type 0 where
  pub whole : end_of s at < length s
  pub next : after ≡ end_of s at + 1
  pub is : (f, ys) ≡ parsed (line_at s at) xs

module _ (s xs ys : List ℕ) (at : ℕ) where
  pub next_found : (f : Frame) (after : ℕ) → (Line f after, ys) ≡ next_of s at xs → Found s at xs f after ys
  unfolding next_of pick
  next_found f after e =
      by (λ (b : Bool). ltb (end_of s at) (length s) ≡ b → (Line f after, ys) ≡ pick b (lined (parsed (line_at s at) xs) (end_of s at + 1)) (None, xs) → Found s at xs f after ys)
      (ltb (end_of s at) (length s))
      (λ y h g.
      let n : Line f after ≡ Line (parsed (line_at s at) xs).0 (end_of s at + 1) = ap (λ (q : Option Next × List ℕ). q.0) g in
      let z : ys ≡ (parsed (line_at s at) xs).1 = ap (λ (q : Option Next × List ℕ). q.1) g in
      let m : f ≡ (parsed (line_at s at) xs).0 = line_frame n in
      record { whole = ltb-true _ _ h; next = line_after n; is = rw (m, z) })
      (λ y h g. let n : Line f after ≡ None = ap (λ (q : Option Next × List ℕ). q.0) g in absurd (let z : ◌≡◌ {A = ℕ} 0 1 = cc in omega arith))
      refl e

  pub next_unfinished : (None, ys) ≡ next_of s at xs → (length s ≤ end_of s at) × (ys ≡ xs)
  unfolding next_of pick
  next_unfinished e =
      by (λ (b : Bool). ltb (end_of s at) (length s) ≡ b → (None, ys) ≡ pick b (lined (parsed (line_at s at) xs) (end_of s at + 1)) (None, xs) → (length s ≤ end_of s at) × (ys ≡ xs))
      (ltb (end_of s at) (length s))
      (λ y h g.
      let n : None ≡ Line (parsed (line_at s at) xs).0 (end_of s at + 1) = ap (λ (q : Option Next × List ℕ). q.0) g in
      absurd (let z : ◌≡◌ {A = ℕ} 0 1 = cc in omega arith))
      (λ y h g. (ltb-false _ _ h, ap (λ (q : Option Next × List ℕ). q.1) g))
      refl e

  pub next_inside : (f : Frame) (after : ℕ) → (Line f after, ys) ≡ next_of s at xs → (at < after) × (after ≤ length s)
  next_inside f after e = let d = next_found f after e in (omega (arith, d.next, end_from s at), omega (arith, d.next, d.whole))

-- ---- where the line at a place lies
module _ (s xs ys : List ℕ) (at : ℕ) (next : Option Next) (e : (next, ys) ≡ next_of s at xs) (fr : Frame) (after : ℕ) (is : next ≡ Line fr after) where
  inside : (at < after) × (after ≤ length s)
  inside = next_inside s xs ys at fr after (rw is at e)

  pub inside_some : 1 ≤ after
  inside_some = omega (arith, inside)

  pub inside_low : at ≤ after - 1
  inside_low = omega (arith, inside)

  pub inside_high : after - 1 ≤ length s
  inside_high = omega (arith, inside)

  pub reads_on : length s - after < length s - at
  reads_on = omega (arith, inside)

pub ruleset insides = (inside_some, inside_low, inside_high, reads_on)
