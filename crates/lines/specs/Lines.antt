-- The lines of an input, and the line at a place of what was read of it.
use Rattle.std.specs.Prelude.{◌≡◌, Bool, true, false, ℕ, suc, ◌+◌, ◌-◌, ◌≤◌, ◌<◌, ltb, eqb, length, get_or, take, drop, None, Option}
use Rattle.std.proofs.Math.Path.{refl}
use Rattle.std.proofs.Common.{sym, ap, ◌∙◌, ⊎_elim, eq-or-lt_of_le, arith, length-take, length-drop, length-take-le, get_or-take, get_or-drop, drop-drop, lt-ltb, le-ltb, eq-eqb, ne_eqb, eqb-true, ltb-true, ltb-false}
use mathlib.Core.List.{List, [], ◌∷◌, ◌++◌, append_assoc}
use Rattle.std.proofs.Math.Seq.{split_at}
use Rattle.std.proofs.lemmas.Bool.{eqb-false}
use Rattle.lines.specs.Next.{Line}
use Rattle.lines.specs.declared.Next.{Next}
use Rattle.rules.specs.Choice.{pick, picked, passed, either, yes_or_no}
use Rattle.tools.specs.Search.{all_at, first, first_goes, first_stops, first_ends, first_is, Firstly}
use Rattle.hex_digits.specs.Hex.{digit_of, digit_at, all_digits}
use Rattle.parsing.specs.Frame.{parsed, parsed_digits, other_parsed, no_digits}
use Rattle.lines.specs.Quick.{Looked}
use Rattle.parsing.specs.declared.Frame.{Frame}
use Rattle.parsing.specs.declared.Frame.TheVariants.{Call, Refused}
use Rattle.parsing.specs.declared.Status.TheVariants.{NoHex}
use Rattle.lines.specs.declared.Look.{Look}

-- a byte before lines belongs to the first of them
unfoldable pub before : ℕ → List (List ℕ) → List (List ℕ)
before b [] = (b ∷ []) ∷ []
before b (l ∷ ls) = (b ∷ l) ∷ ls

-- a newline ends a line; the last may lack it; no input has no line
unfoldable pub lines_of : List ℕ → List (List ℕ)
lines_of [] = []
lines_of (b ∷ bs) = pick (eqb b 10) ([] ∷ lines_of bs) (before b (lines_of bs))

-- place i holds a newline
abbrev pub newline_at : List ℕ → ℕ → Bool
newline_at s i = eqb (get_or s i 0) 10

-- where the line at a place ends: at the first newline, or where the bytes end
unfoldable pub end_of : List ℕ → ℕ → ℕ
end_of s at = first (newline_at s) at (length s - at)

-- the bytes from a place up to another
abbrev pub part : List ℕ → ℕ → ℕ → List ℕ
part s from to = take (to - from) (drop from s)

abbrev pub line_at : List ℕ → ℕ → List ℕ
line_at s at = part s at (end_of s at)

abbrev pub lined : Frame × List ℕ → ℕ → Option Next × List ℕ
lined p after = (Line p.0 after, p.1)

-- the line at a place, parsed, and where the next one starts; nothing where its newline is not there
unfoldable pub next_of : List ℕ → ℕ → List ℕ → Option Next × List ℕ
next_of s at xs = pick (ltb (end_of s at) (length s)) (lined (parsed (line_at s at) xs) (end_of s at + 1)) (None, xs)

-- ---- the search for the end of a line, byte by byte
abbrev pub Ahead : List ℕ → ℕ → ℕ → Type 0
Ahead s at i = end_of s at ≡ first (newline_at s) i (length s - i)

module _ (s : List ℕ) (at : ℕ) where
  pub ahead_all : Ahead s at at
  unfolding end_of
  ahead_all = refl

  module _ (i : ℕ) (k : Ahead s at i) where
    pub ahead_less : i < length s → (get_or s i 0 ≡ 10 → ⊥) → Ahead s at (i + 1)
    ahead_less h n =
        let q : length s - i - 1 ≡ length s - (i + 1) = omega arith in
        first_goes (newline_at s) i (length s - i) (end_of s at) k (omega arith) (ne_eqb _ _ n) ∙ rw q

    pub ahead_stops : i < length s → get_or s i 0 ≡ 10 → i ≡ end_of s at
    ahead_stops h e = first_stops (newline_at s) i (length s - i) (end_of s at) k (omega arith) (eq-eqb _ _ e)

    pub ahead_none : length s ≤ i → i ≡ end_of s at
    ahead_none h = first_ends (newline_at s) i (length s - i) (end_of s at) k (omega arith)

pub ruleset ends_ahead = (ahead_all, ahead_less, ahead_stops, ahead_none)

-- ---- where a line ends, in plain words
module _ (s : List ℕ) (at : ℕ) where
  is_first : Firstly (newline_at s) at (length s - at) (end_of s at)
  unfolding end_of
  is_first = first_is (newline_at s) at (length s - at)

  pub end_from : at ≤ end_of s at
  end_from = is_first.low

  pub end_none : (k : ℕ) → at ≤ k → k < end_of s at → get_or s k 0 ≡ 10 → ⊥
  end_none k g h = eqb-false _ _ (is_first.before k g h)

  pub end_newline : end_of s at < length s → get_or s (end_of s at) 0 ≡ 10
  end_newline h = eqb-true _ _ (is_first.passes (omega (arith, end_from)))

  -- and nowhere else
  pub end_is : (e : ℕ) → at ≤ e → e < length s → get_or s e 0 ≡ 10 → ((k : ℕ) → at ≤ k → k < e → get_or s k 0 ≡ 10 → ⊥) → e ≡ end_of s at
  end_is e g h n f =
      either (ltb (end_of s at) e)
      (λ y. let l : end_of s at < e = ltb-true _ _ y in absurd (f (end_of s at) end_from l (end_newline (omega arith))))
      (λ y. let l : e ≤ end_of s at = ltb-false _ _ y in
      ⊎_elim (λ (z : e ≡ end_of s at). z) (λ (z : e < end_of s at). absurd (end_none e g z n)) (eq-or-lt_of_le l))

-- ---- each outcome for the line at a place
module _ (s xs : List ℕ) (at e : ℕ) where
  pub next_found : (f : Frame) (ys : List ℕ) → e ≡ end_of s at → e < length s → (f, ys) ≡ parsed (part s at e) xs → (Line f (e + 1), ys) ≡ next_of s at xs
  unfolding next_of
  next_found f ys d h p = picked _ _ _ _ (lt-ltb (end_of s at) (length s) (omega arith)) (ap (λ (q : Frame × List ℕ). lined q (e + 1)) p ∙ rw d)

  pub next_none : e ≡ end_of s at → length s ≤ e → (None, xs) ≡ next_of s at xs
  unfolding next_of
  next_none d h = passed _ _ _ _ (le-ltb (end_of s at) (length s) (omega arith)) refl

-- signs that are not all digits, up to the end of the line
pub next_spoilt : (s xs : List ℕ) (at e end : ℕ) → end ≡ end_of s at → end ≡ e → e < length s → all_digits (part s at e) ≡ false → (Line (Refused NoHex) (e + 1), xs) ≡ next_of s at xs
next_spoilt s xs at e end d z h n = next_found s xs at e (Refused NoHex) xs (sym z ∙ d) h (other_parsed (part s at e) xs (Refused NoHex) (no_digits (part s at e) n) refl)

pub next_past : (s xs : List ℕ) (at : ℕ) → length s < at → (None, xs) ≡ next_of s at xs
next_past s xs at h = next_none s xs at (end_of s at) refl (omega (arith, end_from s at))

pub end_low : (s : List ℕ) (at e : ℕ) → e ≡ end_of s at → at ≤ e
end_low s at e d = omega (arith, end_from s at)

-- the bytes of a part
part_at : (s : List ℕ) (from to k : ℕ) → from ≤ k → k < to → get_or (part s from to) (k - from) 0 ≡ get_or s k 0
part_at s from to k g h =
    let e : from + (k - from) ≡ k = omega arith in
    get_or-take (to - from) (drop from s) (k - from) 0 (omega arith) ∙ get_or-drop from s (k - from) 0 ∙ rw e

part_length : (s : List ℕ) (from to : ℕ) → from ≤ to → to ≤ length s → length (part s from to) ≡ to - from
part_length s from to g h = length-take-le (to - from) (drop from s) (rw length-drop (omega arith))

-- a newline is no digit
pub digits_no_newline : (l : List ℕ) (k : ℕ) → all_digits l ≡ true → k < length l → get_or l k 0 ≡ 10 → ⊥
unfolding all_digits digit_of pick
digits_no_newline l k d h e =
    let y : digit_at l k ≡ true = all_at (digit_at l) 0 (length l) k d (omega arith) (omega arith) in
    yes_or_no (digit_at l k) y (rw e)

-- ---- a call, known by the newline after 132 signs
module _ (s xs ys : List ℕ) (at e : ℕ) (look : Look) (n : e ≡ at + 132) (h : e < length s) (q : Looked (part s at e) xs look ys) where
  pub next_quick : (core : ℕ) → look ≡ Look.Call core → get_or s e 0 ≡ 10 → (Line (Call core) (e + 1), ys) ≡ next_of s at xs
  next_quick core c g =
      let p : (Call core, ys) ≡ parsed (part s at e) xs = rw c at q in
      let d = parsed_digits (part s at e) xs ys (Call core) p refl in
      let m = part_length s at e (omega arith) (omega arith) in
      next_found s xs at e (Call core) ys
      (end_is s at e (omega arith) h g (λ k a b z. digits_no_newline (part s at e) (k - at) d (omega arith) (part_at s at e k a b ∙ z)))
      h p

  pub next_other : (r : Option Next × List ℕ) → look ≡ Look.Other → r ≡ next_of s at ys → r ≡ next_of s at xs
  next_other r c g = let p : ys ≡ xs = rw c at q in g ∙ ap (next_of s at) p

  pub next_no_hex : (r : Option Next × List ℕ) → look ≡ Look.NoHex → r ≡ next_of s at ys → r ≡ next_of s at xs
  next_no_hex r c g = let p : (all_digits (part s at e) ≡ false) × (ys ≡ xs) = rw c at q in g ∙ ap (next_of s at) p.1

-- ---- the lines of an input, one after the other
-- no newline in it
abbrev pub Unbroken : List ℕ → Type 0
Unbroken l = (k : ℕ) → k < length l → get_or l k 0 ≡ 10 → ⊥

unbroken_tail : (b : ℕ) (l : List ℕ) → Unbroken (b ∷ l) → Unbroken l
unbroken_tail b l u k h = u (suc k) (omega arith)

-- a line and its newline, before what is left
pub lines_first : (l rest : List ℕ) → Unbroken l → lines_of (l ++ 10 ∷ rest) ≡ l ∷ lines_of rest
unfolding lines_of before pick
lines_first [] rest u = refl
lines_first (b ∷ l) rest u = rw (ne_eqb b 10 (u 0 (omega arith)), lines_first l rest (unbroken_tail b l u))

-- a last line that lacks its newline
pub lines_last : (l : List ℕ) → Unbroken l → (length l ≡ 0 → ⊥) → lines_of l ≡ l ∷ []
unfolding lines_of before pick
lines_last [] u n = absurd (n refl)
lines_last (b ∷ []) u n = rw (ne_eqb b 10 (u 0 (omega arith)))
lines_last (b ∷ c ∷ l) u n = rw (ne_eqb b 10 (u 0 (omega arith)), lines_last (c ∷ l) (unbroken_tail b (c ∷ l) u) (λ z. omega arith))

-- it is the same line with its newline
pub lines_closed : (l : List ℕ) → Unbroken l → (length l ≡ 0 → ⊥) → lines_of (l ++ 10 ∷ []) ≡ lines_of l
unfolding lines_of
lines_closed l u n = lines_first l [] u ∙ sym (lines_last l u n)

-- ---- feeding in parts: the line at a place, before what is left and whatever follows
module _ (s : List ℕ) (at : ℕ) where
  pub line_unbroken : Unbroken (line_at s at)
  line_unbroken k h z =
      let m : k < end_of s at - at = omega (arith, h, length-take (end_of s at - at) (drop at s)) in
      end_none s at (at + k) (omega arith) (omega arith) (sym (get_or-take (end_of s at - at) (drop at s) k 0 m ∙ get_or-drop at s k 0) ∙ z)

  -- nothing but the line is left where it has no newline
  pub rest_unbroken : length s ≤ end_of s at → Unbroken (drop at s)
  rest_unbroken h k f z =
      let m : k < length s - at = omega (arith, f, length-drop at s) in
      end_none s at (at + k) (omega arith) (omega arith) (sym (get_or-drop at s k 0) ∙ z)

  module _ (h : end_of s at < length s) where
    pub split_line : drop at s ≡ line_at s at ++ 10 ∷ drop (end_of s at + 1) s
    split_line =
        let f = end_from s at in
        let j = end_of s at - at in
        let p : at + j ≡ end_of s at = omega arith in
        let q : at + suc j ≡ end_of s at + 1 = omega arith in
        let n : get_or (drop at s) j 0 ≡ 10 = get_or-drop at s j 0 ∙ rw p (end_newline s at h) in
        split_at (drop at s) j 0 (rw length-drop (omega arith)) ∙ rw (n, drop-drop (suc j) at s, q)

    pub lines_at : (more : List ℕ) → lines_of (drop at s ++ more) ≡ line_at s at ∷ lines_of (drop (end_of s at + 1) s ++ more)
    lines_at more =
        ap (λ (q : List ℕ). lines_of (q ++ more)) split_line
        ∙ ap lines_of (append_assoc (line_at s at) (10 ∷ drop (end_of s at + 1) s) more)
        ∙ lines_first (line_at s at) (drop (end_of s at + 1) s ++ more) line_unbroken
