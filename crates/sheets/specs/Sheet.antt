-- What mending sets down: the text of the kept lines, that of the dropped ones, and three numbers: how many lines came, and where each text ends.
use Rattle.std.specs.Prelude.{◌≡◌, Bool, min, true, false, List, [], ◌∷◌, ◌++◌, eqb, ltb, length, take, set}
use Rattle.std.proofs.Math.Path.{refl, ap}
use Rattle.std.proofs.Common.{◌∙◌, length-append, take_all, lt-ltb, le-ltb, eq-eqb, ne_eqb, ltb-true, ltb-false}
use Prim.Native.Nat.{ℕ, ◌+◌, ◌≤◌, ◌<◌}
use native.Mathlib.Omega.{arith}
use Rattle.std.proofs.Math.ListN.{get_or}
use Rattle.rules.specs.Lent.{Lent}
use Rattle.rules.specs.Choice.{pick, picked, passed, either}
use Rattle.tools.specs.Laid.{put, put_not}
use Rattle.hex_digits.specs.Hex.{in_hex, length_hex}
use Rattle.hex_write.specs.Put.{put_then, put_three}

-- at most so many lines are mended
abbrev pub most : ℕ
most = 512

-- ---- the text
-- a line and its newline
unfoldable pub line_text : List ℕ → List ℕ
line_text l = l ++ 10 ∷ []

-- c0 and the number of a line
unfoldable pub number_text : ℕ → List ℕ
number_text number = in_hex 2 0xc0 ++ in_hex 4 number

-- these and a status
unfoldable pub dropped_text : ℕ → ℕ → List ℕ
dropped_text number status = number_text number ++ (in_hex 2 status ++ 10 ∷ [])

-- a0 and 8f
unfoldable pub too_many : List ℕ
too_many = in_hex 4 0xa08f ++ 10 ∷ []

pub length_line : (l : List ℕ) → length (line_text l) ≡ length l + 1
unfolding line_text
length_line l = length-append l (10 ∷ [])

length_number : (number : ℕ) → length (number_text number) ≡ 6
unfolding number_text
length_number number = simp (length-append, length_hex)

pub length_dropped : (number status : ℕ) → length (dropped_text number status) ≡ 9
unfolding dropped_text
length_dropped number status = simp (length-append, length_number, length_hex)

pub length_too_many : length too_many ≡ 5
unfolding too_many
length_too_many = simp (length-append, length_hex)

-- ---- the sheet
pub record Sheet : Type 0 where
  pub kept : List ℕ
  pub dropped : List ℕ
  pub ends : List ℕ

abbrev pub sheet : List ℕ → List ℕ → List ℕ → Sheet
sheet k d e = record { kept = k; dropped = d; ends = e }

-- what is said of a sheet in lent space, before and after
abbrev pub on_sheet : Lent → Lent → Lent → (Sheet → Sheet → Type 0) → Type 0
on_sheet k d e P = P (sheet k.entry.now d.entry.now e.entry.now) (sheet k.exit.now d.exit.now e.exit.now)

-- how many lines came; of more than 512 no more is known than that
abbrev pub came : List ℕ → ℕ
came e = get_or e 0 0

-- one line more, and whether it is one of the first 512
unfoldable pub counting : List ℕ → Bool × List ℕ
counting e = pick (ltb (came e) most) (true, set e 0 (came e + 1)) (false, set e 0 (most + 1))

-- a line behind the kept ones
unfoldable pub kept_on : List ℕ → List ℕ → List ℕ → List ℕ × List ℕ
kept_on k e l = let p = put k (get_or e 1 0) (line_text l) in (p.1, set e 1 p.0)

-- a notice of the last line, with a status, behind the others
unfoldable pub dropped_on : List ℕ → List ℕ → ℕ → List ℕ × List ℕ
dropped_on d e status = let p = put d (get_or e 2 0) (dropped_text (came e) status) in (p.1, set e 2 p.0)

-- the last line, once it is judged: with status 0 it is kept
unfoldable pub noted_on : Sheet → ℕ → List ℕ → Sheet
noted_on s status l =
    pick (eqb status 0)
    (let o = kept_on s.kept s.ends l in sheet o.0 s.dropped o.1)
    (let o = dropped_on s.dropped s.ends status in sheet s.kept o.0 o.1)

-- all of it, and how many bytes it has
unfoldable pub finished : List ℕ → List ℕ → List ℕ → ℕ × List ℕ
finished k d e = pick (ltb most (came e)) (put k 0 too_many) (put k (get_or e 1 0) (take (get_or e 2 0) d))

-- ---- texts put or not
module _ (o l : List ℕ) (at : ℕ) where
  pub line_not : length o ≤ at + length l → (at, o) ≡ put o at (line_text l)
  unfolding line_text
  line_not h = put_not o at (l ++ 10 ∷ []) (length l + 1) (length-append l (10 ∷ [])) (omega arith)

  pub line_put : (o₁ p : List ℕ) (a b : ℕ) → at + (length l + 1) ≤ length o → (a, o₁) ≡ put o at l → (b, p) ≡ put o₁ a (10 ∷ []) → (b, p) ≡ put o at (line_text l)
  unfolding line_text
  line_put o₁ p a b h = put_then o o₁ p at a b (length l) 1 l (10 ∷ []) refl refl h

module _ (o : List ℕ) (at number : ℕ) where
  pub number_put : (o₁ p : List ℕ) (a b : ℕ) → at + 6 ≤ length o → (a, o₁) ≡ put o at (in_hex 2 0xc0) → (b, p) ≡ put o₁ a (in_hex 4 number) → (b, p) ≡ put o at (number_text number)
  unfolding number_text
  number_put o₁ p a b h = put_then o o₁ p at a b 2 4 _ _ (length_hex 2 0xc0) (length_hex 4 number) h

  module _ (status : ℕ) where
    pub notice_not : length o < at + 9 → (at, o) ≡ put o at (dropped_text number status)
    notice_not h = put_not o at (dropped_text number status) 9 (length_dropped number status) h

    pub notice_put : (o₁ o₂ p : List ℕ) (a b c : ℕ) → at + 9 ≤ length o
        → (a, o₁) ≡ put o at (number_text number) → (b, o₂) ≡ put o₁ a (in_hex 2 status) → (c, p) ≡ put o₂ b (10 ∷ []) → (c, p) ≡ put o at (dropped_text number status)
    unfolding dropped_text
    notice_put o₁ o₂ p a b c h = put_three o o₁ o₂ p at a b c 6 2 1 _ _ _ (length_number number) (length_hex 2 status) refl h

-- ---- how the code's branches meet the sheet
module _ (e : List ℕ) where
  pub counts_one : came e < most → (true, set e 0 (came e + 1)) ≡ counting e
  unfolding counting
  counts_one h = picked _ _ _ _ (lt-ltb (came e) most h) refl

  pub counts_over : most ≤ came e → (false, set e 0 (most + 1)) ≡ counting e
  unfolding counting
  counts_over h = passed _ _ _ _ (le-ltb (came e) most h) refl

pub ruleset counts = (counts_one, counts_over)

pub keeps : (k e l k' : List ℕ) (n : ℕ) → (n, k') ≡ put k (get_or e 1 0) (line_text l) → (k', set e 1 n) ≡ kept_on k e l
unfolding kept_on
keeps k e l k' n h = rw (← h)

pub drops : (d e d' : List ℕ) (n status : ℕ) → (n, d') ≡ put d (get_or e 2 0) (dropped_text (came e) status) → (d', set e 2 n) ≡ dropped_on d e status
unfolding dropped_on
drops d e d' n status h = rw (← h)

module _ (k d e l : List ℕ) (status : ℕ) where
  pub notes_kept : (k' e' : List ℕ) → status ≡ 0 → (k', e') ≡ kept_on k e l → sheet k' d e' ≡ noted_on (sheet k d e) status l
  unfolding noted_on
  notes_kept k' e' z h = picked _ _ _ _ (eq-eqb status 0 z) (rw (← h))

  pub notes_dropped : (d' e' : List ℕ) → (status ≡ 0 → ⊥) → (d', e') ≡ dropped_on d e status → sheet k d' e' ≡ noted_on (sheet k d e) status l
  unfolding noted_on
  notes_dropped d' e' z h = passed _ _ _ _ (ne_eqb status 0 z) (rw (← h))

pub ruleset notes = (notes_kept, notes_dropped)

module _ (k d e : List ℕ) where
  pub finish_over : (o p : List ℕ) (a b : ℕ) → most < came e → 5 ≤ length k → (a, o) ≡ put k 0 (in_hex 4 0xa08f) → (b, p) ≡ put o a (10 ∷ []) → (b, p) ≡ finished k d e
  unfolding finished too_many
  finish_over o p a b h g x y = picked _ _ _ _ (lt-ltb most (came e) h) (put_then k o p 0 a b 4 1 _ _ (length_hex 4 0xa08f) refl g x y)

  module _ (h : came e ≤ most) (r : ℕ × List ℕ) where
    pub finish_all : (m : ℕ) (text : List ℕ) → m ≡ min (get_or e 2 0) (length d) → text ≡ take m d → r ≡ put k (get_or e 1 0) text → r ≡ finished k d e
    unfolding finished
    finish_all m text f g x =
        let few : take m d ≡ take (get_or e 2 0) d =
        either (ltb (get_or e 2 0) (length d))
        (λ y. let z : get_or e 2 0 < length d = ltb-true _ _ y in let q : m ≡ get_or e 2 0 = omega arith in rw q)
        (λ y. let z : length d ≤ get_or e 2 0 = ltb-false _ _ y in rw (take_all m d (omega arith), take_all (get_or e 2 0) d z)) in
        passed _ _ _ _ (le-ltb most (came e) h) (x ∙ ap (put k (get_or e 1 0)) (g ∙ few))
