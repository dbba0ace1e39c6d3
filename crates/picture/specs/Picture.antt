-- The window as a picture: rows of 64 letters, one a page by its owner, mapped pages in capitals, each behind its first address.
use Rattle.std.proofs.Math.Path.{◌≡◌, refl}
use Rattle.std.proofs.Common.{sym, ◌∙◌}
use Rattle.std.specs.Prelude.{Bool, true, false, ltb, set, get_or, min}
use mathlib.Core.List.{List, [], ◌∷◌, ◌++◌}
use Prim.Native.Nat.{ℕ, zero, suc, ◌+◌, ◌-◌, ◌≤◌, ◌<◌}
use Rattle.std.proofs.Math.Numerals.{add-one}
use native.Mathlib.Omega.{arith}
use Rattle.std.proofs.Math.ListN.{length, length-append}
use borrow.Author.Tests.{le-leb, lt-leb, ltb-true, ltb-false}
use Rattle.rules.specs.Choice.{pick, picked, passed, pick_yes, chosen, either}
use Rattle.tools.specs.Laid.{laid, put, put_fits}
use Rattle.hex_digits.specs.Signs.{signs}
use Rattle.hex_write.specs.Put.{Laid, was_put, put_then}
use Rattle.pages.specs.Owners.{owner}
use Rattle.pages.specs.declared.Window.{Window}
use Rattle.mapping.specs.Lists.{held}
use Rattle.mapping.specs.Mapping.{meets_run}
use Rattle.writing.specs.Put.{blanks, length_blanks}
use Rattle.phrases.specs.Text.{hex_text, hex_few, longest, told}
use Rattle.standing.specs.Standing.{address_of, is_wide}

-- ---- a page
-- Root, Secure, Normal, Realm: in small letters, and where their pages are mapped in capitals; Root maps none
unfoldable pub letter_of : ℕ → Bool → ℕ
letter_of u mapped = get_or (pick mapped (signs "?SNR") (signs ".snr")) u 63

unfoldable pub letter_at : Window → List ℕ → List ℕ → ℕ → ℕ
letter_at w o l page = letter_of (owner o page) (meets_run (held l (owner o page)) (address_of w page) 1)

-- ---- a row
-- the letters of so many pages
unfoldable pub drawn : Window → List ℕ → List ℕ → ℕ → ℕ → List ℕ
drawn w o l page zero = []
drawn w o l page (suc n) = letter_at w o l page ∷ drawn w o l (suc page) n

abbrev pub row_pages : ℕ
row_pages = 64

-- the window's pages from this one on, but no more than a row has
unfoldable pub row_length : ℕ → ℕ → ℕ
row_length pages page = pick (ltb (pages - page) row_pages) (pages - page) row_pages

-- the column in which the letters begin: behind an address of eight digits, or of sixteen
unfoldable pub row_column : Window → ℕ
row_column w = pick (is_wide w) 18 10

-- the first address, and the letters
unfoldable pub row_text : Window → List ℕ → List ℕ → ℕ → List ℕ
row_text w o l page =
    let address = hex_text (address_of w page) in
    address ++ (blanks (row_column w - length address) ++ (drawn w o l page (row_length w.pages page) ++ 10 ∷ []))

-- ---- how the code meets a letter
module _ (u r : ℕ) (b : Bool) (l : List ℕ) (e : r ≡ get_or l u 63) where
  pub letter_capital : b ≡ true → l ≡ signs "?SNR" → r ≡ letter_of u b
  unfolding letter_of pick
  letter_capital y f = e ∙ rw (y, f)

  pub letter_small : b ≡ false → l ≡ signs ".snr" → r ≡ letter_of u b
  unfolding letter_of pick
  letter_small k f = e ∙ rw (k, f)

pub letter_so : (w : Window) (o l : List ℕ) (page u a : ℕ) (b : Bool) (r : ℕ) → u ≡ owner o page → a ≡ address_of w page → b ≡ meets_run (held l u) a 1 → r ≡ letter_of u b → r ≡ letter_at w o l page
unfolding letter_at
letter_so w o l page u a b r e f g h = h ∙ rw (g, f, e)

-- ---- letter behind letter: `k` is what the whole row makes of the space
module _ (w : Window) (o l : List ℕ) where
  pub length_drawn : (n page : ℕ) → length (drawn w o l page n) ≡ n
  unfolding drawn
  length_drawn zero page = refl
  length_drawn (suc n) page = rw (length_drawn n (suc page))

  drawn_next : (t : List ℕ) (here page n v : ℕ) → 0 < n → v ≡ letter_at w o l page → laid t here (drawn w o l page n) ≡ laid (set t here v) (here + 1) (drawn w o l (page + 1) (n - 1))
  unfolding drawn laid
  drawn_next t here page zero v h e = absurd (omega arith)
  drawn_next t here page (suc n) v h e = let q : suc n - 1 ≡ n = omega arith in rw (q, add-one here, add-one page, e)

  drawn_none : (t : List ℕ) (here page n : ℕ) → n ≤ 0 → laid t here (drawn w o l page n) ≡ t
  unfolding drawn laid
  drawn_none t here page zero h = refl
  drawn_none t here page (suc n) h = absurd (omega arith)

  module _ (t k : List ℕ) (here page n : ℕ) (i : k ≡ laid t here (drawn w o l page n)) where
    pub draw_goes : (v here' page' m : ℕ) → 0 < n → v ≡ letter_at w o l page → here' ≡ here + 1 → page' ≡ page + 1 → m ≡ n - 1 → k ≡ laid (set t here v) here' (drawn w o l page' m)
    draw_goes v here' page' m h e p q r = i ∙ rw (p, q, r) (drawn_next t here page n v h e)

    pub draw_ends : n ≤ 0 → t ≡ k
    draw_ends h = sym (i ∙ drawn_none t here page n h)

  -- the place behind the letters
  pub draw_put : (s t : List ℕ) (at page count here n later r : ℕ) → laid s at (drawn w o l page count) ≡ laid t here (drawn w o l later n) → n ≤ 0 → here + n ≡ at + count → r ≡ at + count → at + count ≤ length s
      → (r, t) ≡ put s at (drawn w o l page count)
  draw_put s t at page count here n later r i h e z fits = rw z (put_fits s at (drawn w o l page count) count (length_drawn count page) t fits (draw_ends t _ here later n i h))

-- ---- how many letters
module _ (pages page : ℕ) where
  pub lengths : (r : ℕ) → r ≡ min (pages - page) row_pages → r ≡ row_length pages page
  unfolding row_length
  lengths r e =
      either (ltb (pages - page) row_pages)
      (λ y. picked _ _ _ _ y (omega (arith, ltb-true _ _ y)))
      (λ k. passed _ _ _ _ k (omega (arith, ltb-false _ _ k)))

-- ---- a row, part behind part
module _ (w : Window) where
  pub column_wide : (b : Bool) → b ≡ is_wide w → b ≡ true → 18 ≡ row_column w
  unfolding row_column
  column_wide b is e = picked _ _ _ _ (sym is ∙ e) refl

  pub column_plain : (b : Bool) → b ≡ is_wide w → b ≡ false → 10 ≡ row_column w
  unfolding row_column
  column_plain b is e = passed _ _ _ _ (sym is ∙ e) refl

  column_few : row_column w ≤ 18
  unfolding row_column
  column_few = chosen (λ (k : ℕ). k ≤ 18) (is_wide w) _ _ (λ y. omega arith) (λ y. omega arith)

pub ruleset columns = (column_wide, column_plain)

module _ (o o₁ : List ℕ) (at a x : ℕ) (fits : at + 96 ≤ length o) (e : (a, o₁) ≡ put o at (hex_text x)) where
  one : Laid o o₁ at a (length (hex_text x)) (hex_text x)
  one = was_put o o₁ at a (length (hex_text x)) (hex_text x) refl (omega (arith, hex_few x)) e

  pub behind : at ≤ a
  behind = omega (arith, one.place)

module _ (w : Window) (o o₁ o₂ : List ℕ) (at a b n x c k : ℕ) (fits : at + 96 ≤ length o) (few : n ≤ 64) (e : (a, o₁) ≡ put o at (hex_text x)) (col : c ≡ row_column w) (gap : k ≡ c - (a - at)) (f : (b, o₂) ≡ put o₁ a (blanks k)) where
  first : Laid o o₁ at a (length (hex_text x)) (hex_text x)
  first = one o o₁ at a x fits e

  narrow : length (hex_text x) + length (blanks k) ≤ 18
  narrow = omega (arith, (length_blanks k).1, column_few w, hex_few x, first.place)

  two : Laid o₁ o₂ a b (length (blanks k)) (blanks k)
  two = was_put o₁ o₂ a b (length (blanks k)) (blanks k) refl (omega (arith, hex_few x, first.place, first.size, narrow)) f

  pub row_room : b + n ≤ length o₂
  row_room = omega (arith, hex_few x, first.place, first.size, two.place, two.size, narrow)

  row_put : (v o₃ p : List ℕ) (d r : ℕ) → length v ≡ n → (d, o₃) ≡ put o₂ b v → (r, p) ≡ put o₃ d (10 ∷ []) → (r, p) ≡ put o at (hex_text x ++ (blanks k ++ (v ++ 10 ∷ [])))
  row_put v o₃ p d r h g q =
      put_then o o₁ p at a r _ (length (blanks k) + (n + 1)) (hex_text x) (blanks k ++ (v ++ 10 ∷ [])) refl
      (length-append (blanks k) (v ++ 10 ∷ []) ∙ omega (arith, length-append v (10 ∷ []))) (omega (arith, hex_few x, narrow)) e
      (put_then o₁ o₂ p a b r _ (n + 1) (blanks k) (v ++ 10 ∷ []) refl (length-append v (10 ∷ []) ∙ omega arith) (omega (arith, hex_few x, first.place, first.size, narrow)) f
      (put_then o₂ o₃ p b d r n 1 v (10 ∷ []) h refl (omega (arith, hex_few x, first.place, first.size, two.place, two.size, narrow)) g q))

  pub row_so : (o' l : List ℕ) (page : ℕ) (o₃ p : List ℕ) (d r : ℕ) → n ≡ row_length w.pages page → x ≡ address_of w page
      → (d, o₃) ≡ put o₂ b (drawn w o' l page n) → (r, p) ≡ put o₃ d (10 ∷ []) → (r, p) ≡ put o at (row_text w o' l page)
  unfolding row_text
  row_so o' l page o₃ p d r is at g q =
      let z : k ≡ row_column w - length (hex_text x) = omega (arith, first.place) in
      rw (← is, ← at, ← z) (row_put (drawn w o' l page n) o₃ p d r (length_drawn w o' l n page) g q)

-- ---- the row, put or not
row_few : (pages page : ℕ) → row_length pages page ≤ 64
unfolding row_length
row_few pages page = chosen (λ (k : ℕ). k ≤ 64) (ltb (pages - page) row_pages) _ _ (λ y. omega (arith, ltb-true (pages - page) row_pages y)) (λ y. omega arith)

module _ (w : Window) (o l : List ℕ) (page : ℕ) where
  sizes : (0 < length (row_text w o l page)) × (length (row_text w o l page) ≤ longest)
  unfolding row_text
  sizes =
      let x = address_of w page in
      let k = row_column w - length (hex_text x) in
      let v = drawn w o l page (row_length w.pages page) in
      let n = length_drawn w o l (row_length w.pages page) page in
      let c = length-append v (10 ∷ []) in
      let b = length-append (blanks k) (v ++ 10 ∷ []) in
      let a = length-append (hex_text x) (blanks k ++ (v ++ 10 ∷ [])) in
      (omega arith, omega (arith, hex_few x, (length_blanks k).0, row_few w.pages page))

  pub text_some : 0 < length (row_text w o l page)
  text_some = sizes.0

  pub text_short : length (row_text w o l page) ≤ longest
  text_short = sizes.1

  module _ (out p : List ℕ) (at r : ℕ) where
    pub row_told : at + longest ≤ length out → (r, p) ≡ put out at (row_text w o l page) → (r, p) ≡ told out at (row_text w o l page)
    unfolding told put
    row_told h e =
        let text = row_text w o l page in
        let z : ◌≡◌ {A = ℕ × List ℕ} (r, p) (at + length text, laid out at text) = e ∙ pick_yes _ _ _ (le-leb (at + length text) (length out) (omega (arith, text_short))) in
        picked _ _ _ _ (le-leb (at + longest) (length out) h) z

  pub row_not : (out : List ℕ) (at : ℕ) → length out < at + longest → (at, out) ≡ told out at (row_text w o l page)
  unfolding told
  row_not out at h = passed _ _ _ _ (lt-leb (at + longest) (length out) h) refl

pub ruleset laws = (letter_so, lengths, columns, row_told, row_not)
