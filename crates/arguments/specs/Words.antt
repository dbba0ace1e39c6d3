-- Words: the names of the worlds, and numbers in decimal digits.
use Rattle.std.specs.Prelude.{◌≡◌, Bool, true, ◌&&◌, ◌||◌, List, [], ◌∷◌, ℕ, zero, suc, ◌+◌, ◌-◌, ◌*◌, ◌≤◌, ◌<◌, eqb, ltb, length, get_or}
use Rattle.std.proofs.Math.Path.{refl, sym}
use Rattle.std.proofs.Common.{◌∙◌, add-one}
use Rattle.std.proofs.Common.{min, arith}
use Rattle.std.specs.Bool.{Decides}
use Rattle.std.proofs.lemmas.List.{ext_get_or}
use borrow.Author.Tests.{eq-eqb, ne_eqb, eqb-true, lt-ltb, le-ltb, ltb-true, ltb-false}
use Rattle.rules.specs.Sizes.{root, secure, normal, realm}
use Rattle.rules.specs.Choice.{pick, picked, passed, pick_yes, pick_no, first_or, second_or, neither, both_true, left_true, right_true, either}
use Rattle.tools.specs.Search.{all, any, all_if, all_at, any_goes, any_stops, any_ends}
use Rattle.std.specs.Prelude.{Option, Some, None}

-- ---- a name
-- the two have the same sign at a place
unfoldable pub agree : List ℕ → List ℕ → ℕ → Bool
agree word name i = eqb (get_or word i 0) (get_or name i 0)

-- they are one word
unfoldable pub is_word : List ℕ → List ℕ → Bool
is_word word name = eqb (length word) (length name) && all (agree word name) 0 (length name)

-- the world of this name, and Root where it is none's
unfoldable pub world_of : List ℕ → ℕ
world_of word =
    pick (is_word word (115 ∷ 101 ∷ 99 ∷ 117 ∷ 114 ∷ 101 ∷ [])) secure
    (pick (is_word word (110 ∷ 111 ∷ 114 ∷ 109 ∷ 97 ∷ 108 ∷ [])) normal
    (pick (is_word word (114 ∷ 101 ∷ 97 ∷ 108 ∷ 109 ∷ [])) realm root))

-- ---- a number
-- a digit's worth, and 10 for a sign that is none
unfoldable pub digit_of : ℕ → ℕ
digit_of s = pick (ltb s 48 || ltb 57 s) 10 (s - 48)

-- the sign at a place is no digit
unfoldable pub is_other : List ℕ → ℕ → Bool
is_other word i = eqb (digit_of (get_or word i 0)) 10

-- a number with one digit more, 2^32 at the most
unfoldable pub capped : ℕ → ℕ → ℕ
capped n d = pick (ltb 4294967296 (10 * n + d)) 4294967296 (10 * n + d)

-- what the first digits of a word stand for, 2^32 at the most
unfoldable pub worth : List ℕ → ℕ → ℕ
worth word zero = 0
worth word (suc i) = capped (worth word i) (digit_of (get_or word i 0))

-- the number of a word: it has a sign, and each is a digit
unfoldable pub counted : List ℕ → Option ℕ
counted word = pick (any (is_other word) 0 (length word)) None (pick (ltb 0 (length word)) (Some (worth word (length word))) None)

-- ---- how the code meets these
module _ (word name : List ℕ) where
  pub word_same : word ≡ name → is_word word name ≡ true
  unfolding is_word agree
  word_same e = rw e (both_true _ _ (eq-eqb (length name) (length name) refl) (all_if (agree name name) 0 (length name) (λ i h l. eq-eqb (get_or name i 0) (get_or name i 0) refl)))

  pub word_read : is_word word name ≡ true → word ≡ name
  unfolding is_word agree
  word_read h =
      let e = eqb-true (length word) (length name) (left_true _ _ h) in
      ext_get_or 0 word name e (λ i l. eqb-true _ _ (all_at (agree word name) 0 (length name) i (right_true _ _ h) (omega arith) (omega arith)))

  pub word_is : Decides (is_word word name) (word ≡ name)
  word_is = (word_read, word_same)

module _ (s : ℕ) where
  pub digit_low : s < 48 → digit_of s ≡ 10
  unfolding digit_of
  digit_low h = pick_yes _ _ _ (first_or (ltb s 48) _ (lt-ltb s 48 h))

  pub digit_high : 57 < s → digit_of s ≡ 10
  unfolding digit_of
  digit_high h = pick_yes _ _ _ (second_or (ltb s 48) _ (lt-ltb 57 s h))

  pub digit_here : 48 ≤ s → s ≤ 57 → digit_of s ≡ s - 48
  unfolding digit_of
  digit_here h u = pick_no _ _ _ (neither _ _ (le-ltb s 48 h) (le-ltb 57 s u))

module _ (n d : ℕ) where
  pub capped_is : min (10 * n + d) 4294967296 ≡ capped n d
  unfolding capped
  capped_is =
      either (ltb 4294967296 (10 * n + d))
      (λ y. let h = ltb-true _ _ y in omega arith ∙ sym (pick_yes _ _ _ y))
      (λ f. let h = ltb-false _ _ f in omega arith ∙ sym (pick_no _ _ _ f))

-- the loop over digits
module _ (word : List ℕ) (i : ℕ) (whole : Bool) (inv : whole ≡ any (is_other word) i (length word - i)) (h : i < length word) where
  pub other_here : digit_of (get_or word i 0) ≡ 10 → whole ≡ true
  unfolding is_other
  other_here e = sym (any_stops _ _ _ _ inv (omega arith) (eq-eqb (digit_of (get_or word i 0)) 10 e))

  pub others_on : digit_of (get_or word i 0) < 10 → whole ≡ any (is_other word) (i + 1) (length word - (i + 1))
  unfolding is_other
  others_on u =
      let z : length word - (i + 1) ≡ length word - i - 1 = omega arith in
      rw z (any_goes _ _ _ _ inv (omega arith) (ne_eqb (digit_of (get_or word i 0)) 10 (λ e. omega arith)))

module _ (word : List ℕ) where
  pub worth_goes : (i n d n' : ℕ) → n ≡ worth word i → d ≡ digit_of (get_or word i 0) → n' ≡ capped n d → n' ≡ worth word (i + 1)
  unfolding worth
  worth_goes i n d n' g f h = rw (add-one i, ← f, ← g) h

  pub counted_empty : length word ≡ 0 → None ≡ counted word
  unfolding counted any pick
  counted_empty e = rw e refl

  pub counted_not : any (is_other word) 0 (length word) ≡ true → None ≡ counted word
  unfolding counted
  counted_not e = picked _ _ _ _ e refl

  pub counted_yes : (i n : ℕ) → any (is_other word) 0 (length word) ≡ any (is_other word) i (length word - i) → 0 < length word → i ≡ length word → n ≡ worth word i → Some n ≡ counted word
  unfolding counted
  counted_yes i n inv h f g =
      passed _ _ _ _ (sym (any_ends _ _ _ _ inv (omega arith))) (picked _ _ _ _ (lt-ltb 0 (length word) h) (rw (g, f) refl))
