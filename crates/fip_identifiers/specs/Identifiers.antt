-- Identifiers as text: sixteen bytes in lower-case digits, grouped 8-4-4-4-12.
use Rattle.std.specs.Prelude.{◌≡◌, refl, Option, None, Bool, true, false, ◌&&◌, List, [], ◌∷◌, ◌++◌, ℕ, zero, suc, ◌+◌, ◌-◌, ◌*◌, ◌/◌, ◌%◌, ◌≤◌, ◌<◌, ltb, eqb, length, get_or, replicate}
use Rattle.std.proofs.Common.{sym, ap, ◌∙◌, add-one, eq-or-lt_of_le, ⊎_elim, ext_get_or, eq-eqb, ne_eqb, eqb-true, ltb-true, ltb-false}
use native.Mathlib.Omega.{arith}
use Rattle.std.specs.Bool.{then_some}
use Rattle.rules.specs.Choice.{pick, either, yes_or_no, both_true, left_true, right_true}
use Rattle.tools.specs.Search.{all, all_at, all_if}
use Rattle.tools.specs.Laid.{laid, put, laid_append, length_laid}
use Rattle.hex_digits.specs.Rows.{Filled}
use Rattle.hex_digits.specs.Hex.{digit_of, sign_of, in_hex, length_hex, sign_low, sign_high, digit_low, digit_high}
use Rattle.hex_write.specs.Put.{was_put}

-- ---- the text of an identifier
-- the two digits of a byte
abbrev pub byte_text : ℕ → List ℕ
byte_text b = sign_of (b / 16) ∷ sign_of (b % 16) ∷ []

-- the digits of n bytes from a place on
unfoldable pub run : List ℕ → ℕ → ℕ → List ℕ
run t a zero = []
run t a (suc n) = byte_text (get_or t a 0) ++ run t (suc a) n

-- the identifier at a place
unfoldable pub id_text : List ℕ → ℕ → List ℕ
id_text t a = run t a 4 ++ (45 ∷ (run t (a + 4) 2 ++ (45 ∷ (run t (a + 6) 2 ++ (45 ∷ (run t (a + 8) 2 ++ (45 ∷ run t (a + 10) 6)))))))

-- sixteen bytes
pub record Sixteen (id : List ℕ) : Type 0 where
  pub size : length id ≡ 16
  pub bytes : (i : ℕ) → i < 16 → get_or id i 0 < 256

-- ---- the way back
-- two texts agree at a place
abbrev pub agree : List ℕ → List ℕ → ℕ → Bool
agree s t i = eqb (get_or s i 0) (get_or t i 0)

-- where the digits of byte i stand
unfoldable pub place_of : ℕ → ℕ
place_of i = pick (ltb i 4) (i * 2) (pick (ltb i 6) (i * 2 + 1) (pick (ltb i 8) (i * 2 + 2) (pick (ltb i 10) (i * 2 + 3) (i * 2 + 4))))

-- the byte that two digits stand for
unfoldable pub byte_of : List ℕ → ℕ → ℕ
byte_of l at = (digit_of (get_or l at 0) * 16 + digit_of (get_or l (at + 1) 0)) % 256

abbrev pub byte_at : List ℕ → ℕ → ℕ
byte_at l i = byte_of l (place_of i)

-- what a rule gives for n numbers from a on
unfoldable pub list_of : (ℕ → ℕ) → ℕ → ℕ → List ℕ
list_of f a zero = []
list_of f a (suc n) = f a ∷ list_of f (suc a) n

-- the bytes whose digits stand where those of an identifier do
unfoldable pub bytes_of : List ℕ → List ℕ
bytes_of l = list_of (byte_at l) 0 16

-- a text is an identifier where it is the text of those bytes
unfoldable pub is_identifier : List ℕ → Bool
is_identifier l = eqb (length l) 36 && all (agree l (id_text (bytes_of l) 0)) 0 36

-- the identifier that a text is
unfoldable pub identified : List ℕ → Option (List ℕ)
identified l = then_some (is_identifier l) (bytes_of l)

-- ---- digits, byte by byte
two_digits : (b : ℕ) → b < 256 → in_hex 2 b ≡ byte_text b
unfolding in_hex
two_digits b h = let e : b / 16 % 16 ≡ b / 16 = omega arith in rw e

pub pair_put : (o p : List ℕ) (at b x r : ℕ) → x ≡ b → b < 256 → at + 2 ≤ length o → (r, p) ≡ put o at (in_hex 2 x) → p ≡ laid o at (byte_text b)
pair_put o p at b x r f h g e = (was_put o p at r 2 (in_hex 2 x) (length_hex 2 x) g e).is ∙ ap (laid o at) (ap (in_hex 2) f ∙ two_digits b h)

run_next : (t : List ℕ) (a n : ℕ) → run t a (suc n) ≡ byte_text (get_or t a 0) ++ run t (a + 1) n
unfolding run
run_next t a n = rw add-one

-- i of n bytes are put
pub record Ran (o₀ o t : List ℕ) (at from n i : ℕ) : Type 0 where
  pub size : length o ≡ length o₀
  pub upto : i ≤ n
  pub left : laid o (at + i * 2) (run t (from + i) (n - i)) ≡ laid o₀ at (run t from n)

pub ran_none : (o t : List ℕ) (at from n : ℕ) → Ran o o t at from n 0
ran_none o t at from n =
    let e : at + 0 * 2 ≡ at = omega arith in
    let f : from + 0 ≡ from = omega arith in
    let g : n - 0 ≡ n = omega arith in
    record { size = refl; upto = omega arith; left = rw (e, f, g) }

module _ (o₀ o t : List ℕ) (at from n i : ℕ) (p : Ran o₀ o t at from n i) where
  pub ran_more : (o' : List ℕ) (b : ℕ) → i < n → b ≡ get_or t (from + i) 0 → o' ≡ laid o (at + i * 2) (byte_text b) → Ran o₀ o' t at from n (i + 1)
  ran_more o' b h e f =
      let m : suc (n - (i + 1)) ≡ n - i = omega arith in
      let k : at + (i + 1) * 2 ≡ at + i * 2 + 2 = omega arith in
      let j : from + (i + 1) ≡ from + i + 1 = omega arith in
      record {
        size = ap length f ∙ length_laid o (at + i * 2) (byte_text b) ∙ p.size;
        upto = omega arith;
        left = rw (f, e, k, j) (laid_append (byte_text (get_or t (from + i) 0)) (run t (from + i + 1) (n - (i + 1))) o (at + i * 2)
            ∙ ap (laid o (at + i * 2)) (sym (run_next t (from + i) (n - (i + 1))) ∙ ap (run t (from + i)) m) ∙ p.left);
      }

  pub ran_all : n ≤ i → o ≡ laid o₀ at (run t from n)
  unfolding run laid
  ran_all h = let e : n - i ≡ 0 = omega arith in rw e at p.left

pub ruleset running = (ran_none, ran_more, ran_all)

-- the digits laid over a row of dashes
pub over_dashes :
    (t z o₁ o₂ o₃ o₄ o₅ : List ℕ) (a : ℕ) → z ≡ replicate 36 45 → o₁ ≡ laid z 0 (run t a 4) → o₂ ≡ laid o₁ 9 (run t (a + 4) 2) → o₃ ≡ laid o₂ 14 (run t (a + 6) 2) →
    o₄ ≡ laid o₃ 19 (run t (a + 8) 2) → o₅ ≡ laid o₄ 24 (run t (a + 10) 6) → o₅ ≡ id_text t a
unfolding id_text run laid
over_dashes t z o₁ o₂ o₃ o₄ o₅ a e f g h i j = rw (j, i, h, g, f, e)

pub length_id : (t : List ℕ) (a : ℕ) → length (id_text t a) ≡ 36
unfolding id_text run
length_id t a = refl

-- ---- reading
module _ (s t : List ℕ) (i a b : ℕ) (e : a ≡ get_or s i 0) (f : b ≡ get_or t i 0) where
  pub agree_yes : a ≡ b → agree s t i ≡ true
  agree_yes h = eq-eqb (get_or s i 0) (get_or t i 0) (cc)

  pub agree_no : (a ≡ b → ⊥) → agree s t i ≡ false
  agree_no h = ne_eqb (get_or s i 0) (get_or t i 0) (λ g. h (e ∙ g ∙ sym f))

-- the places below n at which both agree
pub all_agree : (s t : List ℕ) (n i : ℕ) → n ≤ i → ((k : ℕ) → k < i → agree s t k ≡ true) → true ≡ all (agree s t) 0 n
all_agree s t n i h f = sym (all_if (agree s t) 0 n (λ k _ g. f k (omega arith)))

pub one_differs : (s t : List ℕ) (n i : ℕ) → i < n → agree s t i ≡ false → false ≡ all (agree s t) 0 n
one_differs s t n i h e =
    either (all (agree s t) 0 n) (λ y. absurd (yes_or_no (agree s t i) (all_at (agree s t) 0 n i y (omega arith) (omega arith)) e)) (λ x. sym x)

pub byte_at_lem : (l : List ℕ) (i p x : ℕ) → x ≡ byte_of l p → p ≡ place_of i → x ≡ byte_at l i
byte_at_lem l i p x e f = e ∙ ap (byte_of l) f

-- ---- the bytes of an identifier's own text are the identifier
digit_sign : (d : ℕ) → d < 16 → digit_of (sign_of d) ≡ d
digit_sign d h =
    either (ltb d 10)
    (λ e. let g : d < 10 = ltb-true _ _ e in rw (← sign_low d g) (digit_low (48 + d) (omega arith) (omega arith) ∙ omega arith))
    (λ e. let g : 10 ≤ d = ltb-false _ _ e in rw (← sign_high d g) (digit_high (87 + d) (omega arith) (omega arith) ∙ omega arith))

pair_back : (b : ℕ) → b < 256 → (digit_of (sign_of (b / 16)) * 16 + digit_of (sign_of (b % 16))) % 256 ≡ b
pair_back b h =
    let high : b / 16 < 16 = omega arith in
    let low : b % 16 < 16 = omega arith in
    rw (digit_sign (b / 16) high, digit_sign (b % 16) low) (omega arith)

-- a statement of every number below n, one after the other
Each : (ℕ → Type 0) → ℕ → Type 0
Each P zero = Unit {0}
Each P (suc n) = Each P n × P n

each_at : (P : ℕ → Type 0) (n k : ℕ) → Each P n → k < n → P k
unfolding Each
each_at P zero k e h = absurd (omega arith)
each_at P (suc n) k e h =
    let m : k ≤ n = omega arith in
    ⊎_elim (λ (z : k ≡ n). rw z e.1) (λ (z : k < n). each_at P n k e.0 z) (eq-or-lt_of_le m)

pub byte_back : (id : List ℕ) → Sixteen id → (k : ℕ) → k < 16 → byte_at (id_text id 0) k ≡ get_or id k 0
unfolding Each id_text run byte_of place_of pick
byte_back id s k h =
    let b : (k : ℕ) → k < 16 → (digit_of (sign_of (get_or id k 0 / 16)) * 16 + digit_of (sign_of (get_or id k 0 % 16))) % 256 ≡ get_or id k 0 = λ k g. pair_back (get_or id k 0) (s.bytes k g) in
    each_at (λ (k : ℕ). byte_at (id_text id 0) k ≡ get_or id k 0) 16 k
    ((((((((((((((((tt, b 0 (omega arith)), b 1 (omega arith)), b 2 (omega arith)), b 3 (omega arith)), b 4 (omega arith)), b 5 (omega arith)), b 6 (omega arith)), b 7 (omega arith)), b 8 (omega arith)), b 9 (omega arith)), b 10 (omega arith)), b 11 (omega arith)), b 12 (omega arith)), b 13 (omega arith)), b 14 (omega arith)), b 15 (omega arith)) h

-- two identifiers of one text are one
pub one_text : (a b : List ℕ) → Sixteen a → Sixteen b → id_text a 0 ≡ id_text b 0 → a ≡ b
one_text a b p q e =
    ext_get_or 0 a b (p.size ∙ sym q.size) (λ i h.
    let k : i < 16 = omega (arith, p.size) in
    sym (byte_back a p i k) ∙ rw e (byte_back b q i k))

-- ---- whether a text is an identifier's
at_list : (f : ℕ → ℕ) (a n i : ℕ) → i < n → get_or (list_of f a n) i 0 ≡ f (a + i)
unfolding list_of
at_list f a zero i h = absurd (omega arith)
at_list f a (suc n) zero h = let e : a + 0 ≡ a = omega arith in rw e
at_list f a (suc n) (suc i) h = let e : a + suc i ≡ suc a + i = omega arith in rw e (at_list f (suc a) n i (omega arith))

at_first : (f : ℕ → ℕ) (n i : ℕ) → i < n → get_or (list_of f 0 n) i 0 ≡ f i
at_first f n i h = let e : 0 + i ≡ i = omega arith in at_list f 0 n i h ∙ ap f e

length_list : (f : ℕ → ℕ) (a n : ℕ) → length (list_of f a n) ≡ n
unfolding list_of
length_list f a zero = refl
length_list f a (suc n) = ap suc (length_list f (suc a) n)

-- what a loop filled by the rule
pub filled_bytes : (text l : List ℕ) (i : ℕ) → 16 ≤ i → Filled (byte_at text) 16 i l → l ≡ bytes_of text
unfolding bytes_of
filled_bytes text l i h r =
    ext_get_or 0 l (list_of (byte_at text) 0 16) (r.size ∙ sym (length_list (byte_at text) 0 16))
    (λ j g. let k : j < 16 = omega (arith, r.size) in r.done j (omega arith) ∙ sym (at_first (byte_at text) 16 j k))

pub not_sized : (text : List ℕ) → (length text ≡ 36 → ⊥) → None ≡ identified text
unfolding identified is_identifier
not_sized text h = rw (ne_eqb (length text) 36 h)

pub compared :
    (text id own : List ℕ) (same : Bool) (r : Option (List ℕ)) → length text ≡ 36 → id ≡ bytes_of text → own ≡ id_text id 0 → same ≡ all (agree text own) 0 36 →
    r ≡ then_some same id → r ≡ identified text
unfolding identified is_identifier
compared text id own same r h e f g k = rw (eq-eqb (length text) 36 h, ← e, ← f, ← g) k

-- ---- the theorem
-- A text is of one identifier, or of none.
pub record Identified (text : List ℕ) (given : Bool) (id : List ℕ) : Type 0 where
  pub own : given ≡ true → text ≡ id_text id 0
  pub none : given ≡ false → (i : List ℕ) → Sixteen i → text ≡ id_text i 0 → ⊥

pub right_answer : (text : List ℕ) → Identified text (is_identifier text) (bytes_of text)
unfolding is_identifier bytes_of
right_answer text =
    let id = bytes_of text in
    let same = all (agree text (id_text id 0)) 0 36 in
    let sized = eqb (length text) 36 in
    record {
      own = λ y.
          let long : length text ≡ 36 = eqb-true _ _ (left_true sized same y) in
          ext_get_or 0 text (id_text id 0) (long ∙ sym (length_id id 0))
          (λ i k. eqb-true _ _ (all_at (agree text (id_text id 0)) 0 36 i (right_true sized same y) (omega arith) (omega arith)));
      none = λ n i s t.
          let it : id ≡ i = ext_get_or 0 id i (length_list (byte_at text) 0 16 ∙ sym s.size) (λ k m.
          let h : k < 16 = omega (arith, length_list (byte_at text) 0 16) in
          at_first (byte_at text) 16 k h ∙ rw t (byte_back i s k h)) in
          yes_or_no (is_identifier text)
          (both_true sized same (eq-eqb (length text) 36 (ap length t ∙ length_id i 0)) (all_if (agree text (id_text id 0)) 0 36
          (λ k a b. eq-eqb (get_or text k 0) (get_or (id_text id 0) k 0) (ap (λ (l : List ℕ). get_or l k 0) (t ∙ ap (λ (l : List ℕ). id_text l 0) (sym it))))))
          n;
    }
