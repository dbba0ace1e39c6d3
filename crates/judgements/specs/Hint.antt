-- The hint, bit 16 of a fast identifier, makes no difference to the judgement of its call.
use Rattle.std.specs.Prelude.{◌≡◌, true, false, ◌⊎◌, ℕ, ◌+◌, ◌*◌, ◌/◌, ◌%◌, ◌^◌, eqb, get_or, drop}
use Rattle.std.proofs.Math.Path.{refl, ap}
use Rattle.std.proofs.Common.{sym, ◌∙◌, inl, inr, arith, eqb-true, eq-eqb, ne_eqb}
use mathlib.Core.List.{List, [], ◌∷◌}
use Rattle.std.proofs.lemmas.Bool.{eqb-false}
use Rattle.rules.specs.Choice.{either, chosen, first_or, second_or, neither}
use Rattle.identifiers.specs.Identifier.{bits, low32, identifier_of, parts, key_of, admitted, argument, key_fast, key_yielding}
use Rattle.identifiers.specs.declared.Parts.{Parts}
use Rattle.rules.specs.Sizes.{normal}
use Rattle.judgements.specs.Judge.{Sight, tested, only_from, one_of, called_by, args_of, asked, affirmed, architecture_calls, featuring, power_calls, power_featuring, judged_by, judged}
use Rattle.judgements.specs.Asked.{key}
use Rattle.judgements.specs.declared.Args.{Args}
use Rattle.judgements.specs.declared.Caller.{Caller}

-- ---- beside the key and the arguments, which are read by the width, a judgement looks at these parts alone
judged_alike : (s : Sight) (p q : Parts) (a : Args) (k : ℕ) → p.fast ≡ q.fast → p.owner ≡ q.owner → p.reserved ≡ q.reserved → judged_by s p a k ≡ judged_by s q a k
unfolding judged_by admitted
judged_alike s p q a k e f g = rw (e, f, g)

args_alike : (p q : Parts) (x0 y0 : ℕ) (xs : List ℕ) → p.wide ≡ q.wide → args_of p (x0 ∷ xs) ≡ args_of q (y0 ∷ xs)
unfolding args_of argument
args_alike p q x0 y0 xs e = rw e

-- ---- numbers that differ in bit 16 alone
pub bits_above : (a b h : ℕ) → h ≡ a / 2 ^ 16 % 2 → b + h * 2 ^ 16 ≡ a → b / 2 ^ 17 ≡ a / 2 ^ 17
bits_above a b h e f = omega arith

bit_clear : (a b h : ℕ) → h ≡ a / 2 ^ 16 % 2 → b + h * 2 ^ 16 ≡ a → b / 2 ^ 16 % 2 ≡ 0
bit_clear a b h e f = omega arith

pub same_above : (a b : ℕ) → b / 2 ^ 17 ≡ a / 2 ^ 17 → (a / 2 ^ 31 ≡ b / 2 ^ 31) × ((a / 2 ^ 30 ≡ b / 2 ^ 30) × (a / 2 ^ 24 ≡ b / 2 ^ 24))
same_above a b e = (omega arith, (omega arith, omega arith))

-- a is b with bit 16 set or not; what each leaves without its own bit 16 is the same
one_key : (k l a b h g : ℕ) → h ≡ a / 2 ^ 16 % 2 → b + h * 2 ^ 16 ≡ a → g ≡ 0 → k + a / 2 ^ 16 % 2 * 2 ^ 16 ≡ a → l + g * 2 ^ 16 ≡ b → k ≡ l
one_key k l a b h g e c z p q =
    let m : a / 2 ^ 16 % 2 * 2 ^ 16 ≡ h * 2 ^ 16 = ap (λ (n : ℕ). n * 2 ^ 16) (sym e) in
    cancel k l a b (h * 2 ^ 16) (ap (λ (n : ℕ). k + n) (sym m) ∙ p) (ap (λ (n : ℕ). l + n * 2 ^ 16) (sym z) ∙ q) c
  where
    cancel : (k l a b n : ℕ) → k + n ≡ a → l + 0 ≡ b → b + n ≡ a → k ≡ l
    cancel k l a b n p q c = omega arith

-- the low half of x0 holds the same bits
low_hint : (x : ℕ) → bits 16 16 x ≡ low32 x / 2 ^ 16 % 2
low_hint x = omega arith

low_fast : (x : ℕ) → bits 31 31 (low32 x) ≡ bits 31 31 x
low_fast x = omega arith

-- ---- x0 and y0 carry the same identifier but for the hint, which y0 has clear
module _ (x0 y0 : ℕ) (fast : bits 31 31 x0 ≡ 1) (clear : low32 y0 + bits 16 16 x0 * 2 ^ 16 ≡ low32 x0) where
  keys : key_of (identifier_of x0) ≡ key_of (identifier_of y0)
  unfolding identifier_of
  keys =
      let h = low_hint x0 in
      let u = same_above (low32 x0) (low32 y0) (bits_above (low32 x0) (low32 y0) (bits 16 16 x0) h clear) in
      let f = low_fast x0 ∙ fast in
      one_key _ _ (low32 x0) (low32 y0) (bits 16 16 x0) _ h clear (bit_clear (low32 x0) (low32 y0) (bits 16 16 x0) h clear)
      (key_fast (record { 0 = low32 x0 }) f) (key_fast (record { 0 = low32 y0 }) (ap (λ (n : ℕ). n % 2) (sym u.0) ∙ f))

  cleared : (s : Sight) (xs : List ℕ) → judged s (x0 ∷ xs) ≡ judged s (y0 ∷ xs)
  unfolding judged identifier_of parts
  cleared s xs =
      let v = bits_above (low32 x0) (low32 y0) (bits 16 16 x0) (low_hint x0) clear in
      let u = same_above (low32 x0) (low32 y0) v in
      let p = parts (identifier_of x0) in
      let q = parts (identifier_of y0) in
      judged_alike s p q (args_of p (x0 ∷ xs)) (key_of (identifier_of x0)) (ap (λ (n : ℕ). n % 2) u.0) (ap (λ (n : ℕ). n % 2 ^ 6) u.1.1) (ap (λ (n : ℕ). n % 2 ^ 7) (sym v))
      ∙ ap (λ (a : Args). judged_by s q a (key_of (identifier_of x0))) (args_alike p q x0 y0 xs (ap (λ (n : ℕ). n % 2) u.1.0))
      ∙ ap (λ (k : ℕ). judged_by s q (args_of q (y0 ∷ xs)) k) keys

-- two such x0 have the same width
pub hint_width : (xs : List ℕ) (y0 : ℕ) → low32 y0 + bits 16 16 (get_or xs 0 0) * 2 ^ 16 ≡ low32 (get_or xs 0 0) → (called_by xs).wide ≡ (called_by (y0 ∷ drop 1 xs)).wide
unfolding parts identifier_of
hint_width xs y0 clear =
    let x0 = get_or xs 0 0 in
    ap (λ (n : ℕ). n % 2) (same_above (low32 x0) (low32 y0) (bits_above (low32 x0) (low32 y0) (bits 16 16 x0) (low_hint x0) clear)).1.0

-- A fast call is judged as it is with another x0 that carries the same identifier with bit 16 clear, whatever the ledger, the caller and the arguments.
pub hint_idle : (s : Sight) (xs : List ℕ) (y0 : ℕ) → bits 31 31 (get_or xs 0 0) ≡ 1 → low32 y0 + bits 16 16 (get_or xs 0 0) * 2 ^ 16 ≡ low32 (get_or xs 0 0) → judged s xs ≡ judged s (y0 ∷ drop 1 xs)
hint_idle s [] y0 fast clear = absurd (omega arith)
hint_idle s (x0 ∷ xs) y0 fast clear = cleared x0 y0 fast clear s xs

-- A question whether a fast call is known is answered as it is about the identifier with bit 16 clear.
pub question_idle : (a b : Args) → bits 31 31 a.x1 ≡ 1 → low32 b.x1 + bits 16 16 a.x1 * 2 ^ 16 ≡ low32 a.x1
    → (featuring a ≡ featuring b) × ((v : Caller) → power_featuring v a ≡ power_featuring v b)
unfolding featuring power_featuring
question_idle a b fast clear =
    let e : asked a ≡ asked b = keys a.x1 b.x1 fast clear in
    (ap (λ (k : ℕ). affirmed (one_of k architecture_calls)) e, λ v. ap (λ (k : ℕ). tested (only_from normal v ∷ []) (affirmed (one_of k power_calls))) e)

-- ---- a question about an identifier in plain numbers
-- the number is one of these, or one of these with bit 16 set
abbrev pub Known : ℕ → List ℕ → Type 0
Known n [] = ⊥
Known n (k ∷ ks) = ((n ≡ k) ⊎ (n ≡ k + 65536)) ⊎ Known n ks

-- each is fast and has bit 16 clear
abbrev pub Plain : List ℕ → Type 0
Plain [] = Unit {0}
Plain (k ∷ ks) = ((bits 31 31 k ≡ 1) × (bits 16 16 k ≡ 0)) × Plain ks

module _ (n : ℕ) where
  key_of_lem : (k : ℕ) → bits 31 31 k ≡ 1 → bits 16 16 k ≡ 0 → (n ≡ k) ⊎ (n ≡ k + 65536) → key_of (record { 0 = n }) ≡ k
  key_of_lem k f z (inl e) = let h = key_fast (record { 0 = n }) (rw e f) in let g : bits 16 16 n ≡ 0 = rw e z in omega arith
  key_of_lem k f z (inr e) =
      let b : bits 31 31 n ≡ 1 = set_above k n f z e in
      let g : bits 16 16 n ≡ 1 = set_bit k n z e in
      let h = key_fast (record { 0 = n }) b in
      omega arith
    where
      set_bit : (k n : ℕ) → bits 16 16 k ≡ 0 → n ≡ k + 65536 → bits 16 16 n ≡ 1
      set_bit k n z e = omega arith

      set_above : (k n : ℕ) → bits 31 31 k ≡ 1 → bits 16 16 k ≡ 0 → n ≡ k + 65536 → bits 31 31 n ≡ 1
      set_above k n f z e = ap (λ (m : ℕ). m % 2) (same_above n k (bits_above n k 1 (sym (set_bit k n z e)) (sym e))).0 ∙ f

  of_key : (k : ℕ) → key_of (record { 0 = n }) ≡ k → (n ≡ k) ⊎ (n ≡ k + 65536)
  of_key k e =
      either (eqb (bits 31 31 n) 1)
      (λ y. let h = key_fast (record { 0 = n }) (eqb-true _ _ y) in
      either (eqb (bits 16 16 n) 0) (λ b. inl (let g : bits 16 16 n ≡ 0 = eqb-true _ _ b in omega arith)) (λ b. inr (let g : bits 16 16 n ≡ 0 → ⊥ = eqb-false _ _ b in omega arith)))
      (λ y. inl (let h : bits 31 31 n ≡ 1 → ⊥ = eqb-false _ _ y in sym (key_yielding (record { 0 = n }) (omega arith)) ∙ e))

  pub known : (ks : List ℕ) → Plain ks → Known n ks → one_of (key_of (record { 0 = n })) ks ≡ true
  unfolding one_of
  known (k ∷ ks) p (inl h) = first_or _ _ (eq-eqb _ _ (key_of_lem k p.0.0 p.0.1 h))
  known (k ∷ ks) p (inr h) = second_or (eqb (key_of (record { 0 = n })) k) _ (known ks p.1 h)
  known [] p x'' = elim x'' [ ]

  pub unknown : (ks : List ℕ) → (Known n ks → ⊥) → one_of (key_of (record { 0 = n })) ks ≡ false
  unfolding one_of
  unknown [] d = refl
  unknown (k ∷ ks) d = neither _ _ (ne_eqb _ _ (λ (e : key_of (record { 0 = n }) ≡ k). d (inl (of_key k e)))) (unknown ks (λ h. d (inr h)))

-- what a call reads of x1 has the same low half
pub arg_low : (p : Parts) (x : ℕ) → low32 (argument p x) ≡ low32 x
unfolding argument
arg_low p x = chosen (λ (n : ℕ). low32 n ≡ low32 x) (eqb p.wide 0) _ _ (λ e. omega arith) (λ e. refl)

-- ---- the key of a call in plain numbers
module _ (xs : List ℕ) where
  -- Of a fast call it is the low half of x0 without bit 16,
  pub fast_key : bits 31 31 (get_or xs 0 0) ≡ 1 → key xs + bits 16 16 (get_or xs 0 0) * 2 ^ 16 ≡ low32 (get_or xs 0 0)
  unfolding identifier_of
  fast_key e = ap (λ (n : ℕ). key xs + n * 2 ^ 16) (low_hint (get_or xs 0 0)) ∙ key_fast (record { 0 = low32 (get_or xs 0 0) }) (low_fast (get_or xs 0 0) ∙ e)

  -- and of a yielding one the low half itself.
  pub yielding_key : bits 31 31 (get_or xs 0 0) ≡ 0 → key xs ≡ low32 (get_or xs 0 0)
  unfolding identifier_of
  yielding_key e = key_yielding (record { 0 = low32 (get_or xs 0 0) }) (low_fast (get_or xs 0 0) ∙ e)
