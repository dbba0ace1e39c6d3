-- A call's identifier: the parts in its fields, and the identifier that parts make.
use Rattle.std.proofs.Math.Path.{◌≡◌, sym}
use Rattle.std.proofs.Common.{ap, ◌∙◌, lt-ltb, ltb-true, eq-eqb, ne_eqb}
use Rattle.std.specs.Prelude.{Bool, true, false, ◌&&◌, ℕ, ◌+◌, ◌-◌, ◌*◌, ◌/◌, ◌%◌, ◌^◌, ◌≤◌, ◌<◌, ltb, eqb, None, Option, Some}
use native.Mathlib.Omega.{arith}
use Rattle.rules.specs.Choice.{pick, pick_yes, pick_no, chosen, either, left_true, right_true}
use Rattle.identifiers.specs.declared.Identifier.{Identifier}
use Rattle.identifiers.specs.declared.Parts.{Parts}

-- what the bits from `high` down to `low` hold, and whether they have room for a number
abbrev pub bits : ℕ → ℕ → ℕ → ℕ
bits high low n = n / 2 ^ low % 2 ^ (high + 1 - low)

abbrev pub fits : ℕ → ℕ → ℕ → Bool
fits high low v = ltb v (2 ^ (high + 1 - low))

abbrev pub low32 : ℕ → ℕ
low32 x = x % 2 ^ 32

-- the identifier that x0 carries: its lower half
unfoldable pub identifier_of : ℕ → Identifier
identifier_of x0 = record { 0 = low32 x0 }

-- an identifier by its fields
unfoldable pub parts : Identifier → Parts
parts i =
    record {
      fast = bits 31 31 i.0;
      wide = bits 30 30 i.0;
      owner = bits 29 24 i.0;
      function = bits 15 0 i.0;
      hint = bits 16 16 i.0;
      reserved = bits 23 17 i.0;
    }

-- each part fits its field
unfoldable pub fitting : Parts → Bool
fitting p =
    fits 31 31 p.fast && (fits 30 30 p.wide && (fits 29 24 p.owner && (fits 15 0 p.function && (fits 16 16 p.hint && fits 23 17 p.reserved))))

-- the identifier whose fields hold these parts
unfoldable pub whole_of : Parts → Identifier
whole_of p = record { 0 = p.fast * 2 ^ 31 + p.wide * 2 ^ 30 + p.owner * 2 ^ 24 + p.reserved * 2 ^ 17 + p.hint * 2 ^ 16 + p.function }

-- parts that all fit make an identifier; others make none
unfoldable pub joined : Parts → Option Identifier
joined p = pick (fitting p) (Some (whole_of p)) None

-- the one key by which identifiers are compared: of a fast one, without its hint
unfoldable pub key_of : Identifier → ℕ
key_of i = pick (eqb (bits 31 31 i.0) 1) (i.0 - bits 16 16 i.0 * 2 ^ 16) i.0

-- a fast identifier may have no reserved bit set; a yielding one may
unfoldable pub admitted : Parts → Bool
admitted p = pick (eqb p.fast 1) (eqb p.reserved 0) true

-- what a call of this width sees of a number
unfoldable pub argument : Parts → ℕ → ℕ
argument p x = pick (eqb p.wide 0) (low32 x) x

-- how many bits a negative answer takes: by the width of the call, which for an identifier is its bit 30
unfoldable pub answer_bits : Parts → ℕ
answer_bits p = pick (eqb p.wide 0) 32 64

unfoldable pub answer_bits_of : Identifier → ℕ
answer_bits_of i = pick (eqb (bits 30 30 i.0) 0) 32 64

-- ---- each part in range of its field
pub record InRange (p : Parts) : Type 0 where
  pub fast : p.fast < 2
  pub wide : p.wide < 2
  pub owner : p.owner < 64
  pub function : p.function < 65536
  pub hint : p.hint < 2
  pub reserved : p.reserved < 128

pub parts_in_range : (i : Identifier) → InRange (parts i)
unfolding parts
parts_in_range i = record { fast = omega arith; wide = omega arith; owner = omega arith; function = omega arith; hint = omega arith; reserved = omega arith }

in_range : (p : Parts) → fitting p ≡ true → InRange p
unfolding fitting
in_range p e =
    let a = right_true (fits 31 31 p.fast) _ e in
    let b = right_true (fits 30 30 p.wide) _ a in
    let c = right_true (fits 29 24 p.owner) _ b in
    let d = right_true (fits 15 0 p.function) _ c in
    record {
      fast = ltb-true _ _ (left_true _ _ e);
      wide = ltb-true _ _ (left_true _ _ a);
      owner = ltb-true _ _ (left_true _ _ b);
      function = ltb-true _ _ (left_true _ _ c);
      hint = ltb-true _ _ (left_true _ _ d);
      reserved = ltb-true _ _ (right_true (fits 16 16 p.hint) _ d);
    }

fits_all : (p : Parts) → InRange p → fitting p ≡ true
unfolding fitting
fits_all p r = simp (lt-ltb _ _ r.fast, lt-ltb _ _ r.wide, lt-ltb _ _ r.owner, lt-ltb _ _ r.function, lt-ltb _ _ r.hint, lt-ltb _ _ r.reserved)

-- ---- joining refuses exactly where a part is out of range
module _ (p : Parts) where
  pub joins : InRange p → joined p ≡ Some (whole_of p)
  unfolding joined
  joins r = pick_yes (fitting p) _ _ (fits_all p r)

  pub too_large : (InRange p → ⊥) → joined p ≡ None
  unfolding joined
  too_large n = either (fitting p) (λ e. absurd (n (in_range p e))) (λ e. pick_no (fitting p) _ _ e)

  pub joined_in_range : (i : Identifier) → joined p ≡ Some i → InRange p
  unfolding joined
  joined_in_range i e =
      either (fitting p) (λ f. in_range p f)
      (λ f. let z : ◌≡◌ {A = ℕ} 0 1 = cc (pick_no (fitting p) (Some (whole_of p)) None f) in absurd (omega arith))

  joined_is : (i : Identifier) → joined p ≡ Some i → i ≡ whole_of p
  joined_is i e = cc (joins (joined_in_range i e))

  -- how the code meets these: `found` is what its test says
  module _ (found : Bool) (e : found ≡ fitting p) where
    pub found_in_range : found ≡ true → InRange p
    found_in_range y = in_range p (sym e ∙ y)

    pub joining : (i : Identifier) → found ≡ true → i ≡ whole_of p → Some i ≡ joined p
    joining i y h = ap Some h ∙ sym (joins (found_in_range y))

    pub refusing : found ≡ false → None ≡ joined p
    unfolding joined
    refusing n = sym (pick_no (fitting p) _ _ (sym e ∙ n))

  pub made_whole : (n : ℕ) → n ≡ (whole_of p).0 → record { 0 = n } ≡ whole_of p
  unfolding whole_of
  made_whole n e = λ k. record { 0 = e k }

pub ruleset joinings = (found_in_range, joining, refusing)

-- ---- joining restores every identifier that was split, and splitting the parts that were joined
made_of : (n above16 above17 above24 above30 fast wide owner function hint reserved : ℕ)
    → n ≡ above16 * 2 ^ 16 + function → above16 ≡ above17 * 2 + hint → above17 ≡ above24 * 2 ^ 7 + reserved → above24 ≡ above30 * 2 ^ 6 + owner → above30 ≡ fast * 2 + wide
    → fast * 2 ^ 31 + wide * 2 ^ 30 + owner * 2 ^ 24 + reserved * 2 ^ 17 + hint * 2 ^ 16 + function ≡ n
made_of n above16 above17 above24 above30 fast wide owner function hint reserved a b c d e = omega arith

pub join_split : (i : Identifier) → i.0 < 2 ^ 32 → joined (parts i) ≡ Some i
unfolding parts whole_of
join_split i h =
    let e : (whole_of (parts i)).0 ≡ i.0 =
    made_of i.0 (i.0 / 2 ^ 16) (i.0 / 2 ^ 17) (i.0 / 2 ^ 24) (i.0 / 2 ^ 30) _ _ _ _ _ _ (omega arith) (omega arith) (omega arith) (omega arith) (omega arith) in
    joins (parts i) (parts_in_range i) ∙ ap (λ (n : ℕ). Some (record { 0 = n })) e

-- what stands below the rest in seven bits
lowest : (n above low : ℕ) → n ≡ above * 2 ^ 7 + low → low < 2 ^ 7 → n % 2 ^ 7 ≡ low
lowest n above low e h = omega arith

pub split_join : (p : Parts) (i : Identifier) → joined p ≡ Some i → parts i ≡ p
unfolding parts whole_of
split_join p i e =
    let r = joined_in_range p i e in
    let n : i.0 ≡ (whole_of p).0 = ap (λ (j : Identifier). j.0) (joined_is p i e) in
    let a : bits 31 31 i.0 ≡ p.fast = omega arith in
    let b : bits 30 30 i.0 ≡ p.wide = omega arith in
    let c : bits 29 24 i.0 ≡ p.owner = omega arith in
    let d : bits 15 0 i.0 ≡ p.function = omega arith in
    let u : i.0 / 2 ^ 16 ≡ p.fast * 2 ^ 15 + p.wide * 2 ^ 14 + p.owner * 2 ^ 8 + p.reserved * 2 + p.hint = omega arith in
    let v : i.0 / 2 ^ 17 ≡ p.fast * 2 ^ 14 + p.wide * 2 ^ 13 + p.owner * 2 ^ 7 + p.reserved = omega arith in
    let h : bits 16 16 i.0 ≡ p.hint = omega arith in
    let f : bits 23 17 i.0 ≡ p.reserved = lowest (i.0 / 2 ^ 17) (p.fast * 2 ^ 7 + p.wide * 2 ^ 6 + p.owner) p.reserved (omega arith) r.reserved in
    λ k. record { fast = a k; wide = b k; owner = c k; function = d k; hint = h k; reserved = f k }

-- ---- the key: a hint that is set, or is not, makes no difference to a fast identifier, and every other bit counts
module _ (i : Identifier) where
  pub key_fast : bits 31 31 i.0 ≡ 1 → key_of i + bits 16 16 i.0 * 2 ^ 16 ≡ i.0
  unfolding key_of
  key_fast e = rw (pick_yes _ _ _ (eq-eqb _ _ e)) (omega arith)

  pub key_yielding : bits 31 31 i.0 ≡ 0 → key_of i ≡ i.0
  unfolding key_of
  key_yielding e = pick_no _ _ _ (ne_eqb _ _ (λ (z : bits 31 31 i.0 ≡ 1). omega arith))

-- how the code meets it
module _ (i : Identifier) where
  pub keys_fast : (k : ℕ) → i.0 / 2 ^ 31 % 2 ≡ 1 → k ≡ i.0 - bits 16 16 i.0 * 2 ^ 16 → k ≡ key_of i
  unfolding key_of
  keys_fast k e h = h ∙ sym (pick_yes _ _ _ (eq-eqb _ _ e))

  pub keys_other : (i.0 / 2 ^ 31 % 2 ≡ 1 → ⊥) → i.0 ≡ key_of i
  unfolding key_of
  keys_other d = sym (pick_no _ _ _ (ne_eqb _ _ d))

-- ---- the width of answers
module _ (p : Parts) where
  pub bits_short : p.wide ≡ 0 → answer_bits p ≡ 32
  unfolding answer_bits
  bits_short e = pick_yes _ _ _ (eq-eqb _ _ e)

  pub bits_long : (p.wide ≡ 0 → ⊥) → answer_bits p ≡ 64
  unfolding answer_bits
  bits_long d = pick_no _ _ _ (ne_eqb _ _ d)

  -- the room that they leave
  pub answer_room : (2 ^ 32 ≤ 2 ^ answer_bits p) × (2 ^ answer_bits p ≤ 2 ^ 64)
  unfolding answer_bits
  answer_room = chosen (λ (n : ℕ). (2 ^ 32 ≤ 2 ^ n) × (2 ^ n ≤ 2 ^ 64)) (eqb p.wide 0) 32 64 (λ e. (omega arith, omega arith)) (λ e. (omega arith, omega arith))

  -- how the code meets these
  pub highest_short : p.wide ≤ 0 → 2 ^ 32 - 1 ≡ 2 ^ answer_bits p - 1
  highest_short h = rw (bits_short (omega arith))

  pub highest_long : 0 < p.wide → 2 ^ 64 - 1 ≡ 2 ^ answer_bits p - 1
  highest_long h = rw (bits_long (λ (e : p.wide ≡ 0). omega arith))
