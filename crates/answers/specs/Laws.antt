-- How the code's branches meet the definitions of Answers, and what an answer leaves.
use Rattle.std.specs.Prelude.{◌≡◌, refl, true, false, List, [], ◌∷◌, ℕ, zero, suc, ◌+◌, ◌-◌, ◌^◌, ◌≤◌, ◌<◌, length, get_or}
use Rattle.std.proofs.Common.{sym, ap, ◌∙◌, arith}
use Rattle.rules.specs.Sizes.{most_cores}
use Rattle.rules.specs.Reasons.{minus, minus_at}
use Rattle.rules.specs.declared.Reason.{Reason}
use Rattle.identifiers.specs.Identifier.{answer_bits, answer_room, bits_short, bits_long}
use Rattle.identifiers.specs.declared.Parts.{Parts}
use Rattle.registers.specs.Registers.{Whole, saved, saving, saving_none, saving_whole, saving_at_lem, saving_past, saving_other}
use Rattle.judgements.specs.Judge.{called_by}
use Rattle.judgements.specs.declared.Answer.{Answer}
use Rattle.judgements.specs.declared.Answer.TheVariants.{Version, PowerVersion, Done, On, Off, Pending, Owns, Leads, Count, Silent, No}
use Rattle.answers.specs.Answers.{negative, written, told, answered_by, answered_in}

-- ---- the code
pub writes_nothing : (p : Parts) (a : Answer) (r r' : List ℕ) (c w : ℕ) → a ≡ Silent → r' ≡ r → r' ≡ saving r c w (written p a)
writes_nothing p a r r' c w e h = rw e (h ∙ sym (saving_none r c w))

pub writes_refusal : (p : Parts) (q : Reason) (r r' : List ℕ) (c w n : ℕ) → n ≡ negative p (minus q) → r' ≡ saving r c w (n ∷ []) → r' ≡ saving r c w (written p (No q))
writes_refusal p q r r' c w n f h = rw f at h

pub tells_no : (p : Parts) (a : Answer) (q : Reason) (n : ℕ) → a ≡ No q → n ≡ negative p (minus q) → n ≡ told p a
tells_no p a q n e f = rw (e, ← f)

-- a refusal is counted down from the end of its width, and neither step leaves 64 bits
module _ (p : Parts) (q : Reason) (high n : ℕ) (e : high ≡ 2 ^ answer_bits p - 1) (f : n ≡ minus q) where
  pub small_enough : (n ≤ high) × (high - n + 1 < 2 ^ 64)
  small_enough = let k = minus_at q in let w = answer_room p in (omega (arith, k.1, w.0), omega (arith, k.0, w.0, w.1))

  pub negates : high - n + 1 ≡ negative p (minus q)
  unfolding negative
  negates = let k = minus_at q in let w = answer_room p in rw (e, f) (omega (arith, k.0, k.1, w.0))

pub answered : (r q r' xs : List ℕ) (c w : ℕ) (p : Parts) (a : Answer) → q ≡ saving r c w xs → r' ≡ saving q c w (written p a) → r' ≡ answered_by p r c w xs a
answered r q r' xs c w p a e h = rw (← e) h

-- ---- what is written goes by the answer and the width alone
negative_width : (p q : Parts) → p.wide ≡ q.wide → (n : ℕ) → negative p n ≡ negative q n
unfolding negative answer_bits
negative_width p q e n = rw e

pub written_width : (p q : Parts) → p.wide ≡ q.wide → (a : Answer) → written p a ≡ written q a
written_width p q e Version = refl
written_width p q e PowerVersion = refl
written_width p q e Done = refl
written_width p q e On = refl
written_width p q e Off = refl
written_width p q e Pending = refl
written_width p q e (Owns is) = refl
written_width p q e (Leads phys attr) = refl
written_width p q e (Count n) = refl
written_width p q e Silent = refl
written_width p q e (No r) = ap (λ (n : ℕ). n ∷ []) (negative_width p q e (minus r))

-- ---- what an answer leaves
pub written_few : (p : Parts) (a : Answer) → length (written p a) ≤ 3
written_few p Version = omega arith
written_few p PowerVersion = omega arith
written_few p Done = omega arith
written_few p On = omega arith
written_few p Off = omega arith
written_few p Pending = omega arith
written_few p (Owns is) = omega arith
written_few p (Leads phys attr) = omega arith
written_few p (Count n) = omega arith
written_few p Silent = omega arith
written_few p (No r) = omega arith

-- An answer writes one number at most, unless it tells where an address leads.
pub written_one : (p : Parts) (a : Answer) → ((phys attr : ℕ) → a ≡ Leads phys attr → ⊥) → length (written p a) ≤ 1
written_one p Version n = omega arith
written_one p PowerVersion n = omega arith
written_one p Done n = omega arith
written_one p On n = omega arith
written_one p Off n = omega arith
written_one p Pending n = omega arith
written_one p (Owns is) n = omega arith
written_one p (Leads phys attr) n = absurd (n phys attr refl)
written_one p (Count k) n = omega arith
written_one p Silent n = omega arith
written_one p (No r) n = omega arith

-- ---- a refusal in plain numbers: 2^32 - n of a 32-bit call, 2^64 - n of a 64-bit one
pub negative_short : (p : Parts) (n : ℕ) → p.wide ≡ 0 → negative p n ≡ 4294967296 - n
unfolding negative
negative_short p n e = rw (bits_short p e)

pub negative_long : (p : Parts) (n : ℕ) → (p.wide ≡ 0 → ⊥) → negative p n ≡ 18446744073709551616 - n
unfolding negative
negative_long p n d = rw (bits_long p d)

-- No refusal is written as 0, and each fits 64 bits.
pub negative_some : (p : Parts) (r : Reason) → negative p (minus r) ≡ 0 → ⊥
unfolding negative
negative_some p r e = let k = minus_at r in let w = answer_room p in omega (arith, k.0, k.1, w.0)

negative_fits : (p : Parts) (r : Reason) → negative p (minus r) < 2 ^ 64
unfolding negative
negative_fits p r = let k = minus_at r in let w = answer_room p in omega (arith, k.0, w.0, w.1)

-- ---- what is written fits 64 bits, where an address, its attributes and a count do
one_fits : (n j : ℕ) → n < 2 ^ 64 → get_or (n ∷ []) j 0 < 2 ^ 64
one_fits n zero h = h
one_fits n (suc j) h = omega arith

three_fit : (a b c j : ℕ) → a < 2 ^ 64 → b < 2 ^ 64 → c < 2 ^ 64 → get_or (a ∷ b ∷ c ∷ []) j 0 < 2 ^ 64
three_fit a b c zero h k l = h
three_fit a b c (suc zero) h k l = k
three_fit a b c (suc (suc j)) h k l = one_fits c j l

pub written_fits : (p : Parts) (a : Answer) → ((phys attr : ℕ) → a ≡ Leads phys attr → (phys < 2 ^ 64) × (attr < 2 ^ 64)) → ((n : ℕ) → a ≡ Count n → n < 2 ^ 64)
    → (j : ℕ) → get_or (written p a) j 0 < 2 ^ 64
written_fits p Version l c j = one_fits 0x10003 j (omega arith)
written_fits p PowerVersion l c j = one_fits 0x10001 j (omega arith)
written_fits p Done l c j = one_fits 0 j (omega arith)
written_fits p On l c j = one_fits 0 j (omega arith)
written_fits p Off l c j = one_fits 1 j (omega arith)
written_fits p Pending l c j = one_fits 2 j (omega arith)
written_fits p (Owns true) l c j = one_fits 1 j (omega arith)
written_fits p (Owns false) l c j = one_fits 0 j (omega arith)
written_fits p (Leads phys attr) l c j = let k = l phys attr refl in three_fit 0 phys attr j (omega arith) k.0 k.1
written_fits p (Count n) l c j = one_fits n j (c n refl)
written_fits p Silent l c j = omega arith
written_fits p (No r) l c j = one_fits (negative p (minus r)) j (negative_fits p r)

module _ (r : List ℕ) (core caller : ℕ) (xs : List ℕ) (a : Answer) where
  pub answered_whole : Whole r → Whole (answered_in r core caller xs a)
  answered_whole w = saving_whole _ core caller _ (saving_whole r core caller xs w)

  -- Another core's numbers, or another world's, stay.
  pub answered_other : (c u j : ℕ) → (core ≡ c → caller ≡ u → ⊥) → saved (answered_in r core caller xs a) c u j ≡ saved r c u j
  answered_other c u j n = saving_other (saving r core caller xs) core caller (written (called_by xs) a) c u j n ∙ saving_other r core caller xs c u j n

  -- What the answer lists stands in the caller's x0 and on.
  pub answered_listed : (j : ℕ) → Whole r → core < most_cores → caller < 4 → j < length (written (called_by xs) a)
      → saved (answered_in r core caller xs a) core caller j ≡ get_or (written (called_by xs) a) j 0
  answered_listed j w h k l =
      let few = written_few (called_by xs) a in
      saving_at_lem (saving r core caller xs) core caller (written (called_by xs) a) j (saving_whole r core caller xs w) h k (omega arith) l

  -- What it does not list keeps the frame's number.
  pub answered_unlisted : (j : ℕ) → Whole r → core < most_cores → caller < 4 → j < 9 → j < length xs → length (written (called_by xs) a) ≤ j
      → saved (answered_in r core caller xs a) core caller j ≡ get_or xs j 0
  answered_unlisted j w h k l m n =
      saving_past (saving r core caller xs) core caller (written (called_by xs) a) j n ∙ saving_at_lem r core caller xs j w h k l m

  -- The caller's start address stays, as does every number past the frame's.
  pub answered_past : (j : ℕ) → 3 ≤ j → length xs ≤ j → saved (answered_in r core caller xs a) core caller j ≡ saved r core caller j
  answered_past j h l =
      let few = written_few (called_by xs) a in
      saving_past (saving r core caller xs) core caller (written (called_by xs) a) j (omega arith) ∙ saving_past r core caller xs j l
