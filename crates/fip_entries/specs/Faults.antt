-- The faults of a package or a plan: the number of each, and the first that a list of tests tells.
use Rattle.std.specs.Prelude.{◌≡◌, ℕ, ◌≤◌, true, false, List, [], ◌∷◌, ⊤, Result, Ok, Err}
use Rattle.std.specs.Result.{is_err, result_and}
use Rattle.std.proofs.Math.Path.{refl}
use Rattle.std.proofs.Common.{sym, ap, ◌∙◌, lit≤}
use mathlib.Core.List.{map, Memᴰ}
use Rattle.rules.specs.Choice.{pick_yes, pick_no, either, yes_or_no}
use Rattle.rules.specs.Tests.{Test, sieve, sieved, sieved_two, Clear}
use Rattle.fip_entries.specs.declared.Fault.{Fault}
use Rattle.fip_entries.specs.declared.Fault.TheVariants.{WrongLength, WrongHeader, WrongTable, SameIdentifiers, WrongPlace, NoImage, NoRoom}

-- the number of each
abbrev pub number_of : Fault → ℕ
number_of WrongLength = 0x81
number_of WrongHeader = 0x82
number_of WrongTable = 0x83
number_of SameIdentifiers = 0x84
number_of WrongPlace = 0x85
number_of NoImage = 0x86
number_of NoRoom = 0x87

-- the status of an answer: 0, or the number of its fault
unfoldable pub status_of : {A : Type 0} → Result A Fault → ℕ
status_of (Ok a) = 0
status_of (Err f) = number_of f

-- 81 to 87 hex
pub number_low : (f : Fault) → 0x81 ≤ number_of f
number_low WrongLength = lit≤ tt
number_low WrongHeader = lit≤ tt
number_low WrongTable = lit≤ tt
number_low SameIdentifiers = lit≤ tt
number_low WrongPlace = lit≤ tt
number_low NoImage = lit≤ tt
number_low NoRoom = lit≤ tt

-- ---- tests that each tell a fault
-- what has passed each test stands
pub clear_stands : {J : Type 0} (deny : Fault → J) (ts : List (Test Fault)) (j : J) → Clear ts → j ≡ sieve deny ts j
unfolding sieve Clear
clear_stands deny [] j c = refl
clear_stands deny (t ∷ ts) j c = rw (c.0, pick_no false) (clear_stands deny ts j c.1)

module _ {A : Type 0} where
  -- what is accepted has passed each test
  pub accepted_clear : (ts : List (Test Fault)) (a b : A) → sieve Err ts (Ok a) ≡ Ok b → Clear ts × (a ≡ b)
  accepted_clear ts a b = sieved (λ (x : Result A Fault). x ≡ Ok b → Clear ts × (a ≡ b)) Err ts (Ok a) (λ f q. absurd cc) (λ c q. (c, cc))

  -- and what has passed each is accepted
  pub clear_accepted : (ts : List (Test Fault)) (a : A) → Clear ts → Ok a ≡ sieve Err ts (Ok a)
  clear_accepted ts a = clear_stands Err ts (Ok a)

  -- the same tests with another outcome: their fault refuses it
  module _ {B : Type 0} (deny : Fault → B) where
    pub fault_denies : (ts : List (Test Fault)) (a : A) (b : B) (f : Fault) → Err f ≡ sieve Err ts (Ok a) → deny f ≡ sieve deny ts b
    fault_denies ts a b f =
        sieved_two (λ (x : Result A Fault) (y : B). Err f ≡ x → deny f ≡ y) Err deny ts (Ok a) b
        (λ r e. let z : f ≡ r = cc in rw z) (λ c e. absurd cc)

  -- and its number is that of one of them
  pub fault_among : (ts : List (Test Fault)) (a : A) (f : Fault) → sieve Err ts (Ok a) ≡ Err f → Memᴰ (number_of f) (map (λ (t : Test Fault). number_of t.1) ts)
  unfolding sieve
  fault_among [] a f e = absurd cc
  fault_among (t ∷ ts) a f e =
      either t.0 (λ y. let z : f ≡ t.1 = (let q : Err t.1 ≡ Err f = sym (pick_yes t.0 _ _ y) ∙ e in cc) in Memᴰ.head (ap number_of z))
      (λ n. Memᴰ.tail (fault_among ts a f (sym (pick_no t.0 (Err t.1) _ n) ∙ e)))

-- of an answer and a second one that is asked for where the first accepts
pub both_accept : {A : Type 0} (x : Result ⊤ Fault) (y : Result A Fault) (a : A) → result_and x y ≡ Ok a → (x ≡ Ok tt) × (y ≡ Ok a)
both_accept (Ok tt) y a e = (refl, e)
both_accept (Err f) y a e = absurd cc

-- an answer that is no fault
pub accepted_is : (r : Result ⊤ Fault) → is_err r ≡ false → r ≡ Ok tt
accepted_is (Ok tt) h = refl
accepted_is (Err f) h = absurd cc

pub refused_is : (r : Result ⊤ Fault) → is_err r ≡ true → r ≡ Ok tt → ⊥
refused_is r h e = yes_or_no (is_err r) h (rw e)
