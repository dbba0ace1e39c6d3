-- Nothing is cut where it is printed: in a run over lines every number that an answer shows has at most sixteen digits, and its core and world at most two.
use Rattle.std.specs.Prelude.{◌≡◌, refl, List, [], ◌∷◌, ◌++◌, ℕ, zero, suc, ◌+◌, ◌-◌, ◌*◌, ◌/◌, ◌%◌, ◌^◌, ◌≤◌, ◌<◌, ltb, length, get_or, Option, None, Some}
use Rattle.std.proofs.Math.Path.{ap}
use Rattle.std.proofs.Common.{arith, pow-suc, ltb-true, ltb-false}
use Rattle.std.proofs.Math.ListN.{get_or-append}
use Rattle.std.proofs.Math.Seq.{get_or-append_seam}
use Rattle.mapping.specs.Leads.{To, to_phys, to_attr}
use Rattle.rules.specs.Choice.{chosen, either}
use Rattle.identifiers.specs.Identifier.{argument}
use Rattle.identifiers.specs.declared.Parts.{Parts}
use Rattle.registers.specs.Registers.{saved, saved_zeros}
use Rattle.cores.specs.Cores.{power, first_power_zero, first_power_other}
use Rattle.pages.specs.declared.Window.{Window}
use Rattle.mapping.specs.Mapping.{deciding, leading, lead_of}
use Rattle.mapping.specs.Entries.{Every, every_among}
use Rattle.mapping.proofs.Deciding.{deciding_is}
use Rattle.mapping.specs.Sound.{Formed}
use Rattle.ranges.specs.declared.Mapping.{Mapping}
use Rattle.judgements.specs.declared.Deed.{Deed}
use Rattle.judgements.specs.declared.Deed.TheVariants.{Nothing, Move, Map, Unmap, Start, GoOff, HandOver, Finish}
use Rattle.hex_digits.specs.Hex.{sign_of, value_of, value, numbers, in_hex, sign_low, sign_high, digit_low, digit_high, length_hex}
use Rattle.hex_digits.specs.Read.{value_small}
use Rattle.parsing.specs.Frame.{frame_of, kind as parsing-kind, sized, parsed, parsed_call}
use Rattle.lines.specs.Input.{reading}
use Rattle.parsing.specs.declared.Frame.{Frame}
use Rattle.parsing.specs.declared.Frame.TheVariants as Frame
use Rattle.frames.specs.Frames.{Machine, first}
use Rattle.showing.specs.declared.Reply.{Reply}
use Rattle.showing.specs.declared.Reply.TheVariants.{Told, Called}
use Rattle.guarantees.specs.Runs.{Event}
use Rattle.guarantees.specs.Started.{kind, same_or_other}

-- ---- what is shown
-- a call's answer fits the digits that it is printed with
abbrev pub Fits : Reply → Type 0
Fits (Told why) = Unit {0}
Fits (Called core world x) = ((core < 256) × (world < 256)) × (((x.x0 < 2 ^ 64) × (x.x1 < 2 ^ 64)) × ((x.x2 < 2 ^ 64) × (x.x3 < 2 ^ 64)))

unfoldable pub AllFit : List Reply → Type 0
AllFit [] = Unit {0}
AllFit (r ∷ rest) = Fits r × AllFit rest

-- ---- the digits of a number
sign_value : (d : ℕ) → d < 16 → value_of (sign_of d) ≡ d
sign_value d h =
    either (ltb d 10)
    (λ y. let k : d < 10 = ltb-true d 10 y in rw (← sign_low d k, digit_low (48 + d) (omega arith) (omega arith)) (omega arith))
    (λ n. let k : 10 ≤ d = ltb-false d 10 n in rw (← sign_high d k, digit_high (87 + d) (omega arith) (omega arith)) (omega arith))

-- what stands behind the signs of a number is none of it
value_front : (a b : List ℕ) (n : ℕ) → n ≤ length a → value (a ++ b) 0 n ≡ value a 0 n
unfolding value
value_front a b zero h = refl
value_front a b (suc n) h = rw (value_front a b n (omega arith), get_or-append a b 0 (0 + n) (omega arith))

-- A number below 16^n is what its n digits stand for.
pub digits_value : (n x : ℕ) → x < 16 ^ n → value (in_hex n x) 0 n ≡ x
unfolding value in_hex
digits_value zero x h = omega arith
digits_value (suc n) x h =
    let front = in_hex n (x / 16) in
    let sign = sign_of (x % 16) in
    let size : length front ≡ n = length_hex n (x / 16) in
    let small : x < 16 ^ n * 16 = rw pow-suc at h in
    let last : 0 + n ≡ length front = omega arith in
    let ends : get_or (front ++ sign ∷ []) (0 + n) 0 ≡ sign = rw last (get_or-append_seam front sign [] 0) in
    rw (value_front front (sign ∷ []) n (omega arith), ends, sign_value (x % 16) (omega arith), digits_value n (x / 16) (omega arith)) (omega arith)

-- ---- what is read
-- the numbers of a line are below 2^64, those of a call are eight, and its core is below 256
pub record Small (e : Event) : Type 0 where
  pub numbers : (j : ℕ) → get_or e.1 j 0 < 2 ^ 64
  pub eight : (core : ℕ) → e.0 ≡ Frame.Call core → length e.1 ≡ 8
  pub core : (core : ℕ) → e.0 ≡ Frame.Call core → core < 256

numbers_small : (l : List ℕ) (n k j : ℕ) → get_or (numbers l k n) j 0 < 2 ^ 64
unfolding numbers
numbers_small l zero k j = omega arith
numbers_small l (suc n) k zero = value_small l (k * 2) 16
numbers_small l (suc n) k (suc j) = numbers_small l n (k + 8) j

line_numbers : (l : List ℕ) (j : ℕ) → get_or (reading l).1 j 0 < 2 ^ 64
unfolding parsed
line_numbers l j = chosen (λ (q : List ℕ). get_or q j 0 < 2 ^ 64) _ _ _ (λ y. numbers_small l 8 2 j) (λ n. omega arith)

-- a line that is a call has eight numbers
pub eight : (line : List ℕ) (core : ℕ) → (reading line).0 ≡ Frame.Call core → length (reading line).1 ≡ 8
unfolding parsed numbers
eight line core is = ap length (parsed_call line [] (reading line).1 (reading line).0 refl (rw is))

-- and a core of one byte
abbrev CoreFits : Frame → Type 0
CoreFits (Frame.Site base pages cores) = Unit {0}
CoreFits (Frame.Entry lowest last type number) = Unit {0}
CoreFits (Frame.Name lowest count to) = Unit {0}
CoreFits (Frame.Call core) = core < 256
CoreFits (Frame.Arrival core) = core < 256
CoreFits (Frame.Refused why) = Unit {0}

core_fits : (l : List ℕ) → CoreFits (frame_of l)
unfolding frame_of parsing-kind sized
core_fits l =
    chosen CoreFits _ _ _ (λ e. tt)
    (λ e. chosen CoreFits _ _ _ (λ e. chosen CoreFits _ _ _ (λ e. tt) (λ e. tt))
    (λ e. chosen CoreFits _ _ _ (λ e. chosen CoreFits _ _ _ (λ e. tt) (λ e. tt))
    (λ e. chosen CoreFits _ _ _ (λ e. chosen CoreFits _ _ _ (λ e. tt) (λ e. tt))
    (λ e. chosen CoreFits _ _ _ (λ e. chosen CoreFits _ _ _ (λ e. value_small l 2 2) (λ e. tt))
    (λ e. chosen CoreFits _ _ _ (λ e. chosen CoreFits _ _ _ (λ e. value_small l 2 2) (λ e. tt))
    (λ e. tt))))))

line_core : (line : List ℕ) (core : ℕ) → (reading line).0 ≡ Frame.Call core → core < 256
unfolding parsed
line_core line core is = rw is at (core_fits line)

pub line_small : (line : List ℕ) → Small (reading line)
line_small l = record { numbers = line_numbers l; eight = eight l; core = line_core l }

-- ---- what is saved
-- every saved number, and every start address and context, is below 2^64
pub record Narrow (m : Machine) : Type 0 where
  pub numbers : (c w j : ℕ) → saved m.saved c w j < 2 ^ 64
  pub starts : (c : ℕ) → (power m.powers c).start < 2 ^ 64
  pub contexts : (c : ℕ) → (power m.powers c).context < 2 ^ 64

pub first_narrow : Narrow first
first_narrow =
    record {
      numbers = λ c w j. rw (saved_zeros c w j) (omega arith);
      starts = λ c. same_or_other c 0 (λ e. rw (e, first_power_zero) (omega arith)) (λ n. rw (first_power_other c n) (omega arith));
      contexts = λ c. same_or_other c 0 (λ e. rw (e, first_power_zero) (omega arith)) (λ n. rw (first_power_other c n) (omega arith));
    }

-- an argument is no larger than its number
pub argument_small : (p : Parts) (n : ℕ) → n < 2 ^ 64 → argument p n < 2 ^ 64
unfolding argument
argument_small p n h = chosen (λ (k : ℕ). k < 2 ^ 64) _ _ _ (λ y. omega arith) (λ y. h)

-- where an address leads
decides_formed : (w : Window) (l : List Mapping) (x : ℕ) (n : Mapping) → Every (Formed w) l → deciding l x ≡ Some n → Formed w n
decides_formed w l x n f k = every_among (Formed w) l n f (deciding_is l x n k).among

pub led : (w : Window) (l : List Mapping) (x phys attr : ℕ) → Every (Formed w) l → lead_of l x ≡ To phys attr → (phys < 2 ^ 64) × (attr < 2 ^ 64)
unfolding lead_of leading
led w l x phys attr f e = by_deciding (deciding l x) refl e
  where
    by_deciding : (d : Option Mapping) → deciding l x ≡ d → leading x d ≡ To phys attr → (phys < 2 ^ 64) × (attr < 2 ^ 64)
    by_deciding None k g = let z : ◌≡◌ {A = ℕ} 0 1 = cc in absurd (omega arith)
    by_deciding (Some n) k g =
        let q : To ((n.phys + (x - n.virt)) % 2 ^ 64) n.attr ≡ To phys attr = g in
        let p : (n.phys + (x - n.virt)) % 2 ^ 64 ≡ phys = to_phys q in
        let a : n.attr ≡ attr = to_attr q in
        (omega (arith, p), omega (arith, a, (decides_formed w l x n f k).attributes))

-- a hand-over, a finish, or neither
pub turn_cases : {P : Type 0} (d : Deed) → ((to : ℕ) → d ≡ HandOver to → P) → (d ≡ Finish → P) → (((to : ℕ) → d ≡ HandOver to → ⊥) → (d ≡ Finish → ⊥) → P) → P
turn_cases Nothing h f n = n (λ to e. omega (arith, ap kind e)) (λ e. omega (arith, ap kind e))
turn_cases (Move first count to) h f n = n (λ to e. omega (arith, ap kind e)) (λ e. omega (arith, ap kind e))
turn_cases (Map m) h f n = n (λ to e. omega (arith, ap kind e)) (λ e. omega (arith, ap kind e))
turn_cases (Unmap virt size) h f n = n (λ to e. omega (arith, ap kind e)) (λ e. omega (arith, ap kind e))
turn_cases (Start core start context) h f n = n (λ to e. omega (arith, ap kind e)) (λ e. omega (arith, ap kind e))
turn_cases GoOff h f n = n (λ to e. omega (arith, ap kind e)) (λ e. omega (arith, ap kind e))
turn_cases (HandOver to) h f n = h to refl
turn_cases Finish h f n = f refl
