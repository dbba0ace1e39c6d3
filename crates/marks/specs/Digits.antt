-- The sixteen digits of four bits in a number, the lowest at place 0: one read, one written, all of them alike.
use Rattle.std.specs.Prelude.{◌≡◌, refl, ℕ, zero, suc, ◌+◌, ◌-◌, ◌*◌, ◌/◌, ◌%◌, ◌^◌, ◌≤◌, ◌<◌}
use Rattle.std.proofs.Common.{sym, ap, ◌∙◌, one-mul, mul-one, div-one, pow-suc, mod-eq_of_lt, mul-le-mul_right, arith, shr-shr, pow-add, pow_pos, pow_mono}

-- the digit at a place
unfoldable pub digit : ℕ → ℕ → ℕ
digit n zero = n % 16
digit n (suc place) = digit (n / 16) place

-- the number with another digit at a place
unfoldable pub put : ℕ → ℕ → ℕ → ℕ
put n zero d = n / 16 * 16 + d
put n (suc place) d = put (n / 16) place d * 16 + n % 16

-- the number of so many digits that are all alike
unfoldable pub alike : ℕ → ℕ → ℕ
alike zero d = 0
alike (suc i) d = alike i d * 16 + d

-- ---- a digit has four bits
pub digit_small : (n place : ℕ) → digit n place < 16
unfolding digit
digit_small n zero = omega arith
digit_small n (suc place) = digit_small (n / 16) place

pub zero_digit : (place : ℕ) → digit 0 place ≡ 0
unfolding digit
zero_digit zero = refl
zero_digit (suc place) = zero_digit place

-- ---- what is read after a digit is put
pub put_same : (n place d : ℕ) → d < 16 → digit (put n place d) place ≡ d
unfolding digit put
put_same n zero d h = omega arith
put_same n (suc place) d h =
    let rest = put (n / 16) place d in
    let e : (rest * 16 + n % 16) / 16 ≡ rest = omega arith in
    rw e (put_same (n / 16) place d h)

pub put_other : (n place d other : ℕ) → d < 16 → (other ≡ place → ⊥) → digit (put n place d) other ≡ digit n other
unfolding digit put
put_other n zero d zero h f = absurd (f refl)
put_other n zero d (suc other) h f = let e : (n / 16 * 16 + d) / 16 ≡ n / 16 = omega arith in rw e
put_other n (suc place) d zero h f = let rest = put (n / 16) place d in omega arith
put_other n (suc place) d (suc other) h f =
    let rest = put (n / 16) place d in
    let e : (rest * 16 + n % 16) / 16 ≡ rest = omega arith in
    rw e (put_other (n / 16) place d other h (λ q. f (ap suc q)))

-- a number of i digits stays one
pub put_fits : (i n place d : ℕ) → n < 16 ^ i → place < i → d < 16 → put n place d < 16 ^ i
unfolding put
put_fits zero n place d h l b = absurd (omega arith)
put_fits (suc i) n zero d h l b = let e = pow-suc 16 i in omega arith
put_fits (suc i) n (suc place) d h l b =
    let e = pow-suc 16 i in
    let r = put_fits i (n / 16) place d (omega arith) (omega arith) b in
    omega arith

-- ---- two numbers of i digits that have the same digits are one number
pub same_digits : (i a b : ℕ) → a < 16 ^ i → b < 16 ^ i → ((place : ℕ) → place < i → digit a place ≡ digit b place) → a ≡ b
unfolding digit
same_digits zero a b h l f = omega arith
same_digits (suc i) a b h l f =
    let e = pow-suc 16 i in
    let low : a % 16 ≡ b % 16 = f 0 (omega arith) in
    let high : a / 16 ≡ b / 16 = same_digits i (a / 16) (b / 16) (omega arith) (omega arith) (λ place q. f (suc place) (omega arith)) in
    omega arith

-- ---- digits that are all alike
pub alike_fits : (i d : ℕ) → d < 16 → alike i d < 16 ^ i
unfolding alike
alike_fits zero d h = omega arith
alike_fits (suc i) d h = let e = pow-suc 16 i in let r = alike_fits i d h in omega arith

pub alike_digit : (i d place : ℕ) → d < 16 → place < i → digit (alike i d) place ≡ d
unfolding alike digit
alike_digit zero d place h l = absurd (omega arith)
alike_digit (suc i) d zero h l = let rest = alike i d in omega arith
alike_digit (suc i) d (suc place) h l =
    let rest = alike i d in
    let e : (rest * 16 + d) / 16 ≡ rest = omega arith in
    rw e (alike_digit i d place h (omega arith))

-- one comparison is a comparison of every digit
pub alike_only : (i n d : ℕ) → n < 16 ^ i → d < 16 → ((place : ℕ) → place < i → digit n place ≡ d) → n ≡ alike i d
alike_only i n d h l f = same_digits i n (alike i d) h (alike_fits i d l) (λ place b. f place b ∙ sym (alike_digit i d place l b))

-- as the code makes it, from sixteen digits 1
pub alike_is : (d : ℕ) → d * 1229782938247303441 ≡ alike 16 d
unfolding alike
alike_is d = omega arith

-- ---- in plain numbers: the digit at a place counts 16 to that power
power_next : (place : ℕ) → 2 ^ (4 * suc place) ≡ 16 * 2 ^ (4 * place)
power_next place = let e : 4 * suc place ≡ 4 + 4 * place = omega arith in rw e (pow-add 2 4 (4 * place))

pub digit_is : (n place : ℕ) → n / 2 ^ (4 * place) % 16 ≡ digit n place
unfolding digit
digit_is n zero = rw div-one
digit_is n (suc place) =
    let e : 4 * suc place ≡ 4 + 4 * place = omega arith in
    let f : n / 2 ^ (4 * suc place) ≡ n / 16 / 2 ^ (4 * place) = rw e (sym (shr-shr n 4 (4 * place))) in
    rw f (digit_is (n / 16) place)

sixteen_power : (place : ℕ) → 16 ^ place ≡ 2 ^ (4 * place)
sixteen_power zero = refl
sixteen_power (suc place) = let e = pow-suc 16 place in let f = power_next place in let r = sixteen_power place in omega arith

pub digit_plain : (n place : ℕ) → n / 16 ^ place % 16 ≡ digit n place
digit_plain n place = rw (sixteen_power place) (digit_is n place)

-- what a digit counts is no more than the number
counts_less : (n place : ℕ) → digit n place * 2 ^ (4 * place) ≤ n
unfolding digit
counts_less n zero = rw mul-one (omega arith)
counts_less n (suc place) =
    let r = counts_less (n / 16) place in
    let e : digit (n / 16) place * 2 ^ (4 * suc place) ≡ digit (n / 16) place * 2 ^ (4 * place) * 16 = rw (power_next place) (omega arith) in
    omega arith

put_is : (n place d : ℕ) → n - digit n place * 2 ^ (4 * place) + d * 2 ^ (4 * place) ≡ put n place d
unfolding digit put
put_is n zero d = rw (mul-one (digit n 0), mul-one d) (omega arith)
put_is n (suc place) d =
    let r = put_is (n / 16) place d in
    let w = counts_less (n / 16) place in
    let e : digit (n / 16) place * 2 ^ (4 * suc place) ≡ digit (n / 16) place * 2 ^ (4 * place) * 16 = rw (power_next place) (omega arith) in
    let f : d * 2 ^ (4 * suc place) ≡ d * 2 ^ (4 * place) * 16 = rw (power_next place) (omega arith) in
    omega arith

-- ---- how the code meets these: `p` is what a digit at the place of a page counts
-- sixteen times that is a power within 64 bits
unit_fits : (page : ℕ) → 16 * 2 ^ (4 * (page % 16)) ≤ 2 ^ 64
unit_fits page =
    let h : 4 + 4 * (page % 16) ≤ 64 = omega arith in
    let e : 2 ^ (4 + 4 * (page % 16)) ≡ 16 * 2 ^ (4 * (page % 16)) = pow-add 2 4 (4 * (page % 16)) in
    let m = pow_mono h in
    omega arith

pub unit_is : (page : ℕ) → 1 * 2 ^ (4 * (page % 16)) % 18446744073709551616 ≡ 2 ^ (4 * (page % 16))
unit_is page =
    let w = unit_fits page in
    let z = pow_pos (4 * (page % 16)) in
    let o : 1 * 2 ^ (4 * (page % 16)) ≡ 2 ^ (4 * (page % 16)) = one-mul (2 ^ (4 * (page % 16))) in
    rw o (mod-eq_of_lt (omega arith))

pub given_fits : (page p d : ℕ) → p ≡ 2 ^ (4 * (page % 16)) → d < 16 → d * p < 18446744073709551616
given_fits page p d f l =
    let k : d ≤ 15 = omega arith in
    let a = mul-le-mul_right p k in
    let w = unit_fits page in
    let z = pow_pos (4 * (page % 16)) in
    omega arith

module _ (n page d p : ℕ) (e : d ≡ digit n (page % 16)) (f : p ≡ 2 ^ (4 * (page % 16))) where
  pub taken_less : d * p ≤ n
  taken_less = rw (e, f) (counts_less n (page % 16))

  pub put_by : (given : ℕ) → n - d * p + given * p ≡ put n (page % 16) given
  put_by given = rw (e, f) (put_is n (page % 16) given)

  pub given_in : (given : ℕ) → n < 18446744073709551616 → given < 16 → n - d * p + given * p < 18446744073709551616
  given_in given h l = rw (put_by given) (put_fits 16 n (page % 16) given h (omega arith) l)
