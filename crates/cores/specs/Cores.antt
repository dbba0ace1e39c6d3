-- The tables of eight cores: each core's power, and each core's turn. Shut: only the laws below say what stands where.
-- There is no ninth core: one past the eighth reads as OFF and in no world that calls, and writing there changes nothing.
use Rattle.std.specs.Prelude.{◌≡◌, refl, List, ltb, get_or, set, replicate}
use Rattle.std.proofs.Common.{◌∙◌, ltb-true, ltb-false}
use Prim.Native.Nat.{ℕ, suc, ◌+◌, ◌-◌, ◌*◌, ◌^◌, ◌≤◌, ◌<◌}
use Rattle.std.proofs.Math.Nat.{pow-le-pow_right}
use native.Mathlib.Omega.{arith}
use Rattle.std.specs.Int.Count.{ones}
use Rattle.rules.specs.Sizes.{root, normal, most_cores}
use Rattle.rules.specs.Choice.{either}
use Rattle.tools.specs.Store.{read, write, Whole, read_in, write_in, write_out, write_same, write_other, write_whole, blank_whole, blank_read, past_read}
use Rattle.cores.specs.Count.{bit, count, mask, ones_mask, mask_fits, count_le}
use Rattle.cores.specs.Power.{power_of, turn_of, off, on, is_on}
use Rattle.cores.specs.declared.Power.{Power}
use Rattle.cores.specs.declared.Turn.{Turn}

-- how many numbers the two tables have
abbrev powers : ℕ
powers = 3 * most_cores

abbrev turns : ℕ
turns = most_cores

-- ---- power: state, start address and context of each core
pub power : List ℕ → ℕ → Power
power t core = power_of (read powers t (3 * core)) (read powers t (3 * core + 1)) (read powers t (3 * core + 2))

pub with_power : List ℕ → ℕ → Power → List ℕ
with_power t core p = write powers (write powers (write powers t (3 * core) p.state) (3 * core + 1) p.start) (3 * core + 2) p.context

-- core 0 is ON, the others OFF, with no start address and no context
pub first_powers : List ℕ
first_powers = write powers (replicate powers 0) 0 on

-- it is a table of eight cores
pub WholePowers : List ℕ → Type 0
WholePowers t = Whole powers t

-- how many of the cores 0 to 7 are ON
pub on_count : List ℕ → ℕ
on_count t = count (λ core. is_on (power t core)) 0 most_cores

-- and the mask of those that are
pub on_mask : List ℕ → ℕ
on_mask t = mask (λ core. is_on (power t core)) 0 most_cores

-- ---- turn: running world of each core
pub turn : List ℕ → ℕ → Turn
turn t core = turn_of (read turns t core)

pub with_turn : List ℕ → ℕ → Turn → List ℕ
with_turn t core r = write turns t core r.world

pub WholeTurns : List ℕ → Type 0
WholeTurns t = Whole turns t

-- every core runs Normal
pub first_turns : List ℕ
first_turns = replicate turns normal

-- ---- what this crate's code reads and writes
module _ (t : List ℕ) (core : ℕ) where
  pub power_in : core < most_cores → power_of (get_or t (3 * core) 0) (get_or t (3 * core + 1) 0) (get_or t (3 * core + 2) 0) ≡ power t core
  unfolding power
  power_in h =
      rw (read_in powers t (3 * core) (omega arith), read_in powers t (3 * core + 1) (omega arith), read_in powers t (3 * core + 2) (omega arith))

  pub power_out : most_cores ≤ core → power_of off 0 0 ≡ power t core
  unfolding power
  power_out h =
      rw (past_read powers t (3 * core) (omega arith), past_read powers t (3 * core + 1) (omega arith), past_read powers t (3 * core + 2) (omega arith))

  pub with_power_in : (p : Power) → core < most_cores → set (set (set t (3 * core) p.state) (3 * core + 1) p.start) (3 * core + 2) p.context ≡ with_power t core p
  unfolding with_power
  with_power_in p h =
      let a : 3 * core < powers = omega arith in
      let b : 3 * core + 1 < powers = omega arith in
      let c : 3 * core + 2 < powers = omega arith in
      rw (write_in powers t (3 * core) p.state a, write_in powers (write powers t (3 * core) p.state) (3 * core + 1) p.start b)
      (write_in powers _ (3 * core + 2) p.context c)

  pub with_power_out : (p : Power) → most_cores ≤ core → t ≡ with_power t core p
  unfolding with_power
  with_power_out p h =
      write_out powers t (3 * core) p.state (omega arith)
      ∙ write_out powers _ (3 * core + 1) p.start (omega arith)
      ∙ write_out powers _ (3 * core + 2) p.context (omega arith)

  pub turn_in : core < most_cores → turn_of (get_or t core 0) ≡ turn t core
  unfolding turn
  turn_in h = rw (read_in turns t core h)

  pub turn_out : most_cores ≤ core → turn_of root ≡ turn t core
  unfolding turn
  turn_out h = rw (past_read turns t core h)

  pub with_turn_in : (r : Turn) → core < most_cores → set t core r.world ≡ with_turn t core r
  unfolding with_turn
  with_turn_in r h = write_in turns t core r.world h

  pub with_turn_out : (r : Turn) → most_cores ≤ core → t ≡ with_turn t core r
  unfolding with_turn
  with_turn_out r h = write_out turns t core r.world h

pub ruleset slots = (power_in, power_out, with_power_in, with_power_out, turn_in, turn_out, with_turn_in, with_turn_out)

-- ---- what stands there after a write
module _ (t : List ℕ) (core : ℕ) (p : Power) where
  -- the table once the state is written, and once the start address is
  abbrev once : List ℕ
  once = write powers t (3 * core) p.state

  abbrev twice : List ℕ
  twice = write powers once (3 * core + 1) p.start

  pub with_power_whole : WholePowers t → WholePowers (with_power t core p)
  unfolding with_power WholePowers
  with_power_whole w = write_whole powers twice _ _ (write_whole powers once _ _ (write_whole powers t _ _ w))

  pub power_same : WholePowers t → core < most_cores → power (with_power t core p) core ≡ p
  unfolding power with_power WholePowers
  power_same w h =
      let whole : Whole powers once = write_whole powers t _ _ w in
      let still : Whole powers twice = write_whole powers once _ _ whole in
      rw (
        write_other powers twice (3 * core + 2) p.context (3 * core) (λ e. omega arith),
        write_other powers once (3 * core + 1) p.start (3 * core) (λ e. omega arith),
        write_same powers t (3 * core) p.state w (omega arith),
        write_other powers twice (3 * core + 2) p.context (3 * core + 1) (λ e. omega arith),
        write_same powers once (3 * core + 1) p.start whole (omega arith),
        write_same powers twice (3 * core + 2) p.context still (omega arith),
      )

  -- a number that is not of this core
  aside : (i : ℕ) → (i ≡ 3 * core → ⊥) → (i ≡ 3 * core + 1 → ⊥) → (i ≡ 3 * core + 2 → ⊥) → read powers (with_power t core p) i ≡ read powers t i
  unfolding with_power
  aside i a b c = write_other powers twice _ _ i c ∙ write_other powers once _ _ i b ∙ write_other powers t _ _ i a

  pub power_other : (other : ℕ) → (other ≡ core → ⊥) → power (with_power t core p) other ≡ power t other
  unfolding power
  power_other other d =
      rw (
        aside (3 * other) (λ e. d (omega arith)) (λ e. omega arith) (λ e. omega arith),
        aside (3 * other + 1) (λ e. omega arith) (λ e. d (omega arith)) (λ e. omega arith),
        aside (3 * other + 2) (λ e. omega arith) (λ e. omega arith) (λ e. d (omega arith)),
      )

module _ (t : List ℕ) (core : ℕ) (r : Turn) where
  pub with_turn_whole : WholeTurns t → WholeTurns (with_turn t core r)
  unfolding with_turn WholeTurns
  with_turn_whole w = write_whole turns t _ _ w

  pub turn_same : WholeTurns t → core < most_cores → turn (with_turn t core r) core ≡ r
  unfolding turn with_turn WholeTurns
  turn_same w h = rw (write_same turns t core r.world w h)

  pub turn_other : (other : ℕ) → (other ≡ core → ⊥) → turn (with_turn t core r) other ≡ turn t other
  unfolding turn with_turn
  turn_other other d = rw (write_other turns t core r.world other d)

-- ---- the tables at the start
zeros_read : (i : ℕ) → read powers (replicate powers 0) i ≡ 0
zeros_read i = either (ltb i powers) (λ e. blank_read powers 0 i (ltb-true i powers e)) (λ e. past_read powers (replicate powers 0) i (ltb-false i powers e))

pub first_powers_are : (t : List ℕ) → t ≡ set (replicate powers 0) 0 on → t ≡ first_powers
unfolding first_powers
first_powers_are t e = e ∙ write_in powers (replicate powers 0) 0 on (omega arith)

pub first_powers_whole : WholePowers first_powers
unfolding first_powers WholePowers
first_powers_whole = write_whole powers (replicate powers 0) 0 on (blank_whole powers 0)

pub first_power_zero : power first_powers 0 ≡ power_of on 0 0
unfolding power first_powers
first_power_zero =
    rw (
      write_same powers (replicate powers 0) 0 on (blank_whole powers 0) (omega arith),
      write_other powers (replicate powers 0) 0 on 1 (λ e. omega arith),
      write_other powers (replicate powers 0) 0 on 2 (λ e. omega arith),
      zeros_read 1,
      zeros_read 2,
    )

pub first_power_other : (core : ℕ) → (core ≡ 0 → ⊥) → power first_powers core ≡ power_of off 0 0
unfolding power first_powers
first_power_other core d =
    rw (
      write_other powers (replicate powers 0) 0 on (3 * core) (λ e. d (omega arith)),
      write_other powers (replicate powers 0) 0 on (3 * core + 1) (λ e. omega arith),
      write_other powers (replicate powers 0) 0 on (3 * core + 2) (λ e. omega arith),
      zeros_read (3 * core),
      zeros_read (3 * core + 1),
      zeros_read (3 * core + 2),
    )

pub first_turns_are : replicate turns normal ≡ first_turns
unfolding first_turns
first_turns_are = refl

pub first_turns_whole : WholeTurns first_turns
unfolding first_turns WholeTurns
first_turns_whole = blank_whole turns normal

pub first_turn : (core : ℕ) → core < most_cores → turn first_turns core ≡ turn_of normal
unfolding turn first_turns
first_turn core h = rw (blank_read turns normal core h)

-- ---- how many are ON
module _ (t : List ℕ) where
  pub on_count_le : on_count t ≤ most_cores
  unfolding on_count
  on_count_le = count_le (λ core. is_on (power t core)) 0 most_cores

-- ---- the mask, made from the eighth core down: it holds the cores from `core` on
pub record Masked (t : List ℕ) (core m : ℕ) : Type 0 where
  pub eight : core ≤ most_cores
  pub holds : m ≡ mask (λ c. is_on (power t c)) core (most_cores - core)
  pub small : m < 256

module _ (t : List ℕ) where
  pub masked_none : Masked t most_cores 0
  unfolding mask
  masked_none = record { eight = omega arith; holds = refl; small = omega arith }

  pub masked_more : (core m d : ℕ) → Masked t core m → 0 < core → d ≡ bit (is_on (power t (core - 1))) → Masked t (core - 1) (d + 2 * m)
  unfolding mask
  masked_more core m d r h e =
      let more : most_cores - (core - 1) ≡ suc (most_cores - core) = omega arith in
      let back : suc (core - 1) ≡ core = omega arith in
      let is : d + 2 * m ≡ mask (λ c. is_on (power t c)) (core - 1) (most_cores - (core - 1)) = rw (more, back, e, r.holds) in
      let fits : mask (λ c. is_on (power t c)) (core - 1) (most_cores - (core - 1)) < 2 ^ (most_cores - (core - 1)) = mask_fits (λ c. is_on (power t c)) (core - 1) (most_cores - (core - 1)) in
      let most : 2 ^ (most_cores - (core - 1)) ≤ 2 ^ most_cores = pow-le-pow_right (omega arith) {i = most_cores - (core - 1)} {j = most_cores} (omega arith) in
      record { eight = omega (arith, r.eight); holds = is; small = omega arith }

  pub masked_all : (core m : ℕ) → Masked t core m → core ≤ 0 → m ≡ on_mask t
  unfolding on_mask
  masked_all core m r h = let e : core ≡ 0 = omega arith in r.holds ∙ rw e

  pub mask_counts : (m : ℕ) → m ≡ on_mask t → ones m ≡ on_count t
  unfolding on_mask on_count
  mask_counts m e = rw e (ones_mask (λ core. is_on (power t core)) 0 most_cores)

  pub mask_few : (m : ℕ) → m ≡ on_mask t → ones m ≤ most_cores
  mask_few m e = rw (mask_counts m e) (on_count_le t)

pub ruleset masks = (masked_none, masked_more, masked_all)
