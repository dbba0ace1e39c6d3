-- How the code's branches meet the definitions of Deeds.
use Rattle.std.specs.Prelude.{◌≡◌, List, ℕ, ◌+◌, ◌-◌, ◌≤◌, eqb, take, drop}
use Rattle.std.proofs.Common.{sym, arith, eq-eqb, ne_eqb}
use Rattle.rules.specs.Choice.{pick_yes, pick_no, chosen}
use Rattle.registers.specs.Registers.{saving}
use Rattle.cores.specs.Power.{started, gone_off, handed, finished}
use Rattle.cores.specs.Cores.{power, with_power, turn, with_turn}
use Rattle.cores.specs.declared.Power.{Power}
use Rattle.cores.specs.declared.Turn.{Turn}
use Rattle.pages.specs.Owners.{given}
use Rattle.mapping.specs.Lists.{holding, released}
use Rattle.ranges.specs.declared.Mapping.{Mapping}
use Rattle.rules.specs.Sizes.{normal, realm}
use Rattle.judgements.specs.declared.Deed.{Deed}
use Rattle.judgements.specs.declared.Deed.TheVariants.{Nothing, Move, Map, Unmap, Start, GoOff, HandOver, Finish}
use Rattle.deeds.specs.Deeds.{tables, started_in, gone_off_in, handed_in, finished_in, returned, finish_numbers, carried_out}

-- what is read of one core, changed and stored is changed in its place
module _ (t t' : List ℕ) (core : ℕ) where
  pub starts : (a x : ℕ) (p q : Power) → p ≡ power t core → q ≡ started p a x → t' ≡ with_power t core q → t' ≡ started_in t core a x
  starts a x p q e f h = rw (← e, ← f) h

  pub goes_off : (p q : Power) → p ≡ power t core → q ≡ gone_off p → t' ≡ with_power t core q → t' ≡ gone_off_in t core
  goes_off p q e f h = rw (← e, ← f) h

  pub hands : (to : ℕ) (p q : Turn) → p ≡ turn t core → q ≡ handed p to → t' ≡ with_turn t core q → t' ≡ handed_in t core to
  hands to p q e f h = rw (← f) h

  pub finishes : (p q : Turn) → p ≡ turn t core → q ≡ finished p → t' ≡ with_turn t core q → t' ≡ finished_in t core
  finishes p q e f h = rw (← f) h

pub ruleset changes = (starts, goes_off, hands, finishes)

-- ---- how many numbers a finish returns
pub returned_realm : (world : ℕ) → world ≡ realm → returned world ≡ 5
unfolding returned
returned_realm world e = pick_yes _ _ _ (eq-eqb world realm e)

pub returned_other : (world : ℕ) → (world ≡ realm → ⊥) → returned world ≡ 4
unfolding returned
returned_other world d = pick_no _ _ _ (ne_eqb world realm d)

-- so many stand behind x0 among eight
pub returned_few : (n world : ℕ) → n ≡ returned world → n ≤ 7
unfolding returned
returned_few n world e = let h : returned world ≤ 7 = chosen (λ (k : ℕ). k ≤ 7) (eqb world realm) 5 4 (λ y. omega arith) (λ y. omega arith) in omega arith

module _ (world : ℕ) where
  pub returns_five : world ≡ realm → 5 ≡ returned world
  returns_five e = sym (returned_realm world e)

  pub returns_four : (world ≡ realm → ⊥) → 4 ≡ returned world
  returns_four d = sym (returned_other world d)

pub ruleset counts = (returns_five, returns_four)

-- so many numbers from x1 on are what the finish gives
pub gives_back : (n world core : ℕ) (t t' xs : List ℕ) → n ≡ returned world → t' ≡ saving t core normal (take (1 + n - 1) (drop 1 xs)) → t' ≡ saving t core normal (finish_numbers world xs)
gives_back n world core t t' xs e h = let z : 1 + n - 1 ≡ n = omega arith in rw (← e, ← z) h

-- in each arm the deed is known, and with it what becomes of the tables
module _ (d : Deed) (o r p t m : List ℕ) (core caller : ℕ) (xs : List ℕ) where
  pub by_nothing : d ≡ Nothing → tables o r p t m ≡ carried_out d core caller xs (tables o r p t m)
  by_nothing e = rw e

  pub by_move : (o' : List ℕ) (first count to : ℕ) → d ≡ Move first count to → o' ≡ given o first count to
      → tables o' r p t m ≡ carried_out d core caller xs (tables o r p t m)
  by_move o' first count to e h = rw (e, h)

  pub by_map : (m' : List ℕ) (n : Mapping) → d ≡ Map n → m' ≡ holding m caller n → tables o r p t m' ≡ carried_out d core caller xs (tables o r p t m)
  by_map m' n e h = rw (e, h)

  pub by_unmap : (m' : List ℕ) (virt size : ℕ) → d ≡ Unmap virt size → m' ≡ released m caller virt size
      → tables o r p t m' ≡ carried_out d core caller xs (tables o r p t m)
  by_unmap m' virt size e h = rw (e, h)

  pub by_start : (p' : List ℕ) (c a x : ℕ) → d ≡ Start c a x → p' ≡ started_in p c a x → tables o r p' t m ≡ carried_out d core caller xs (tables o r p t m)
  by_start p' c a x e h = rw (e, h)

  pub by_off : (p' : List ℕ) → d ≡ GoOff → p' ≡ gone_off_in p core → tables o r p' t m ≡ carried_out d core caller xs (tables o r p t m)
  by_off p' e h = rw (e, h)

  pub by_hand_over : (r' t' : List ℕ) (to : ℕ) → d ≡ HandOver to → r' ≡ saving r core to xs → t' ≡ handed_in t core to
      → tables o r' p t' m ≡ carried_out d core caller xs (tables o r p t m)
  by_hand_over r' t' to e h k = rw (e, h, k)

  pub by_finish : (r' t' : List ℕ) → d ≡ Finish → r' ≡ saving r core normal (finish_numbers caller xs) → t' ≡ finished_in t core
      → tables o r' p t' m ≡ carried_out d core caller xs (tables o r p t m)
  by_finish r' t' e h k = rw (e, h, k)

pub ruleset deeds = (by_nothing, by_move, by_map, by_unmap, by_start, by_off, by_hand_over, by_finish)
