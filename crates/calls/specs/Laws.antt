-- How the code's branches meet the definitions of Step.
use Rattle.std.specs.Prelude.{◌≡◌, refl, not, List, ℕ}
use Rattle.std.proofs.Math.Path.{sym, ap}
use Rattle.std.proofs.Common.{◌∙◌, arith}
use Rattle.std.proofs.Math.Bool.{true, false}
use borrow.Author.Tests.{not-true, not-false}
use Rattle.rules.specs.Choice.{pick_yes, pick_no}
use Rattle.registers.specs.Registers.{saving, saving_none}
use Rattle.cores.specs.Power.{arrived, arrival_of, is_pending, entered, arrived_pending}
use Rattle.cores.specs.Cores.{power, with_power, turn, with_turn}
use Rattle.cores.specs.declared.Power.{Power}
use Rattle.cores.specs.declared.Turn.{Turn}
use Rattle.cores.specs.declared.Arriving.{Arriving}
use Rattle.rules.specs.Sizes.{normal}
use Rattle.identifiers.specs.declared.Parts.{Parts}
use Rattle.judgements.specs.Judge.{Sight, judged}
use Rattle.judgements.proofs.Asked.{called_for}
use Rattle.judgements.specs.declared.Answer.{Answer}
use Rattle.judgements.specs.declared.Answer.TheVariants.{Silent}
use Rattle.judgements.specs.declared.Deed.{Deed}
use Rattle.judgements.specs.declared.Deed.TheVariants.{Nothing, Move, Map, Unmap, Start, GoOff, HandOver, Finish}
use Rattle.answers.specs.Answers.{written}
use Rattle.deeds.specs.Deeds.{tables, with_saved, finish_numbers, carried_out}
use Rattle.calls.specs.Step.{core_tables, start_numbers, arrived_in}

-- ---- the deed before the answer
-- a deed that writes numbers comes with an answer that writes none
abbrev pub Quietly : Deed → Answer → Type 0
Quietly Nothing a = Unit {0}
Quietly (Move first count to) a = Unit {0}
Quietly (Map m) a = Unit {0}
Quietly (Unmap virt size) a = Unit {0}
Quietly (Start target address context) a = Unit {0}
Quietly GoOff a = Unit {0}
Quietly (HandOver to) a = a ≡ Silent
Quietly Finish a = a ≡ Silent

pub quietly : (s : Sight) (xs : List ℕ) (d : Deed) → (judged s xs).deed ≡ d → Quietly d (judged s xs).answer
quietly s xs Nothing e = tt
quietly s xs (Move first count to) e = tt
quietly s xs (Map m) e = tt
quietly s xs (Unmap virt size) e = tt
quietly s xs (Start target address context) e = tt
quietly s xs GoOff e = tt
quietly s xs (HandOver to) e = (called_for s xs (HandOver to) (λ (n : HandOver to ≡ Nothing). let z : ◌≡◌ {A = ℕ} 0 1 = cc in omega arith) e).so.1
quietly s xs Finish e = (called_for s xs Finish (λ (n : Finish ≡ Nothing). let z : ◌≡◌ {A = ℕ} 0 1 = cc in omega arith) e).so.1

-- then what is written after the deed could have been written before it
module _ (core caller : ℕ) (xs : List ℕ) (k : Parts) (a : Answer) (o n p t m : List ℕ) where
  abbrev Late : Deed → Type 0
  Late d =
      let y = carried_out d core caller xs (tables o n p t m) in
      with_saved y (saving y.saved core caller (written k a)) ≡ carried_out d core caller xs (tables o (saving n core caller (written k a)) p t m)

  pub late : (d : Deed) → Quietly d a → Late d
  late Nothing s = refl
  late (Move first count to) s = refl
  late (Map mapping) s = refl
  late (Unmap virt size) s = refl
  late (Start target address context) s = refl
  late GoOff s = refl
  late (HandOver to) s = rw (s, saving_none n core caller, saving_none (saving n core to xs) core caller)
  late Finish s = rw (s, saving_none n core caller, saving_none (saving n core normal (finish_numbers caller xs)) core caller)

-- ---- an arrival, from what each part ensures
module _ (r p t : List ℕ) (core : ℕ) (x : Power) (y : Arriving) (was : x ≡ power p core) (is : y ≡ arrival_of x) where
  pub stays_away : not y.came ≡ true → (core_tables r p t, false) ≡ arrived_in (core_tables r p t) core
  unfolding arrived_in
  stays_away e =
      let n : is_pending (power p core) ≡ false = not-true (is_pending (power p core)) (rw (is, was) at e) in
      sym (pick_no _ _ _ n)

  pub comes : (r' p' t' : List ℕ) (z u : Turn) → not y.came ≡ false → p' ≡ with_power p core y.power → z ≡ turn t core → u ≡ entered z → t' ≡ with_turn t core u
      → r' ≡ saving r core normal (start_numbers y.power)
      → (core_tables r' p' t', true) ≡ arrived_in (core_tables r p t) core
  unfolding arrived_in
  comes r' p' t' z u e ep ez eu et er =
      let n : is_pending (power p core) ≡ true = not-false (is_pending (power p core)) (rw (is, was) at e) in
      let a : y.power ≡ arrived (power p core) = rw (is, was) in
      let b : start_numbers y.power ≡ start_numbers (power p core) = rw (a, arrived_pending (power p core) n) in
      let f : p' ≡ with_power p core (arrived (power p core)) = ep ∙ ap (with_power p core) a in
      sym (pick_yes _ _ _ n ∙ rw (er, f, et, eu, b))

pub ruleset arrivals = (stays_away, comes)
