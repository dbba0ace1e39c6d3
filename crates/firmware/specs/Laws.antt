-- How the code's branches meet the definitions of Numbers: one law for each outcome.
use Rattle.std.specs.Prelude.{◌≡◌, refl, Bool, true, false, List, [], ◌∷◌, ℕ, length, set, Err, None, Ok, Option, Result}
use Rattle.std.proofs.Common.{◌∙◌, arith}
use Rattle.mapping.specs.Leads.{To}
use Rattle.mapping.specs.declared.Lead.{Lead}
use Rattle.rules.specs.Sizes.{normal}
use Rattle.rules.specs.Reasons.{minus}
use Rattle.rules.specs.declared.Reason.{Reason}
use Rattle.rules.specs.declared.Reason.TheVariants as Reason
use Rattle.ledger.specs.Ledger.{empty}
use Rattle.registers.specs.Registers.{saved, shown_of, zeros}
use Rattle.cores.specs.Power.{is_on}
use Rattle.cores.specs.Cores.{power, first_powers, turn, first_turns}
use Rattle.cores.specs.declared.Power.{Power}
use Rattle.cores.specs.declared.Turn.{Turn}
use Rattle.pages.specs.Owners.{unowned}
use Rattle.pages.specs.Named.{unnamed}
use Rattle.mapping.specs.Lists.{unmapped}
use Rattle.judgements.specs.declared.Answer.{Answer}
use Rattle.judgements.specs.declared.Answer.TheVariants.{Version, PowerVersion, Done, On, Off, Pending, Owns, Leads, Count, Silent, No}
use Rattle.calls.specs.Step.{State}
use Rattle.calls.specs.declared.Made.{Made}
use Rattle.parsing.specs.Frame.{status_byte}
use Rattle.parsing.specs.declared.Status.{Status}
use Rattle.showing.specs.Showing.{shown_on, shows_on, shows_off}
use Rattle.calling.specs.Calling.{trying, shown_in}
use Rattle.setup.specs.Table.{unset}
use Rattle.frames.specs.Frames.{machine, first}
use Rattle.firmware.specs.Numbers.{in_byte, refusal, listed, telling, call_told, led_to}

-- ---- fresh tables
pub all_fresh : (s n l o v p t k : List ℕ) → s ≡ unset → n ≡ unnamed → l ≡ empty → o ≡ unowned → v ≡ zeros → p ≡ first_powers → t ≡ first_turns → k ≡ unmapped
    → machine s n l o v p t k ≡ first
all_fresh s n l o v p t k a b c d e f g h = rw (a, b, c, d, e, f, g, h)

-- ---- a status as its byte
pub in_byte_lem : {A : Type 0} (a : A) (why : Status) (o : A × Status) (n : ℕ) → (a, why) ≡ o → n ≡ status_byte why → (a, n) ≡ in_byte o
in_byte_lem a why o n is e = rw (← is, e)

-- ---- what is told of a call
pub refuses : (a : Answer) (r : Reason) (n : ℕ) → a ≡ No r → n ≡ minus r → n ≡ refusal a
refuses a r n e f = rw (e, f)

pub refuses_not : (a : Answer) → ((r : Reason) → a ≡ No r → ⊥) → 0 ≡ refusal a
refuses_not Version h = refl
refuses_not PowerVersion h = refl
refuses_not Done h = refl
refuses_not On h = refl
refuses_not Off h = refl
refuses_not Pending h = refl
refuses_not (Owns is) h = refl
refuses_not (Leads phys attr) h = refl
refuses_not (Count n) h = refl
refuses_not Silent h = refl
refuses_not (No r) h = absurd (h r refl)

-- seven numbers, each in its place
seven : (t : List ℕ) (a b c d e f g : ℕ) → length t ≡ 7 → set (set (set (set (set (set (set t 0 a) 1 b) 2 c) 3 d) 4 e) 5 f) 6 g ≡ (a ∷ b ∷ c ∷ d ∷ e ∷ f ∷ g ∷ [])
seven [] a b c d e f g h = absurd (omega arith)
seven (_ ∷ []) a b c d e f g h = absurd (omega arith)
seven (_ ∷ _ ∷ []) a b c d e f g h = absurd (omega arith)
seven (_ ∷ _ ∷ _ ∷ []) a b c d e f g h = absurd (omega arith)
seven (_ ∷ _ ∷ _ ∷ _ ∷ []) a b c d e f g h = absurd (omega arith)
seven (_ ∷ _ ∷ _ ∷ _ ∷ _ ∷ []) a b c d e f g h = absurd (omega arith)
seven (_ ∷ _ ∷ _ ∷ _ ∷ _ ∷ _ ∷ []) a b c d e f g h = absurd (omega arith)
seven (_ ∷ _ ∷ _ ∷ _ ∷ _ ∷ _ ∷ _ ∷ []) a b c d e f g h = refl
seven (_ ∷ _ ∷ _ ∷ _ ∷ _ ∷ _ ∷ _ ∷ _ ∷ t) a b c d e f g h = absurd (omega arith)

pub tells : (t v : List ℕ) (caller refused core runs world a b c d : ℕ) → length t ≡ 7
    → a ≡ saved v core world 0 → b ≡ saved v core world 1 → c ≡ saved v core world 2 → d ≡ saved v core world 3
    → set (set (set (set (set (set (set t 0 runs) 1 a) 2 b) 3 c) 4 d) 5 caller) 6 refused ≡ listed runs (shown_of v core world) caller refused
unfolding shown_of
tells t v caller refused core runs world a b c d h i j k l = seven t runs a b c d caller refused h ∙ rw (i, j, k, l)

module _ (told t' : List ℕ) (made : Made) (core : ℕ) (v p t : List ℕ) (w : Power) (on : Bool) (is : w ≡ power p core) (said : on ≡ is_on w) (n : ℕ) (no : n ≡ refusal made.answer) where
  pub tells_on : (u : Turn) → on ≡ true → u ≡ turn t core → t' ≡ listed u.world (shown_of v core u.world) made.caller n → t' ≡ telling told made (shown_on core v p t)
  tells_on u e f g = rw (← shows_on core v p t w on is said u (shown_of v core u.world) e f refl, ← no) g

  pub tells_off : on ≡ false → t' ≡ listed 255 (shown_of v core normal) made.caller n → t' ≡ telling told made (shown_on core v p t)
  tells_off e g = rw (← shows_off core v p t w on is said (shown_of v core normal) e refl, ← no) g

pub ruleset tellings = (tells_on, tells_off)

-- ---- a call
module _ (s : List ℕ) (w : State) (told : List ℕ) (core : ℕ) (xs s' : List ℕ) (w' : State) (t : Result Made Status) (is : ((s', w'), t) ≡ trying s w core xs) where
  pub call_refused : (why : Status) (n : ℕ) → t ≡ Err why → n ≡ status_byte why → (((s', w'), told), n) ≡ call_told s w told core xs
  unfolding call_told
  call_refused why n e f = rw (← is, e, f)

  pub call_made : (made : Made) (told' : List ℕ) → t ≡ Ok made → told' ≡ telling told made (shown_in core w') → (((s', w'), told'), 0) ≡ call_told s w told core xs
  unfolding call_told
  call_made made told' e f = rw (← is, e, f)

pub ruleset callings = (call_refused, call_made)

-- ---- where an address leads
module _ (l : List ℕ) (a b : Option Lead) (is : a ≡ b) where
  pub leads_to : (phys attr : ℕ) → a ≡ To phys attr → (phys ∷ attr ∷ [], 0) ≡ led_to l b
  leads_to phys attr e = rw (← is, e)

  pub leads_nowhere : (n : ℕ) → a ≡ None → n ≡ minus Reason.Nowhere → (l, n) ≡ led_to l b
  leads_nowhere n e f = rw (← is, e, f)

pub ruleset leadings = (leads_to, leads_nowhere)
