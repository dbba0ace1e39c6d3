-- The theorems: what is stated holds after any lines whatever, from any accepted set-up on, of whatever keeps the promise of the step.
use Rattle.std.specs.Prelude.{◌≡◌, refl, List, [], ◌∷◌, ◌++◌, map, ℕ, ◌^◌, ◌<◌, length, Option}
use Rattle.std.proofs.Common.{sym, ap, ◌∙◌, arith}
use Rattle.std.proofs.lemmas.List.{length-map}
use Rattle.ledger.specs.Only.{only}
use Rattle.ledger.specs.OneHandler.{One, covers}
use Rattle.registers.specs.Registers.{saved_zeros}
use Rattle.cores.specs.Power.{power_of, off, on}
use Rattle.cores.specs.declared.Turn.{Turn}
use Rattle.cores.specs.Cores.{power, first_power_zero, first_power_other, first_turn}
use Rattle.pages.specs.Owners.{unowned_owner}
use Rattle.rules.specs.Sizes.{normal}
use Rattle.judgements.specs.Judge.{called_by, args_of, found}
use Rattle.calls.specs.Step.{sight, judged_in}
use Rattle.hex_digits.specs.Hex.{value, in_hex}
use Rattle.lines.specs.Lines.{lines_of}
use Rattle.lines.specs.Meant.{meant}
use Rattle.lines.specs.Input.{reading, readings}
use Rattle.parsing.specs.declared.Frame.{Frame}
use Rattle.parsing.specs.declared.Frame.TheVariants as Frame
use Rattle.frames.specs.Frames.{Machine, first, state_of}
use Rattle.showing.specs.declared.Reply.{Reply}
use Rattle.showing.specs.declared.Reply.TheVariants.{Told, Called}
use Rattle.answering.specs.Answer.{text_of}
use Rattle.inputs.specs.Run.{answers, printed}
use Rattle.guarantees.specs.Runs.{Event, Events, byte, next, replies, replies_count, Follows, follows_is}
use Rattle.judgements.specs.Asked.{key}
use Rattle.guarantees.specs.Entries.{entries}
use Rattle.guarantees.specs.Statements.{owner_in, running, number, texts, Shape, status, call}
use Rattle.guarantees.specs.Printed.{Small, line_small, digits_value}

-- what the ledger says of a call, by the entries that a run has accepted
pub record Dispatched (run : Events) (m : Machine) (core : ℕ) (xs : List ℕ) : Type 0 where
  pub says : Option ℕ
  -- of these entries one alone covers the call's type and owner, and the ledger names its handler; or none does, and it names nobody
  pub one : One (only (covers (called_by xs).fast (called_by xs).owner) (entries first run)) says
  -- and that handler judges the call, or it is refused
  pub judged : judged_in (state_of m) core xs ≡ found (sight (state_of m) core).inner (args_of (called_by xs) xs) (key xs) says

-- Two such runs over the same lines end alike, with the same answers.
pub runs_alike : (run : Events) (m : Machine) (a b : Machine) (r q : List Reply) → Follows m run a r → Follows m run b q → (a ≡ b) × (r ≡ q)
runs_alike run m a b r q f g = let h = follows_is f in let k = follows_is g in (h.0 ∙ sym k.0, h.1 ∙ sym k.1)

-- Before the first line every page is Root's, every saved number is 0, core 0 is ON and the others are OFF, and each of the eight runs Normal.
pub root_first : (page : ℕ) → owner_in first page ≡ 0
root_first page = unowned_owner page

pub zeros_first : (core world j : ℕ) → number first core world j ≡ 0
zeros_first = saved_zeros

pub zero_first : power first.powers 0 ≡ power_of on 0 0
zero_first = first_power_zero

pub others_first : (core : ℕ) → (core ≡ 0 → ⊥) → power first.powers core ≡ power_of off 0 0
others_first = first_power_other

pub normal_first : (core : ℕ) → core < 8 → running first core ≡ normal
normal_first core h = ap (λ (t : Turn). t.world) (first_turn core h)

-- ---- from any accepted set-up on
-- a call on a core with its eight numbers, or the arrival of a core; whether it is accepted or refused
pub data Step : Type 0 where
  calls : (core : ℕ) (xs : List ℕ) → Step
  arrives : (core : ℕ) → Step

abbrev pub event : Step → Event
event (calls core xs) = (Frame.Call core, xs)
event (arrives core) = (Frame.Arrival core, [])

-- a step is no set-up line, and so none of a run of steps is
no_name : (s : Step) (line : Event) (lowest count to : ℕ) → event s ≡ line → line.0 ≡ Frame.Name lowest count to → ⊥
no_name (calls core xs) line lowest count to e k = omega (arith, ap byte (ap (λ (q : Event). q.0) e ∙ k))
no_name (arrives core) line lowest count to e k = omega (arith, ap byte (ap (λ (q : Event). q.0) e ∙ k))

pub none_names : (steps : List Step) (before : Events) (line : Event) (later : Events) (lowest count to : ℕ)
    → map event steps ≡ before ++ line ∷ later → line.0 ≡ Frame.Name lowest count to → ⊥
none_names [] [] line later lowest count to e k = let z : ◌≡◌ {A = ℕ} 0 1 = cc in omega arith
none_names [] (b ∷ before) line later lowest count to e k = let z : ◌≡◌ {A = ℕ} 0 1 = cc in omega arith
none_names (s ∷ steps) [] line later lowest count to e k = let h : event s ≡ line = cc in no_name s line lowest count to h k
none_names (s ∷ steps) (b ∷ before) line later lowest count to e k = let h : map event steps ≡ before ++ line ∷ later = cc in none_names steps before line later lowest count to h k

said : (run : Events) (m : Machine) → answers m run ≡ texts (replies m run)
unfolding answers replies texts
said [] m = refl
said (e ∷ rest) m = rw (said rest (next m e))

-- What is printed for any bytes is the answers to its lines in order, one for each line.
pub printed_answers : (m : Machine) (input : List ℕ) → (printed m input ≡ texts (replies m (readings input))) × (length (replies m (readings input)) ≡ length (lines_of input))
unfolding printed meant
printed_answers m input = (said (readings input) m, replies_count m (readings input) ∙ length-map (lines_of input) reading)

-- The numbers of a line are below 2^64, those of a call are eight, and its core is below 256.
pub read_small : (line : List ℕ) → Small (reading line)
read_small = line_small

-- So each is what its digits stand for: a number below 16^n is shown whole in n of them.
pub shown_whole : (n x : ℕ) → x < 16 ^ n → value (in_hex n x) 0 n ≡ x
shown_whole = digits_value

-- Each answer has one of two shapes: a status, or what a call shows.
pub answer_shape : (r : Reply) → Shape (text_of r)
answer_shape (Told why) = status why
answer_shape (Called core world x) = call core world x.x0 x.x1 x.x2 x.x3
