-- What a report of calls tells, in plain statements about any input.
use Rattle.std.specs.Prelude.{◌≡◌, true, false, ◌&&◌, List, [], ◌∷◌, ◌++◌, ◌⊎◌, ℕ, suc, ◌+◌, ◌-◌, ◌≤◌, ◌<◌, min, eqb, ltb, length, take}
use Rattle.rules.specs.Choice.{pick}
use Rattle.parsing.specs.declared.Status.{Status}
use Rattle.parsing.specs.declared.Frame.{Frame}
use Rattle.parsing.specs.declared.Frame.TheVariants as Frame
use Rattle.showing.specs.declared.Reply.{Reply}
use Rattle.showing.specs.declared.Reply.TheVariants.{Told, Called}
use Rattle.calls.specs.Effects.{results_in}
use Rattle.lines.specs.Meant.{meant}
use Rattle.frames.specs.Frames.{Machine, first, state_of}
use Rattle.tallies.specs.Tally.{nothing}
use Rattle.report_text.specs.Report.{line_text, notice_text}
use Rattle.counting.specs.Counted.{Line, meaning, Counted, counted, noted_all}
use Rattle.guarantees.specs.Runs.{Event, Events, Taken, replies}
use Rattle.guarantees.specs.Statements.{running, number, HandsOver, GivesBack, SwitchesOff}
use Rattle.report_theorems.specs.Lists.{Each, Among}

-- ---- a counted pair: a world, and an answer
-- the numbers of the refusals
abbrev pub refusals : List ℕ
refusals = 1 ∷ 2 ∷ 3 ∷ 4 ∷ 5 ∷ 6 ∷ 9 ∷ 12 ∷ 13 ∷ 14 ∷ 22 ∷ 34 ∷ []

-- the answers that there are: 0 to 8, the two versions, and each refusal in both widths
pub data Answers : ℕ → Type 0 where
  few : (n : ℕ) → n ≤ 8 → Answers n
  power_version : Answers 0x10001
  version : Answers 0x10003
  short : (n : ℕ) → Among n refusals → Answers (4294967296 - n)
  long : (n : ℕ) → Among n refusals → Answers (18446744073709551616 - n)

-- a pair that can be counted: of Secure, Normal or Realm, with one of these answers
pub record Possible (c : Counted) : Type 0 where
  pub some_world : 1 ≤ c.0
  pub last_world : c.0 ≤ 3
  pub answer : Answers c.1

-- ---- which lines count
-- the runs of lines: a line that stands between two runs ends one, and belongs to neither
abbrev pub joined : Event → List Events → List Events
joined e [] = (e ∷ []) ∷ []
joined e (r ∷ rs) = (e ∷ r) ∷ rs

unfoldable pub runs_of : List Line → List Events
runs_of [] = [] ∷ []
runs_of ((true, e) ∷ ls) = [] ∷ runs_of ls
runs_of ((false, e) ∷ ls) = joined e (runs_of ls)

-- the lines of the last run, behind those that it has already
unfoldable pub since_in : Events → List Line → Events
since_in es [] = es
since_in es ((true, e) ∷ ls) = since_in [] ls
since_in es ((false, e) ∷ ls) = since_in (es ++ e ∷ []) ls

-- the lines of an input that stand behind its last 00, or all where it has none
abbrev pub since : List ℕ → Events
since input = since_in [] (meant meaning input)

-- how many of some answers are those of accepted calls
unfoldable pub calls : List Reply → ℕ
calls [] = 0
calls (Told why ∷ rs) = calls rs
calls (Called core world x ∷ rs) = suc (calls rs)

-- how many accepted calls there are in runs, the first of them from a machine on and each other one from the first machine
unfoldable pub calls_in : Machine → List Events → ℕ
calls_in m [] = 0
calls_in m (r ∷ rs) = calls (replies m r) + calls_in first rs

-- how many accepted calls an input has
abbrev pub accepted : List ℕ → ℕ
accepted input = calls_in first (runs_of (meant meaning input))

-- what an accepted call on a core counts as, which leaves the machine `last`
pub record CountedCall (m : Machine) (core : ℕ) (xs : List ℕ) (last : Machine) (cs : List Counted) : Type 0 where
  pub answer : ℕ
  -- It is one, for the world that ran there before it.
  pub one : cs ≡ (running m core, answer) ∷ []
  -- Where it wrote results, its answer is what its caller then has in x0.
  pub written : 0 < length (results_in (state_of m) core xs) → answer ≡ number last core (running m core) 0
  -- Where it wrote none its answer is 0,
  pub silent : length (results_in (state_of m) core xs) ≡ 0 → answer ≡ 0
  -- as it is of a hand-over, of a finish and of OFF.
  pub handed_over : (to : ℕ) → HandsOver m core xs to → answer ≡ 0
  pub finished : GivesBack m core xs → answer ≡ 0
  pub switched_off : SwitchesOff m core xs → answer ≡ 0

-- what a line counts as
pub record CountedLine (m : Machine) (e : Event) (last : Machine) (answer : Reply) (cs : List Counted) : Type 0 where
  -- A line that is answered with a status counts nothing,
  pub told : (why : Status) → answer ≡ Told why → cs ≡ []
  -- an accepted call counts once.
  pub call : (core : ℕ) → e.0 ≡ Frame.Call core → length e.1 ≡ 8 → Taken answer → CountedCall m core e.1 last cs

-- ---- how often
-- the table of counts after an input
abbrev pub table : List ℕ → List ℕ
table input = noted_all nothing (counted input)

-- how often a pair occurs in a list
unfoldable pub occurs : ℕ → ℕ → List Counted → ℕ
occurs world x [] = 0
occurs world x (c ∷ cs) = pick (eqb c.0 world && eqb c.1 x) 1 0 + occurs world x cs

-- those of an input that are counted: the first million
abbrev pub million : List ℕ → List Counted
million input = take 1000000 (counted input)

-- ---- what is printed
-- a line of a report: a world, an answer and a count
abbrev pub Row : Type 0
Row = ℕ × (ℕ × ℕ)

-- the first stands before the second: by world, and then by answer
abbrev pub Before : Row → Row → Type 0
Before r q = (r.0 < q.0) ⊎ ((r.0 ≡ q.0) × (r.1.0 < q.1.0))

-- each stands before all that follow it
unfoldable pub Ascends : List Row → Type 0
Ascends [] = Unit {0}
Ascends (r ∷ rs) = Each (Before r) rs × Ascends rs

-- the text of rows
unfoldable pub rows_text : List Row → List ℕ
rows_text [] = []
rows_text (r ∷ rs) = line_text r.0 r.1.0 r.1.1 ++ rows_text rs

-- the sum of their counts
unfoldable pub sum_of : List Row → ℕ
sum_of [] = 0
sum_of (r ∷ rs) = r.1.1 + sum_of rs

-- the report of an input
pub record Reported (input text : List ℕ) : Type 0 where
  pub rows : List Row
  -- It is the notice a08e exactly where there were more than a million accepted calls, and then a line for each row.
  pub is : text ≡ pick (ltb 1000000 (accepted input)) notice_text [] ++ rows_text rows
  -- It fits the space that the program has for it.
  pub fits : length text ≤ 12288
  -- The rows ascend by world and then by answer, so no pair has two.
  pub ascends : Ascends rows
  -- Each is of a possible pair, and its count is how often that occurs among the first million, which is not never.
  pub counts : Each (λ (r : Row). Possible (r.0, r.1.0) × ((0 < r.1.1) × (r.1.1 ≡ occurs r.0 r.1.0 (million input)))) rows
  -- Each pair that occurs there has its row.
  pub complete : (world x : ℕ) → 0 < occurs world x (million input) → Among (world, (x, occurs world x (million input))) rows
  -- The counts sum to the number of accepted calls, or to a million where there were more.
  pub sum : sum_of rows ≡ min (accepted input) 1000000
