-- What is told behind the lines of an input is the end for what that input leaves.
use Rattle.std.specs.Prelude.{◌≡◌, Bool, true, List, ℕ}
use Rattle.frames.specs.Frames.{Machine, first}
use Rattle.origins.specs.Origins.{none}
use Rattle.origins.specs.Lines.{no_line}
use Rattle.tracing.specs.Traced.{Kept, start}
use Rattle.views.specs.declared.View.{View}
use Rattle.endings.specs.Ending.{end_lines}
use Rattle.standings.specs.Written.{Written}
use Rattle.explain_reads.specs.Reading.{Ran}

pub record Ended (v : View) : Type 0 where
  -- what some input leaves, from the first line on
  pub kept : Kept
  pub ran : Ran start kept
  -- and the end that was written of that
  pub space : List ℕ
  pub space' : List ℕ
  pub told : Written (end_lines kept.1.1 kept.0.setup kept.0.owners kept.1.0 kept.0.powers kept.0.turns kept.0.lists v) space space'

pub ended : (v : View) (m m' : Machine) (q q' c c' : List ℕ) (whole all : Bool) (out out' : List ℕ) → m ≡ first → q ≡ none → c ≡ no_line
    → (whole ≡ true → Ran (m, (q, c)) (m', (q', c'))) → whole ≡ true
    → (all ≡ true → Written (end_lines c' m'.setup m'.owners q' m'.powers m'.turns m'.lists v) out out') → all ≡ true → Ended v
ended v m m' q q' c c' whole all out out' a b d ran y told z =
    record { kept = (m', (q', c')); ran = rw (a, b, d) at (ran y); space = out; space' = out'; told = told z }
