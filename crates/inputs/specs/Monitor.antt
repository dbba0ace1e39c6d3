-- The loop of the monitor: the machine is what is kept, and a line means the frame that it is read as.
use Rattle.std.specs.Prelude.{◌≡◌, Bool, true, List, ℕ}
use Rattle.std.proofs.Common.{ap}
use Rattle.lines.specs.Input.{reading}
use Rattle.frames.specs.Frames.{Machine, first}
use Rattle.inputs.specs.Run.{left_by, turned}
use Rattle.inputs.specs.Loop as Loop

-- a machine that an input leaves
abbrev pub Ran : Machine → Machine → Type 0
Ran m m' = Loop.Ran turned reading m m'

abbrev pub Serving : Machine → Machine → List ℕ → ℕ → Type 0
Serving m₀ m s kept = Loop.Serving turned reading m₀ m s kept

-- set-up and the mappings as an input leaves them
pub record Left (s k : List ℕ) : Type 0 where
  pub input : List ℕ
  pub setup_is : s ≡ (left_by first input).setup
  pub lists_are : k ≡ (left_by first input).lists

-- from a machine as it is before the first frame
pub ran_left : (m m' : Machine) (whole : Bool) → (whole ≡ true → Ran m m') → whole ≡ true → m ≡ first → Left m'.setup m'.lists
ran_left m m' whole ran y e =
    let q : Ran first m' = rw e at (ran y) in
    record { input = q.input; setup_is = ap (λ (n : Machine). n.setup) q.is; lists_are = ap (λ (n : Machine). n.lists) q.is }

pub serving_none : (m : Machine) (s : List ℕ) → Serving m m s 0
serving_none = Loop.serving_none turned reading
