-- What is made of a run: the tables of what a world has mapped after some input.
use Rattle.std.specs.Prelude.{◌≡◌, Option, List, ℕ}
use Rattle.std.proofs.Common.{ap, ◌∙◌}
use Rattle.mapping.specs.Lists.{held}
use Rattle.frames.specs.Frames.{first}
use Rattle.inputs.specs.Run.{left_by}
use Rattle.inputs.specs.Monitor.{Left}
use Rattle.building.specs.Built.{built}

-- there is an input such that this is what a build leaves of these numbers, by the mappings after it
pub record Makes (world : ℕ) (numbers : List ℕ) (said : Option ℕ) (left : List ℕ) : Type 0 where
  pub input : List ℕ
  pub is : (said, left) ≡ built (held (left_by first input).lists world) numbers

pub made :
    (setup lists : List ℕ) (world : ℕ) (numbers : List ℕ) (said : Option ℕ) (left : List ℕ) →
    Left setup lists → (said, left) ≡ built (held lists world) numbers → Makes world numbers said left
made setup lists world numbers said left l e =
    record { input = l.input; is = e ∙ ap (λ (t : List ℕ). built (held t world) numbers) l.lists_are }
