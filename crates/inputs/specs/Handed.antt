-- What the promise of `answer_read` comes to, part by part, after a read and at the end of the input.
use Rattle.std.specs.Prelude.{◌≡◌, ℕ, ◌≤◌}
use mathlib.Core.List.{List}
use Rattle.std.proofs.Math.ListN.{length, take}
use Rattle.lines.specs.Input.{reading}
use Rattle.lines.specs.Parts.{complete}
use Rattle.frames.specs.Frames.{Machine}
use Rattle.inputs.specs.Run.{printed, turned}
use Rattle.inputs.specs.Carried.{Carried}

-- what is handed over for some bytes
pub record Handed (m : Machine) (s : List ℕ) (m' : Machine) (n : ℕ) (out' : List ℕ) (kept' : ℕ) (buf' : List ℕ) : Type 0 where
  -- to the writer, the answers to the complete lines
  pub says : take n out' ≡ printed m (complete s)
  pub inside : n ≤ length out'
  -- to what comes after, the machine that these lines leave, and at the front what is unfinished, or the first 133 bytes of it
  pub carries : Carried turned reading m s m' kept' buf'
