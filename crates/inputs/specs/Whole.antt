-- What a feed comes to: the lines up to where it stopped are answered. Where every answer has room these are all the complete lines.
use Rattle.std.specs.Prelude.{◌≡◌, take, drop}
use mathlib.Core.List.{List}
use Prim.Native.Nat.{ℕ, ◌-◌, ◌*◌, ◌≤◌}
use Rattle.std.proofs.Math.ListN.{length}
use Rattle.tools.specs.Laid.{laid}
use Rattle.text.specs.Text.{longest}
use Rattle.lines.specs.Lines.{Unbroken}
use Rattle.lines.specs.Parts.{complete}
use Rattle.frames.specs.Frames.{Machine}
use Rattle.inputs.specs.Run.{printed, left_by}
use Rattle.inputs.specs.Fed.{Stand}

-- a machine m has read up to a place behind a newline, and what it prints for that is laid over what was there
pub record Answers (s : List ℕ) (m : Machine) (was : List ℕ) (d : Stand) : Type 0 where
  pub lines : complete (take d.read s) ≡ take d.read s
  pub inside : d.read ≤ length s
  pub machine : d.machine ≡ left_by m (take d.read s)
  pub done : d.done ≡ length (printed m (take d.read s))
  pub out : d.out ≡ laid was 0 (printed m (take d.read s))
  pub room : d.done ≤ length was
  pub few : d.done ≤ 5 * d.read

-- nothing is left but a line that lacks its newline, where the longest answer still fits
abbrev pub Through : List ℕ → Stand → Type 0
Through s d = longest ≤ length d.out - d.done → Unbroken (drop d.read s)
