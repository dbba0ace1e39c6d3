-- What is carried from one read to the next, whatever is kept and whatever a line means: part by part, after a read and at the end of the input.
use Rattle.std.specs.Prelude.{◌≡◌, ℕ, ◌<◌, take}
use Rattle.std.proofs.Common.{◌∙◌, arith, lt-ltb, eq-eqb}
use mathlib.Core.List.{List}
use Rattle.std.proofs.Math.ListN.{length}
use Rattle.rules.specs.Choice.{pick_yes, both_true}
use Rattle.inputs.specs.Waiting.{ended, heard}

-- at the end of the input: what waits, as a line
pub heard_end : (buf : List ℕ) (kept n : ℕ) → n ≡ kept → kept < length buf → heard buf kept n ≡ ended (take kept buf)
unfolding heard
heard_end buf kept n z h = pick_yes _ _ _ (both_true _ _ (eq-eqb n kept z) (lt-ltb n (length buf) (omega arith))) ∙ rw z
