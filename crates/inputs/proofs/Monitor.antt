-- The loop of the monitor: the machine is what is kept, and a line means the frame that it is read as.
use Rattle.std.specs.Prelude.{◌≡◌, List, ℕ, ◌≤◌, length, take}
use Rattle.std.proofs.Common.{arith}
use Rattle.lines.specs.Input.{reading, reading_blind}
use Rattle.frames.specs.Frames.{Machine}
use Rattle.inputs.specs.Run.{turned}
use Rattle.inputs.specs.Waiting.{heard, front, served}
use Rattle.inputs.proofs.Handed.{handed}
use Rattle.inputs.proofs.Loop as Looping
use Rattle.inputs.specs.Monitor.{Ran, Serving}

-- one read more, which left what waits where it was
module _ (m₀ m : Machine) (s₀ : List ℕ) (kept : ℕ) (v : Serving m₀ m s₀ kept) (s : List ℕ) (n : ℕ) (same : take kept s ≡ take kept s₀)
    (m' : Machine) (put : ℕ) (out' : List ℕ) (kept' : ℕ) (s' : List ℕ) (e : (m', (front put out', front kept' s')) ≡ served m (heard s kept n)) where
  -- and brought something
  pub serving_on : kept ≤ n → (n ≡ kept → ⊥) → Serving m₀ m' s' kept'
  serving_on = Looping.serving_on turned reading m₀ m s₀ kept v s n same m' kept' s' (handed m m' (heard s kept n) put out' kept' s' e).carries

  -- or nothing: the input has ended
  pub served_all : n ≡ kept → 65536 ≡ length s → Ran m₀ m'
  served_all z h = Looping.served_all turned reading m₀ m s₀ kept v s n same m' kept' s' (handed m m' (heard s kept n) put out' kept' s' e).carries reading_blind z (omega arith)
