-- Why exactly the accepted calls count, each for its caller and with what it was answered.
use Rattle.std.specs.Prelude.{◌≡◌, refl, ℕ, length, get_or}
use Rattle.std.proofs.Common.{arith}
use mathlib.Core.List.{List, [], ◌∷◌}
use Rattle.parsing.specs.declared.Frame.{Frame}
use Rattle.parsing.specs.declared.Frame.TheVariants as Frame

-- ---- a line by itself
pub none_zero : (l : List ℕ) → length l ≡ 0 → get_or l 0 0 ≡ 0
none_zero [] e = refl
none_zero (x ∷ l) e = absurd (omega arith)

pub call_is : {c d : ℕ} → Frame.Call c ≡ Frame.Call d → c ≡ d
call_is e = cc
