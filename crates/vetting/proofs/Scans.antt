-- The loop over a row: each entry that is accepted leaves the rest of the row to be told.
use Rattle.std.specs.Prelude.{◌≡◌, Bool, true, false}
use Rattle.std.proofs.Math.Path.{refl, sym, ap}
use Rattle.std.proofs.Common.{◌∙◌}
use Prim.Native.Nat.{ℕ, suc, ◌+◌, ◌-◌, ◌≤◌, ◌<◌}
use Rattle.std.proofs.Math.Numerals.{add-one}
use native.Mathlib.Omega.{arith}
use Rattle.rules.specs.Choice.{yes_or_no}
use Rattle.vetting.specs.Outcome.{Vetted, Accepted, Refused}
use Rattle.vetting.specs.Pass.{or_else, scan}

-- a refusal stands, whatever comes behind it
abbrev is_refused : Vetted → Bool
is_refused Accepted = false
is_refused (Refused s x) = true

refused_is : (v w : Vetted) → is_refused v ≡ true → or_else v w ≡ v
unfolding or_else
refused_is Accepted w h = let z : false ≡ true = h in absurd (yes_or_no false z refl)
refused_is (Refused s x) w h = refl

module _ (f : ℕ → Vetted) (i n : ℕ) (whole : Vetted) (inv : whole ≡ scan f i (n - i)) where
  some_left : i < n → scan f i (n - i) ≡ or_else (f i) (scan f (i + 1) (n - (i + 1)))
  unfolding scan
  some_left h = let z : n - i ≡ suc (n - (i + 1)) = omega arith in ap (scan f i) z ∙ rw add-one

  pub scan_stops : (s x : ℕ) → i < n → Refused s x ≡ f i → Refused s x ≡ whole
  scan_stops s x h e = sym (inv ∙ some_left h ∙ rw (← e) (refused_is (Refused s x) _ refl))

  pub scan_goes : i < n → Accepted ≡ f i → whole ≡ scan f (i + 1) (n - (i + 1))
  unfolding or_else
  scan_goes h e = inv ∙ some_left h ∙ rw (← e) refl

  pub scan_ends : n ≤ i → Accepted ≡ whole
  unfolding scan
  scan_ends h = let z : n - i ≡ 0 = omega arith in sym (inv ∙ ap (scan f i) z)
