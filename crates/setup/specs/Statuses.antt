-- The paper's table of statuses from 73 on, its rows in its order: the first that holds refuses the frame.
use Rattle.std.specs.Prelude.{◌≡◌, refl, Bool, true, false, List, [], ◌∷◌, ℕ}
use Rattle.std.proofs.Common.{sym, ap, ◌∙◌, arith}
use Rattle.rules.specs.Choice.{either}
use Rattle.rules.specs.Tests.{Test, refuses, sieve, Clear, sieved_two, stops, goes, ends}
use Rattle.parsing.specs.declared.Status.{Status}
use Rattle.parsing.specs.declared.Status.TheVariants.{Accepted, Misplaced, OutOfRange, Clash}

-- 73, 74 and 75
abbrev pub rows : Bool → Bool → Bool → List (Test Status)
rows misplaced outside clash = refuses misplaced Misplaced ∷ refuses outside OutOfRange ∷ refuses clash Clash ∷ []

-- `deny` makes an outcome of a refusal, and `done` is the outcome where there is none
unfoldable pub ruled : {A : Type 0} → (Status → A) → Bool → Bool → Bool → A → A
ruled deny misplaced outside clash done = sieve deny (rows misplaced outside clash) done

-- ---- row by row
module _ {A : Type 0} (deny : Status → A) (misplaced outside clash : Bool) (done r : A) where
  pub ruled_misplaced : misplaced ≡ true → r ≡ deny Misplaced → r ≡ ruled deny misplaced outside clash done
  unfolding ruled
  ruled_misplaced a h = stops _ _ _ _ _ _ a h

  pub ruled_outside : misplaced ≡ false → outside ≡ true → r ≡ deny OutOfRange → r ≡ ruled deny misplaced outside clash done
  unfolding ruled
  ruled_outside a b h = goes _ _ _ _ _ _ a (stops _ _ _ _ _ _ b h)

  pub ruled_clash : misplaced ≡ false → outside ≡ false → clash ≡ true → r ≡ deny Clash → r ≡ ruled deny misplaced outside clash done
  unfolding ruled
  ruled_clash a b c h = goes _ _ _ _ _ _ a (goes _ _ _ _ _ _ b (stops _ _ _ _ _ _ c h))

  pub ruled_done : misplaced ≡ false → outside ≡ false → clash ≡ false → r ≡ done → r ≡ ruled deny misplaced outside clash done
  unfolding ruled
  ruled_done a b c h = goes _ _ _ _ _ _ a (goes _ _ _ _ _ _ b (goes _ _ _ _ _ _ c (ends _ _ _ h)))

-- ---- none of these is how an accepted frame is answered
pub misplaced_not : Misplaced ≡ Accepted → ⊥
misplaced_not e = let z : ◌≡◌ {A = ℕ} 0 1 = cc in omega arith

pub outside_not : OutOfRange ≡ Accepted → ⊥
outside_not e = let z : ◌≡◌ {A = ℕ} 0 1 = cc in omega arith

pub clash_not : Clash ≡ Accepted → ⊥
clash_not e = let z : ◌≡◌ {A = ℕ} 0 1 = cc in omega arith

-- ---- a frame by its rows: a case for all refusals, and one in which none holds
pub ruled_by : {A : Type 0} (P : A → Type 0) (deny : Status → A) (misplaced outside clash : Bool) (done : A)
    → ((why : Status) → (why ≡ Accepted → ⊥) → P (deny why)) → (misplaced ≡ false → outside ≡ false → clash ≡ false → P done) → P (ruled deny misplaced outside clash done)
ruled_by P deny misplaced outside clash done f g =
    either misplaced
    (λ a. rw (← ruled_misplaced deny misplaced outside clash done _ a refl) (f Misplaced misplaced_not))
    (λ a. either outside
    (λ b. rw (← ruled_outside deny misplaced outside clash done _ a b refl) (f OutOfRange outside_not))
    (λ b. either clash
    (λ c. rw (← ruled_clash deny misplaced outside clash done _ a b c refl) (f Clash clash_not))
    (λ c. rw (← ruled_done deny misplaced outside clash done _ a b c refl) (g a b c))))

-- an outcome that is told by another one
pub ruled_told : {A B : Type 0} (told : A → B) (deny : Status → A) (misplaced outside clash : Bool) (done : A)
    → told (ruled deny misplaced outside clash done) ≡ ruled (λ (why : Status). told (deny why)) misplaced outside clash (told done)
ruled_told told deny misplaced outside clash done =
    either misplaced
    (λ a. ap told (sym (ruled_misplaced deny misplaced outside clash done _ a refl)) ∙ ruled_misplaced _ misplaced outside clash _ _ a refl)
    (λ a. either outside
    (λ b. ap told (sym (ruled_outside deny misplaced outside clash done _ a b refl)) ∙ ruled_outside _ misplaced outside clash _ _ a b refl)
    (λ b. either clash
    (λ c. ap told (sym (ruled_clash deny misplaced outside clash done _ a b c refl)) ∙ ruled_clash _ misplaced outside clash _ _ a b c refl)
    (λ c. ap told (sym (ruled_done deny misplaced outside clash done _ a b c refl)) ∙ ruled_done _ misplaced outside clash _ _ a b c refl)))

-- a statement about two frames by one list of rows
pub ruled_two : {A B : Type 0} (P : A → B → Type 0) (deny : Status → A) (refuse : Status → B) (misplaced outside clash : Bool) (done : A) (made : B)
    → ((why : Status) → P (deny why) (refuse why)) → (misplaced ≡ false → outside ≡ false → clash ≡ false → P done made)
    → P (ruled deny misplaced outside clash done) (ruled refuse misplaced outside clash made)
unfolding ruled Clear
ruled_two P deny refuse misplaced outside clash done made f g = sieved_two P deny refuse (rows misplaced outside clash) done made f (λ h. g h.0 h.1.0 h.1.1.0)
