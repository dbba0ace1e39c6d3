-- The mark of each owner, and the owner that a mark stands for.
use Rattle.std.specs.Prelude.{◌≡◌, ℕ, ◌<◌}
use Rattle.std.proofs.Common.{◌∙◌, arith, ne_eqb}
use Rattle.rules.specs.Sizes.{worlds}
use Rattle.rules.specs.Choice.{pick_no}
use Rattle.marks.specs.Owners.{owner_of}

-- every other mark is nobody's
module _ (m : ℕ) where
  not_four : (m ≡ 8 → ⊥) → (m ≡ 9 → ⊥) → (m ≡ 10 → ⊥) → (m ≡ 11 → ⊥) → owner_of m ≡ worlds
  unfolding owner_of
  not_four a b c d =
      pick_no _ _ _ (ne_eqb m 8 a) ∙ pick_no _ _ _ (ne_eqb m 9 b) ∙ pick_no _ _ _ (ne_eqb m 10 c) ∙ pick_no _ _ _ (ne_eqb m 11 d)

  pub owner_below : m < 8 → owner_of m ≡ worlds
  owner_below h = not_four (λ e. omega arith) (λ e. omega arith) (λ e. omega arith) (λ e. omega arith)

  pub owner_above : 11 < m → owner_of m ≡ worlds
  owner_above h = not_four (λ e. omega arith) (λ e. omega arith) (λ e. omega arith) (λ e. omega arith)
