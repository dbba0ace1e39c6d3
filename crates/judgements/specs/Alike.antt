-- One call judged with two lists of the caller's own mappings. A judgement owes all to that list in a call on it, in a gift of pages whether it is granted, and else nothing.
use Rattle.std.specs.Prelude.{◌≡◌, true, false, ◌⊎◌, ℕ, eqb, None, Option, Some}
use Rattle.std.proofs.Math.Path.{refl}
use Rattle.std.proofs.Common.{inl, inr, ⊎_elim, eqb-true}
use mathlib.Core.List.{List}
use Rattle.std.proofs.lemmas.Bool.{eqb-false}
use Rattle.rules.specs.Choice.{either, chosen}
use Rattle.rules.specs.declared.Reason.{Reason}
use Rattle.judgements.specs.Names.{granule_to_realm, granule_to_normal, take_pages, give_pages, map_pages, unmap_pages, where_leads}
use Rattle.judgements.specs.Judge.{Listed, row_in, row_of}
use Rattle.judgements.specs.declared.Answer.TheVariants as Answer
use Rattle.judgements.specs.declared.Judged.{Judged}
use Rattle.judgements.specs.declared.Args.{Args}
use Rattle.judgements.specs.declared.Transfer.{Transfer}

-- ---- two kinds of calls, by their keys
-- on the caller's own list: to map, to unmap, to ask where an address leads
abbrev pub OnList : ℕ → Type 0
OnList k = (k ≡ map_pages) ⊎ ((k ≡ unmap_pages) ⊎ (k ≡ where_leads))

-- pages for Normal: one, or several
abbrev pub GivesPages : ℕ → Type 0
GivesPages k = (k ≡ granule_to_normal) ⊎ (k ≡ give_pages)

abbrev pub TakesPages : ℕ → Type 0
TakesPages k = (k ≡ granule_to_realm) ⊎ (k ≡ take_pages)

pub on_list_or : {P : Type 0} (k : ℕ) → (OnList k → P) → ((OnList k → ⊥) → P) → P
on_list_or k y n =
    either (eqb k map_pages) (λ a. y (inl (eqb-true k map_pages a)))
    (λ a. either (eqb k unmap_pages) (λ b. y (inr (inl (eqb-true k unmap_pages b))))
    (λ b. either (eqb k where_leads) (λ c. y (inr (inr (eqb-true k where_leads c))))
    (λ c. n (⊎_elim (eqb-false k map_pages a) (⊎_elim (eqb-false k unmap_pages b) (eqb-false k where_leads c))))))

-- a row of the transfers by what it says of the key
module _ (a : Args) (h k : ℕ) (P : Option Transfer → Type 0) (none : P None) (takes : (t : Transfer) → t.takes ≡ true → TakesPages k → P (Some t)) (gives : (t : Transfer) → t.takes ≡ false → GivesPages k → P (Some t)) where
  pub row_by : P (row_of a h k)
  unfolding row_in
  row_by =
      chosen (λ (ls : List Listed). P (row_in ls k)) (eqb h 2) _ _
      (λ e. chosen P _ _ _ (λ f. takes _ refl (inl (eqb-true k granule_to_realm f))) (λ f. chosen P _ _ _ (λ g. gives _ refl (inl (eqb-true k granule_to_normal g))) (λ g. none)))
      (λ e. chosen (λ (ls : List Listed). P (row_in ls k)) (eqb h 1) _ _
      (λ f. chosen P _ _ _ (λ g. takes _ refl (inr (eqb-true k take_pages g))) (λ g. chosen P _ _ _ (λ i. gives _ refl (inr (eqb-true k give_pages i))) (λ i. none)))
      (λ f. none))

-- ---- one call on two lists
-- one is granted and the other refused
abbrev Parted : Judged → Judged → Type 0
Parted j i = (r : Reason) → j.answer ≡ Answer.Done → i.answer ≡ Answer.No r → ⊥

-- granted in both, or in neither
abbrev pub Level : Judged → Judged → Type 0
Level j i = Parted j i × Parted i j

-- one judgement, where a gift is granted in both or in neither
abbrev pub Same : ℕ → Judged → Judged → Type 0
Same k j i = (GivesPages k → Level j i) → j ≡ i
