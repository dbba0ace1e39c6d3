-- What the layers below say of a page, a mapping and an address, and what the board makes of it: one law an outcome.
use Rattle.std.specs.Prelude.{◌≡◌, List, ℕ, eqb, Err, None, Ok, Option, Result, Some}
use Rattle.mapping.specs.Leads.{To}
use Rattle.mapping.specs.declared.Lead.{Lead}
use Rattle.mapping.specs.declared.Grant.TheVariants as Grant
use Rattle.mapping.specs.declared.Grant.{Grant}
use Rattle.rules.specs.declared.Reason.{Reason}
use Rattle.rules.specs.declared.Reason.TheVariants as Reason
use Rattle.pages.specs.Owners.{owner}
use Rattle.pages.specs.declared.Window.{Window}
use Rattle.ranges.specs.declared.Mapping.{Mapping}
use Rattle.mapping.specs.Mapping.{map_verdict}
use Rattle.judgements.specs.declared.Answer.TheVariants as Answer
use Rattle.judgements.specs.declared.Deed.TheVariants as Deed
use Rattle.judgements.specs.declared.Judged.{Judged}
use Rattle.judgements.specs.Judge.{denied, granted, owning, mapping, leading}

-- ---- whether a page is the caller's
module _ (o : List ℕ) (k l : Option ℕ) (world : ℕ) (r : Judged) (same : k ≡ l) where
  pub owns_page : (page x : ℕ) → k ≡ Some page → x ≡ owner o page → r ≡ granted (Answer.Owns (eqb x world)) Deed.Nothing → r ≡ owning o l world
  unfolding owning
  owns_page page x e f h = rw (← same, e, ← f) h

  pub owns_outside : k ≡ None → r ≡ denied Reason.Invalid → r ≡ owning o l world
  unfolding owning
  owns_outside e h = rw (← same, e) h

-- ---- a mapping that is wanted
module _ (k l : Result Grant Reason) (m : Mapping) (r : Judged) (same : k ≡ l) where
  pub map_granted : (g : Grant) → k ≡ Ok g → g ≡ Grant.Hold → r ≡ granted Answer.Done (Deed.Map m) → r ≡ mapping l m
  unfolding mapping
  map_granted g e f h = rw (← same, e, f) h

  pub map_nothing : (g : Grant) → k ≡ Ok g → g ≡ Grant.Nothing → r ≡ granted Answer.Done Deed.Nothing → r ≡ mapping l m
  unfolding mapping
  map_nothing g e f h = rw (← same, e, f) h

  pub map_no : (q : Reason) → k ≡ Err q → r ≡ denied q → r ≡ mapping l m
  unfolding mapping
  map_no q e h = rw (← same, e) h

pub map_for : (l : List Mapping) (o : List ℕ) (w : Window) (world : ℕ) (m n : Mapping) (r : Judged) → m ≡ n → r ≡ mapping (map_verdict l o w world m) m → r ≡ mapping (map_verdict l o w world n) n
map_for l o w world m n r e h = rw (← e) h

-- ---- where an address leads
module _ (k l : Option Lead) (r : Judged) (same : k ≡ l) where
  pub lead_to : (phys attr : ℕ) → k ≡ To phys attr → r ≡ granted (Answer.Leads phys attr) Deed.Nothing → r ≡ leading l
  unfolding leading
  lead_to phys attr e h = rw (← same, e) h

  pub lead_nowhere : k ≡ None → r ≡ denied Reason.Nowhere → r ≡ leading l
  unfolding leading
  lead_nowhere e h = rw (← same, e) h

pub ruleset owns = (owns_page, owns_outside)

pub ruleset maps = (map_granted, map_nothing, map_no)

pub ruleset leads = (lead_to, lead_nowhere)
