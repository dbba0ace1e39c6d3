-- The mappings that each world holds, how one is put among them and how one is taken out. Shut: the laws say the rest.
use Rattle.std.specs.Prelude.{◌≡◌, ℕ, ◌+◌, ◌-◌, ◌%◌, ◌^◌, ◌≤◌, List, ◌≢◌, None, Option, Some}
use Rattle.std.proofs.Math.Path.{sym}
use Rattle.std.proofs.Common.{◌∙◌}
use borrow.Author.Tests.{ne_eqb, eq-eqb}
use Rattle.mapping.specs.Leads.{To}
use Rattle.rules.specs.Sizes.{most_mappings}
use Rattle.mapping.specs.Mapping.{deciding, decided_by, leading, lead_of}
use Rattle.mapping.proofs.Deciding.{deciding_low}
use Rattle.mapping.specs.Places.{held_at, here_none, here_some}
use Rattle.mapping.proofs.Places.{smallest_gathered}
use Rattle.places.specs.Table.{place}
use Rattle.places.specs.Decider.{decider}
use Rattle.ranges.specs.declared.Mapping.{Mapping}
use Rattle.mapping.specs.Lists.{decided_none, decided_some, has_is, held, holding_is, meets_bytes, meets_is, released_is, released_not, touched_is}

-- ---- the smallest that the places have is the one that decides
decider_is : (t : List ℕ) (w x : ℕ) → held_at (decider t w x) ≡ deciding (held t w) x
unfolding decider held deciding
decider_is t w x = smallest_gathered (place t w) x 0 most_mappings

module _ (t : List ℕ) (w x : ℕ) (m : Mapping) (e : m ≡ decider t w x) where
  pub decides_nobody : m.size ≡ 0 → None ≡ decided_by (deciding (held t w) x)
  unfolding decided_by
  decides_nobody h = let z : deciding (held t w) x ≡ None = sym (rw e (decider_is t w x)) ∙ here_none m (eq-eqb _ _ h) in rw z

  pub decides_by : (m.size ≢ 0) → Some m ≡ decided_by (deciding (held t w) x)
  unfolding decided_by
  decides_by h = let z : deciding (held t w) x ≡ Some m = sym (rw e (decider_is t w x)) ∙ here_some m (ne_eqb _ _ h) in rw z

module _ (l : List Mapping) (x : ℕ) (d : Option Mapping) (e : d ≡ decided_by (deciding l x)) where
  pub leads_nowhere : d ≡ None → None ≡ lead_of l x
  unfolding lead_of leading
  leads_nowhere h = let z = decided_none (deciding l x) (sym h ∙ e) in rw z

  module _ (m : Mapping) (h : d ≡ Some m) where
    leads_by : deciding l x ≡ Some m
    leads_by = decided_some (deciding l x) m (sym h ∙ e)

    pub leads_from : m.virt ≤ x
    leads_from = deciding_low l x m leads_by

    pub leads_to : (p : ℕ) → p ≡ (m.phys + (x - m.virt)) % 2 ^ 64 → To p m.attr ≡ lead_of l x
    unfolding lead_of leading
    leads_to p g = rw (leads_by, g)

pub ruleset list_laws = (has_is, meets_is, meets_bytes, touched_is, decides_nobody, decides_by, leads_nowhere, leads_from, leads_to, holding_is, released_not, released_is)
