-- How an entry that is no table answers an address, and whether the list answers it otherwise.
use Rattle.std.specs.Prelude.{◌≡◌, refl, Bool, true, false, not, ◌&&◌, List, ℕ, eqb, None, Option, Some}
use borrow.Author.Tests.{eq-eqb, eqb-true}
use Rattle.mapping.specs.Leads.{To}
use Rattle.mapping.specs.declared.Lead.{Lead}
use Rattle.rules.specs.Choice.{either, left_true, right_true, both_true, yes_or_no, not_true}
use Rattle.ranges.specs.declared.Mapping.{Mapping}
use Rattle.mapping.specs.Mapping.{lead_of}
use Rattle.descriptors.specs.Meaning.{meaning}
use Rattle.descriptors.specs.declared.Descriptor.{Descriptor}
use Rattle.descriptors.specs.declared.Descriptor.TheVariants.{Nothing, Table, Leaf}
use Rattle.walks.specs.Walk.{led}

-- the same address and the same attributes, or both nowhere
unfoldable pub same_lead : Option Lead → Option Lead → Bool
same_lead (Some l) (Some d) = eqb l.phys d.phys && eqb l.attr d.attr
same_lead (Some l) None = false
same_lead None (Some d) = false
same_lead None None = true

abbrev pub nowhere : ℕ → Option Lead
nowhere at = None

-- where an entry that is no table leads
unfoldable pub answer : ℕ → ℕ → ℕ → Option Lead
answer k e x = led nowhere (meaning k x e)

unfoldable pub otherwise : List Mapping → ℕ → ℕ → ℕ → Bool
otherwise l k e x = not (same_lead (answer k e x) (lead_of l x))

-- ---- what it means
same_lead_lem : (a b : Option Lead) → same_lead a b ≡ true → a ≡ b
unfolding same_lead
same_lead_lem (Some l) (Some d) h =
    let e = eqb-true l.phys d.phys (left_true (eqb l.phys d.phys) (eqb l.attr d.attr) h) in
    let f = eqb-true l.attr d.attr (right_true (eqb l.phys d.phys) (eqb l.attr d.attr) h) in
    rw (e, f)
same_lead_lem (Some l) None h = let z : false ≡ true = h in absurd (yes_or_no false z refl)
same_lead_lem None (Some d) h = let z : false ≡ true = h in absurd (yes_or_no false z refl)
same_lead_lem None None h = refl

lead_self : (a : Option Lead) → same_lead a a ≡ true
unfolding same_lead
lead_self (Some l) = both_true (eqb l.phys l.phys) (eqb l.attr l.attr) (eq-eqb l.phys l.phys refl) (eq-eqb l.attr l.attr refl)
lead_self None = refl

module _ (l : List Mapping) (k e x : ℕ) where
  pub alike_here : otherwise l k e x ≡ false → answer k e x ≡ lead_of l x
  unfolding otherwise
  alike_here h = same_lead_lem _ _ (either (same_lead (answer k e x) (lead_of l x)) (λ y. y) (λ n. absurd (yes_or_no _ (not_true _ n) h)))

  pub here_alike : answer k e x ≡ lead_of l x → otherwise l k e x ≡ false
  unfolding otherwise
  here_alike h = rw (h, lead_self (lead_of l x))

-- ---- how the code meets it
module _ (k e x : ℕ) (d : Descriptor) (f : d ≡ meaning k x e) where
  pub answer_nothing : d ≡ Nothing → None ≡ answer k e x
  unfolding answer led
  answer_nothing h = rw (← f, h)

  pub answer_table : (t : ℕ) → d ≡ Table t → None ≡ answer k e x
  unfolding answer led
  answer_table t h = rw (← f, h)

  pub answer_leaf : (p a : ℕ) → d ≡ Leaf p a → To p a ≡ answer k e x
  unfolding answer led
  answer_leaf p a h = rw (← f, h)

pub otherwise_by : (l : List Mapping) (k e x : ℕ) (a b : Option Lead) (r : Bool) → a ≡ answer k e x → b ≡ lead_of l x → r ≡ same_lead a b → not r ≡ otherwise l k e x
unfolding otherwise
otherwise_by l k e x a b r f g h = rw (h, f, g)

pub ruleset answers = (answer_nothing, answer_table, answer_leaf, otherwise_by)
