-- Where an address leads: to a physical address, with attributes, or nowhere, which is None.
use Rattle.std.specs.Prelude.{◌≡◌, None, Option, Some, ℕ}
use Rattle.std.proofs.Common.{ap}
use Rattle.mapping.specs.declared.Lead.{Lead}

abbrev pub To : ℕ → ℕ → Option Lead
To phys attr = Some (record { phys = phys; attr = attr })

-- two that are one lead to one address with one set of attributes
abbrev phys_of : Option Lead → ℕ
phys_of (Some l) = l.phys
phys_of None = 0

abbrev attr_of : Option Lead → ℕ
attr_of (Some l) = l.attr
attr_of None = 0

module _ {p a q c : ℕ} (e : To p a ≡ To q c) where
  pub to_phys : p ≡ q
  to_phys = ap phys_of e

  pub to_attr : a ≡ c
  to_attr = ap attr_of e
