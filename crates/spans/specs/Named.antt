-- A run of pages that is named: so many from the first one on, or None.
use Rattle.std.specs.Prelude.{◌≡◌, None, Option, Some, ℕ}
use Rattle.std.proofs.Common.{ap}
use Rattle.spans.specs.declared.Span.{Span}

abbrev pub Pages : ℕ → ℕ → Option Span
Pages first count = Some (record { first = first; count = count })

-- two that are one have one first page, and are as many
abbrev first_of : Option Span → ℕ
first_of (Some s) = s.first
first_of None = 0

abbrev count_of : Option Span → ℕ
count_of (Some s) = s.count
count_of None = 0

module _ {first count other many : ℕ} (e : Pages first count ≡ Pages other many) where
  pub pages_first : first ≡ other
  pages_first = ap first_of e

  pub pages_count : count ≡ many
  pages_count = ap count_of e
