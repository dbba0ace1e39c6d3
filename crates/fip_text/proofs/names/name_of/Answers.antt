-- `names::name_of` meets its promise, since the table is that of the definition.
use Rattle.std.proofs.Common.{List, ℕ, Bor}
use Rattle.fip_text.specs.Rows.{name_or_none}
use Rattle.fip_text.proofs.names.name_of.Goals as goal

pub returns : goal.returns
returns c = name_or_none (λ (name : Bor (List ℕ)). name.now) _ _ c.named.ensures
