use Rattle.std.proofs.Common.{sym, ◌∙◌, rules}
use Rattle.fip_text.specs.Rows.{named_here, named_next, named_none}
use Rattle.fip_text.proofs.names.named.Goals as goal

pub returns-then-is_alike : goal.returns-then-is_alike
returns-then-is_alike c = named_here _ _ _ _ c.loop-text.invariant _ (search rules) (sym c.is_alike.ensures ∙ c.if-is_alike.true)

pub loop-text-preserved : goal.loop-text-preserved
loop-text-preserved c = named_next _ _ _ _ c.loop-text.invariant _ (search rules) (sym c.is_alike.ensures ∙ c.if-is_alike.false)

pub returns : goal.returns
returns c = named_none _ _ _ _ c.loop-text.invariant (search rules)
