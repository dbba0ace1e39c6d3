use borrow.Author.Rules.{rules}
use mathlib.Core.Path.{refl}
use Rattle.lines.specs.Input.{reads_on}
use Rattle.console.proofs.Skimming.{stops, goes_on}
use Rattle.console.proofs.quiet.skim.Goals as goal

pub loop-frame-init : goal.loop-frame-init
loop-frame-init c = refl

pub loop-frame-smaller : goal.loop-frame-smaller
loop-frame-smaller c = reads_on _ _ _ _ _ c.next_line.ensures c.in-Some.field-0.frame c.in-Some.field-0.after c.in-Some.is

pub loop-frame-preserved : goal.loop-frame-preserved
loop-frame-preserved c = search (rules, goes_on)

pub returns : goal.returns
returns c = search (rules, stops)
