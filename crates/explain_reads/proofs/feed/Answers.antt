use mathlib.Core.Path.{refl, ◌∙◌}
use Rattle.lines.specs.Input.{reads_on}
use Rattle.explain_reads.specs.Reading.{stops, goes_on, space_same}
use borrow.Author.Rules.{rules}
use Rattle.explain_reads.proofs.feed.Goals as goal

pub loop-frame-init : goal.loop-frame-init
loop-frame-init c = (refl, refl)

pub loop-frame-smaller : goal.loop-frame-smaller
loop-frame-smaller c = reads_on _ _ _ _ _ c.next_line.ensures c.in-Some.field-0.frame c.in-Some.field-0.after c.in-Some.is

pub loop-frame-preserved : goal.loop-frame-preserved
loop-frame-preserved c = let inv = c.loop-frame.invariant in
    let line = c.next_line.ensures in
    let told = c.take_line-put.ensures in
    (goes_on _ _ _ _ _ inv.0 _ _ _ line _ _ (search rules) _ told, space_same _ _ _ _ _ _ _ _ told ∙ inv.1)

pub returns : goal.returns
returns c = search (rules, stops)
