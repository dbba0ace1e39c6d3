use borrow.Author.Rules.{rules}
use mathlib.Core.Path.{refl, ◌∙◌}
use Rattle.lines.specs.Input.{reads_on}
use Rattle.inputs.specs.Fed.{ends_inside}
use Rattle.inputs.proofs.Fed.{stops, goes_on}
use Rattle.stream.proofs.feed.Goals as goal

pub loop-out-init : goal.loop-out-init
loop-out-init c = (refl, search rules, refl)

pub loop-out-smaller : goal.loop-out-smaller
loop-out-smaller c = reads_on _ _ _ _ _ c.next_line.ensures c.in-Some.field-0.frame c.in-Some.field-0.after c.in-Some.is

pub loop-out-preserved : goal.loop-out-preserved
loop-out-preserved c = let line = c.next_line.ensures in
    let inv = c.loop-out.invariant in
    let told = c.answer-put.ensures in
    let ends = ends_inside _ _ _ _ _ _ _ _ told inv.1 in (
      goes_on _ _ _ _ _ _ inv.0 _ _ _ line _ _ (search rules) (search rules) _ _ _ told,
      ends.0,
      ends.1 ∙ inv.2,
    )

pub returns-in_default : goal.returns-in_default
returns-in_default c = search (rules, stops)

pub returns-after-loop-out : goal.returns-after-loop-out
returns-after-loop-out c = search (rules, stops)
