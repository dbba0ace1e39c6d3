use borrow.Author.Rules.{rules}
use mathlib.Core.Path.{refl}
use Rattle.lines.specs.Input.{inside_some, inside_low, inside_high, reads_on}
use Rattle.reporting.specs.Reading.{stops, goes_on}
use Rattle.reporting.proofs.feed.Goals as goal

pub loop-frame-init : goal.loop-frame-init
loop-frame-init c = refl

pub overflow_sub-end : goal.overflow_sub-end
overflow_sub-end c = inside_some _ _ _ _ _ c.next_line.ensures c.in-Some.field-0.frame c.in-Some.field-0.after c.in-Some.is

pub slice_bounds-is_apart-count : goal.slice_bounds-is_apart-count
slice_bounds-is_apart-count c = inside_low _ _ _ _ _ c.next_line.ensures c.in-Some.field-0.frame c.in-Some.field-0.after c.in-Some.is

pub slice_bounds-is_apart-start : goal.slice_bounds-is_apart-start
slice_bounds-is_apart-start c = let low = inside_low _ _ _ _ _ c.next_line.ensures c.in-Some.field-0.frame c.in-Some.field-0.after c.in-Some.is in let high = inside_high _ _ _ _ _ c.next_line.ensures c.in-Some.field-0.frame c.in-Some.field-0.after c.in-Some.is in search rules

pub slice_bounds-is_apart-end : goal.slice_bounds-is_apart-end
slice_bounds-is_apart-end c = let low = inside_low _ _ _ _ _ c.next_line.ensures c.in-Some.field-0.frame c.in-Some.field-0.after c.in-Some.is in let high = inside_high _ _ _ _ _ c.next_line.ensures c.in-Some.field-0.frame c.in-Some.field-0.after c.in-Some.is in search rules

pub loop-frame-smaller : goal.loop-frame-smaller
loop-frame-smaller c = reads_on _ _ _ _ _ c.next_line.ensures c.in-Some.field-0.frame c.in-Some.field-0.after c.in-Some.is

pub loop-frame-preserved : goal.loop-frame-preserved
loop-frame-preserved c = search (rules, goes_on)

pub returns : goal.returns
returns c = search (rules, stops)
