-- The numbers from x1 on, as many as the world returns, lie inside the eight, and are what the finish gives.
use borrow.Author.Rules.{rules}
use Rattle.deeds.specs.Laws.{returned_few, gives_back}
use Rattle.deeds.proofs.give_back.Goals as goal

pub overflow_add-end : goal.overflow_add-end
overflow_add-end c = let h = returned_few _ _ c.returned-end.ensures in search rules

pub slice_bounds-save-end : goal.slice_bounds-save-end
slice_bounds-save-end c = let h = returned_few _ _ c.returned-end.ensures in search rules

pub returns : goal.returns
returns c = search gives_back
