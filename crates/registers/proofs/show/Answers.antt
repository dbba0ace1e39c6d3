-- The part from `start_of` on holds the nine numbers of this core and world, and fits the table; where there is none all four are 0.
use Rattle.std.proofs.Math.Path.{refl}
use Rattle.registers.specs.Registers.{start_fits, reading}
use borrow.Author.Rules.{rules}
use Rattle.registers.proofs.show.Goals as goal

pub returns-in_default : goal.returns-in_default
returns-in_default c = search reading

pub overflow_add-e : goal.overflow_add-e
overflow_add-e c = let h = start_fits _ _ _ _ c.in-Some.ensures refl in search rules

pub offset_bounds-s-a : goal.offset_bounds-s-a
offset_bounds-s-a c = let h = start_fits _ _ _ _ c.in-Some.ensures refl in search rules

pub slice_bounds-shown_in-end : goal.slice_bounds-shown_in-end
slice_bounds-shown_in-end c = let h = start_fits _ _ _ _ c.in-Some.ensures refl in search rules

pub returns : goal.returns
returns c = search reading
