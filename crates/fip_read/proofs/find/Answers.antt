-- `find` meets its promise, since what is located lies inside the package.
use Rattle.fip_read.specs.Reading.{ok_part, ok_address, refused_part, refused_address}
use Rattle.fip_read.specs.Accepted.{found_inside}
use borrow.Author.Rules.{rules}
use mathlib.Core.Path.{refl}
use Rattle.fip_read.proofs.find.Goals as goal

pub overflow_add-result : goal.overflow_add-result
overflow_add-result c = let h = found_inside _ _ _ _ c.in-Ok.ensures refl in
    search rules

pub slice_bounds-result-end : goal.slice_bounds-result-end
slice_bounds-result-end c = let h = found_inside _ _ _ _ c.in-Ok.ensures refl in
    search rules

pub returns-in-Ok : goal.returns-in-Ok
returns-in-Ok c = (search ok_part, search ok_address)

pub returns-in-Err : goal.returns-in-Err
returns-in-Err c = (search refused_part, search refused_address)
