-- Each arm of `board_call` is reached by the key that `board` picks it for.
use Rattle.judgements.specs.Judge.{board}
use Rattle.rules.specs.Tests.{contraries}
use Rattle.board.proofs.board_call.Goals as goal

pub returns-in-3254779922 : goal.returns-in-3254779922
unfolding board
returns-in-3254779922 c = let h = rw c.read_args.ensures at c.own_page.ensures in search (contraries, h) fits 20000 depth 40

pub returns-in-3254779936 : goal.returns-in-3254779936
unfolding board
returns-in-3254779936 c = let h = rw c.read_args-in-3254779936.ensures at c.map_pages.ensures in search (contraries, h) fits 20000 depth 40

pub returns-in-3254779937 : goal.returns-in-3254779937
unfolding board
returns-in-3254779937 c = let h = rw c.read_args-in-3254779937.ensures at c.unmap_pages.ensures in search (contraries, h) fits 20000 depth 40

pub returns-in-3254779938 : goal.returns-in-3254779938
unfolding board
returns-in-3254779938 c = let h = rw c.read_args-in-3254779938.ensures at c.where_leads.ensures in search (contraries, h) fits 20000 depth 40

pub returns-in-3254779952 : goal.returns-in-3254779952
unfolding board
returns-in-3254779952 c = search contraries fits 20000 depth 40

pub returns-in_default : goal.returns-in_default
unfolding board
returns-in_default c = search contraries fits 20000 depth 40
