-- `judge` meets its promise, since it asks the tests of `faults` in their order and answers with the first that holds.
use mathlib.Core.Path.{refl}
use Rattle.rules.specs.Choice.{first_or, second_or, neither}
use Rattle.rules.specs.Tests.{judgements, stops, goes, ends, said}
use Rattle.fip_read.specs.Reading.{faults, judging, length_least}
use Rattle.fip_read.proofs.judge.Goals.{then-has_stray-via-then-has_stray, then-has_stray-via-else-has_stray+then-is_crowded}
use Rattle.fip_read.proofs.judge.Goals as goal

pub returns-then-is_wrong_length : goal.returns-then-is_wrong_length
unfolding faults
returns-then-is_wrong_length c = judging _ _ _ refl refl _ (search judgements)

pub returns-then-is_wrong_header : goal.returns-then-is_wrong_header
unfolding faults
returns-then-is_wrong_header c = judging _ _ _ refl refl _ (search judgements)

pub behind-t-requires : goal.behind-t-requires
behind-t-requires c = length_least _ (search said)

pub returns-then-is_unended : goal.returns-then-is_unended
unfolding faults
returns-then-is_unended c = judging _ _ _ c.behind-t.ensures refl _ (search judgements)

pub returns-then-has_twins : goal.returns-then-has_twins
unfolding faults
returns-then-has_twins c = judging _ _ _ c.behind-t.ensures c.count_of-n.ensures _ (search judgements)

pub returns-then-has_stray : goal.returns-then-has_stray
unfolding faults
returns-then-has_stray c = judging _ _ _ c.behind-t.ensures c.count_of-n.ensures _
    (elim c.then-has_stray.branch [
      | then-has_stray-via-then-has_stray w ↦ search (stops, goes, said, first_or) depth 8
      | then-has_stray-via-else-has_stray+then-is_crowded w ↦ search (stops, goes, said, second_or) depth 8
    ])

pub returns : goal.returns
unfolding faults
returns c = judging _ _ _ c.behind-t.ensures c.count_of-n.ensures _
    (search (stops, goes, ends, said, neither) depth 8)
