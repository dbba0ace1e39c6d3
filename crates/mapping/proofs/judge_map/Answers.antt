-- `judge_map` meets its promise, since its branches are the tests of `map_tests` in their order, and the places found free or clashing are what the list says.
-- what each branch asks: the test that it took, and those before it that did not hold
use Rattle.mapping.specs.Mapping.{map_verdict}
use Rattle.mapping.specs.Lists.{verdict_laws}
use Rattle.std.proofs.Common.{eq-eqb, ne_eqb}
use Rattle.rules.specs.Choice.{picked, passed, not_true, not_false}
use Rattle.rules.specs.Tests.{stops, goes, ends, said}
use Rattle.mapping.proofs.judge_map.Goals as goal

ruleset verdicts = (picked, passed, stops, goes, ends, said, not_true, not_false, eq-eqb, ne_eqb, verdict_laws)

pub returns-then-m-eq0 : goal.returns-then-m-eq0
unfolding map_verdict
returns-then-m-eq0 c = search verdicts depth 12

pub returns-then-is_malformed : goal.returns-then-is_malformed
unfolding map_verdict
returns-then-is_malformed c = search verdicts depth 12

pub returns-then-is_beyond : goal.returns-then-is_beyond
unfolding map_verdict
returns-then-is_beyond c = search verdicts depth 12

pub returns-then-find_free-ge-MOST_MAPPINGS : goal.returns-then-find_free-ge-MOST_MAPPINGS
unfolding map_verdict
returns-then-find_free-ge-MOST_MAPPINGS c = search verdicts depth 12

pub returns-then-any_clash : goal.returns-then-any_clash
unfolding map_verdict
returns-then-any_clash c = search verdicts depth 12

pub returns-then-is_owned : goal.returns-then-is_owned
unfolding map_verdict
returns-then-is_owned c = search verdicts depth 12 fits 4000

pub returns : goal.returns
unfolding map_verdict
returns c = search verdicts depth 12
