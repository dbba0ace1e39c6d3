-- Each return of `hand_to_realm` stands where a test of `handing_to_realm` led to it, in the same order.
use Rattle.judgements.specs.Judge.{handing_to_realm}
use Rattle.rules.specs.Tests.{contraries}
use Rattle.standard.proofs.hand_to_realm.Goals as goal

pub returns-then-key-lt-REALM_FIRST : goal.returns-then-key-lt-REALM_FIRST
unfolding handing_to_realm
returns-then-key-lt-REALM_FIRST c = search contraries depth 20

pub returns-then-key-gt-REALM_LAST : goal.returns-then-key-gt-REALM_LAST
unfolding handing_to_realm
returns-then-key-gt-REALM_LAST c = search contraries depth 20

pub returns : goal.returns
unfolding handing_to_realm
returns c = search contraries depth 20
