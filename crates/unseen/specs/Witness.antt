-- There are such runs: a board is set up, and Normal hands core 0 over to Realm; in the other run Realm then asks to map a page; Realm finishes in both. A pair in which the mapping is granted is run by the programs `unseen_without_run` and `unseen_with_run`.
use Rattle.std.specs.Prelude.{◌≡◌, refl, List, [], ◌∷◌, Ok, Some}
use Rattle.std.proofs.Common.{sym, ap, subst, ◌∙◌, ⊎_elim, arith}
use Rattle.rules.specs.Choice.{pick}
use Rattle.rules.specs.Tests.{sieve}
use Rattle.identifiers.specs.Identifier.{identifier_of, parts, key_of, admitted}
use Rattle.ledger.specs.Ledger.{empty, empty_proper, empty_handler, handler, entered, recorded}
use Rattle.ledger.proofs.Ledger.{accepted_where, covered}
use Rattle.registers.specs.Registers.{zeros}
use Rattle.cores.specs.Power.{is_on}
use Rattle.cores.specs.Cores.{first_powers, first_turns, first_power_zero}
use Rattle.pages.specs.Window.{acceptable}
use Rattle.pages.specs.Owners.{unowned, given}
use Rattle.pages.specs.Named.{unnamed}
use Rattle.mapping.specs.Lists.{unmapped}
use Rattle.judgements.specs.Asked.{to_realm}
use Rattle.parsing.specs.declared.Frame.{Frame}
use Rattle.parsing.specs.declared.Frame.TheVariants as Frame
use Rattle.setup.specs.Table.{unset, fixed, unset_ready, unset_ended, fixed_ready, fixed_ended, fixed_cores}
use Rattle.setup.specs.Statuses.{ruled}
use Rattle.setup.specs.Frames.{fits, sited, untimely, entering}
use Rattle.frames.specs.Frames.{Machine, machine, first, framed}
use Rattle.guarantees.specs.Runs.{Event, Events, next, reply, Taken, ran}
use Rattle.guarantees.specs.Fit.{ran_fit}
use Rattle.guarantees.proofs.Steps.{heeded}
use Rattle.guarantees.specs.Statements.{running}
use Rattle.guarantees.specs.Theorems.{normal_first}
use Rattle.unseen.specs.Statements.{Evenly, Woven}
use Rattle.unseen.specs.Statements.Woven.{common, other}
use Rattle.unseen.specs.Steps.{call_taken}

-- 4 pages at 80000000 and one core; fast calls of owner 4 go to handler 2
abbrev pub set_up : Events
set_up = (Frame.Site 0x80000000 4 1, []) ∷ (Frame.Entry 4 4 1 2, []) ∷ []

abbrev pub hand_over : Event
hand_over = (Frame.Call 0, 0xC4000150 ∷ 0 ∷ 0 ∷ 0 ∷ 0 ∷ 0 ∷ 0 ∷ 0 ∷ [])

abbrev pub map_one : Event
map_one = (Frame.Call 0, 0xC2000020 ∷ 0x80000000 ∷ 0 ∷ 4096 ∷ 0 ∷ 0 ∷ 0 ∷ 0 ∷ [])

abbrev pub finish : Event
finish = (Frame.Call 0, 0xC400018F ∷ 1 ∷ 2 ∷ 3 ∷ 4 ∷ 5 ∷ 0 ∷ 0 ∷ [])

abbrev pub both : List Woven
both = common hand_over ∷ other map_one ∷ common finish ∷ []

-- ---- the board is set up
abbrev pub start : Machine
start = ran first set_up

entry_accepted : entered empty 4 4 1 2 ≡ ((Ok tt), recorded empty 4 4 1 2)
entry_accepted = accepted_where empty 4 4 1 2 (record { order = omega arith; owners = omega arith; kinds = omega arith; handlers = omega arith }) (λ o h l. empty_handler 1 o)

start_is : start ≡ machine (fixed unset 0x80000000 4 1) unnamed (recorded empty 4 4 1 2) (given unowned 0 4 0) zeros first_powers first_turns unmapped
unfolding ran framed sited entering untimely ruled fits acceptable sieve pick
start_is = rw (unset_ready, fixed_ready, fixed_ended, unset_ended, entry_accepted)

reaches : handler start.ledger 1 4 ≡ Some 2
reaches =
    ap (λ (m : Machine). handler m.ledger 1 4) start_is
    ∙ rw entry_accepted at (covered empty 4 4 1 2 empty_proper (rw entry_accepted) 4 (omega arith) (omega arith))

-- ---- the hand-over is accepted, and Realm runs
accepted : Taken (reply start hand_over)
unfolding is_on
accepted =
    subst (λ (m : Machine). Taken (reply m hand_over)) (sym start_is)
    (call_taken _ 0 hand_over.1 (rw fixed_ready) (rw fixed_cores) (rw first_power_zero))

pub realm_runs : running (next start hand_over) 0 ≡ 3
unfolding identifier_of parts key_of admitted pick
realm_runs =
    ((heeded start (ran_fit set_up) hand_over).call 0 refl refl accepted).handed_runs 3
    (ap (λ (m : Machine). running m 0) start_is ∙ normal_first 0 (omega arith), record { passes = refl; number = 2; reached = reaches; so = to_realm 0xC4000150 (omega arith) (omega arith) })

-- ---- the lines are fair
pub even_hand_over : (m n : Machine) → Evenly m n hand_over
unfolding identifier_of key_of pick
even_hand_over m n core is t r = ⊎_elim (λ e. absurd (omega arith)) (λ e. absurd (omega arith))

pub even_finish : (m n : Machine) → Evenly m n finish
unfolding identifier_of key_of pick
even_finish m n core is t r = ⊎_elim (λ e. absurd (omega arith)) (λ e. absurd (omega arith))
