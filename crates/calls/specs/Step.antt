-- One step of the whole state: a call is judged, answered and carried out, or a pending core arrives.
use Rattle.std.specs.Prelude.{Bool, true, false, List, [], ◌∷◌, ℕ}
use Rattle.rules.specs.Choice.{pick}
use Rattle.rules.specs.Lent.{Lent, LentToRead}
use Rattle.registers.specs.Registers.{saving}
use Rattle.cores.specs.Power.{arrived, is_pending, entered}
use Rattle.cores.specs.Cores.{power, with_power, turn, with_turn}
use Rattle.cores.specs.declared.Power.{Power}
use Rattle.mapping.specs.Lists.{held}
use Rattle.rules.specs.Sizes.{normal}
use Rattle.judgements.specs.Judge.{handler_sight, Sight, sighted, judged}
use Rattle.judgements.specs.declared.Answer.{Answer}
use Rattle.judgements.specs.declared.Deed.{Deed}
use Rattle.judgements.specs.declared.Judged.{Judged}
use Rattle.judgements.specs.declared.Caller.{Caller}
use Rattle.answers.specs.Answers.{answered_in}
use Rattle.deeds.specs.Deeds.{Tables, tables, with_saved, carried_out}
use Rattle.calls.specs.declared.Site.{Site}
use Rattle.calls.specs.declared.Made.{Made}

-- everything there is: what set-up fixed (window, core count, ledger), page owners, saved numbers, the cores' power, what they run, mappings
pub record State : Type 0 where
  pub site : Site
  pub ledger : List ℕ
  pub owners : List ℕ
  pub saved : List ℕ
  pub powers : List ℕ
  pub turns : List ℕ
  pub lists : List ℕ

abbrev pub state : Site → List ℕ → List ℕ → List ℕ → List ℕ → List ℕ → List ℕ → State
state w l o r p t m = record { site = w; ledger = l; owners = o; saved = r; powers = p; turns = t; lists = m }

-- what is said of a site, a ledger that is read and lent tables, before and after
abbrev pub on_state : Site → LentToRead → Lent → Lent → Lent → Lent → Lent → (State → State → Type 0) → Type 0
on_state w l o r p t m P =
    P (state w l.entry.now o.entry.now r.entry.now p.entry.now t.entry.now m.entry.now)
    (state w l.entry.now o.exit.now r.exit.now p.exit.now t.exit.now m.exit.now)

-- ---- what a judgement sees
abbrev pub caller_on : Site → List ℕ → ℕ → Caller
caller_on w turns core = record { world = (turn turns core).world; cores = w.cores; window = w.window }

abbrev pub sight : State → ℕ → Sight
sight s core =
    sighted s.ledger
    (handler_sight (caller_on s.site s.turns core) s.powers s.owners (held s.lists (turn s.turns core).world) (held s.lists normal))

abbrev pub caller_of : State → ℕ → ℕ
caller_of s core = (turn s.turns core).world

abbrev pub judged_in : State → ℕ → List ℕ → Judged
judged_in s core xs = judged (sight s core) xs

-- ---- a call
abbrev pub tables_of : State → Tables
tables_of s = tables s.owners s.saved s.powers s.turns s.lists

-- the state with these tables: what set-up fixed stays
abbrev pub with_tables : State → Tables → State
with_tables s t = state s.site s.ledger t.owners t.saved t.powers t.turns t.lists

-- the state once a deed is carried out
abbrev pub carried_in : Deed → State → ℕ → ℕ → List ℕ → State
carried_in d s core caller xs = with_tables s (carried_out d core caller xs (tables_of s))

-- the state once a call is answered
abbrev pub with_answer : Answer → State → ℕ → ℕ → List ℕ → State
with_answer a s core caller xs = with_tables s (with_saved (tables_of s) (answered_in s.saved core caller xs a))

-- a call is answered first, and then its deed carried out
unfoldable pub applied : State → ℕ → ℕ → List ℕ → Judged → State
applied s core caller xs j = carried_in j.deed (with_answer j.answer s core caller xs) core caller xs

unfoldable pub called : State → ℕ → List ℕ → State × Made
called s core xs = (
  applied s core (caller_of s core) xs (judged_in s core xs),
  record { caller = caller_of s core; answer = (judged_in s core xs).answer },
)

-- ---- an arrival
-- the tables that an arrival touches
pub record CoreTables : Type 0 where
  pub saved : List ℕ
  pub powers : List ℕ
  pub turns : List ℕ

abbrev pub core_tables : List ℕ → List ℕ → List ℕ → CoreTables
core_tables r p t = record { saved = r; powers = p; turns = t }

-- what a starting core finds in its numbers: the context, seven zeros, the start address
abbrev pub start_numbers : Power → List ℕ
start_numbers p = p.context ∷ 0 ∷ 0 ∷ 0 ∷ 0 ∷ 0 ∷ 0 ∷ 0 ∷ p.start ∷ []

-- a pending core is ON in Normal with those numbers; any other stays as it is
unfoldable pub arrived_in : CoreTables → ℕ → CoreTables × Bool
arrived_in s core =
    pick (is_pending (power s.powers core)) (
      core_tables (saving s.saved core normal (start_numbers (power s.powers core)))
          (with_power s.powers core (arrived (power s.powers core)))
          (with_turn s.turns core (entered (turn s.turns core))),
      true,
    )
    (s, false)

abbrev pub arrives : State → ℕ → State × Bool
arrives s core =
    let a = arrived_in (core_tables s.saved s.powers s.turns) core in
    (state s.site s.ledger s.owners a.0.saved a.0.powers a.0.turns s.lists, a.1)
