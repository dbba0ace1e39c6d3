-- What each deed does: the tables that calls change, before and after.
use Rattle.std.specs.Prelude.{List, ℕ, eqb, take, drop}
use Rattle.rules.specs.Choice.{pick}
use Rattle.rules.specs.Lent.{Lent}
use Rattle.registers.specs.Registers.{saving}
use Rattle.cores.specs.Power.{started, gone_off, handed, finished}
use Rattle.cores.specs.Cores.{power, with_power, turn, with_turn}
use Rattle.pages.specs.Owners.{given}
use Rattle.mapping.specs.Lists.{holding, released}
use Rattle.rules.specs.Sizes.{normal, realm}
use Rattle.judgements.specs.declared.Deed.{Deed}
use Rattle.judgements.specs.declared.Deed.TheVariants.{Nothing, Move, Map, Unmap, Start, GoOff, HandOver, Finish}

-- page owners, saved numbers, the cores' power, what they run, mappings
pub record Tables : Type 0 where
  pub owners : List ℕ
  pub saved : List ℕ
  pub powers : List ℕ
  pub turns : List ℕ
  pub lists : List ℕ

abbrev pub tables : List ℕ → List ℕ → List ℕ → List ℕ → List ℕ → Tables
tables o r p t m = record { owners = o; saved = r; powers = p; turns = t; lists = m }

-- what is said of lent tables, before and after
abbrev pub on_tables : Lent → Lent → Lent → Lent → Lent → (Tables → Tables → Type 0) → Type 0
on_tables o r p t m P =
    P (tables o.entry.now r.entry.now p.entry.now t.entry.now m.entry.now)
    (tables o.exit.now r.exit.now p.exit.now t.exit.now m.exit.now)

-- ---- the tables with one of them anew
abbrev pub with_owners : Tables → List ℕ → Tables
with_owners s o = tables o s.saved s.powers s.turns s.lists

abbrev pub with_saved : Tables → List ℕ → Tables
with_saved s r = tables s.owners r s.powers s.turns s.lists

abbrev pub with_powers : Tables → List ℕ → Tables
with_powers s p = tables s.owners s.saved p s.turns s.lists

abbrev pub with_turns : Tables → List ℕ → Tables
with_turns s t = tables s.owners s.saved s.powers t s.lists

abbrev pub with_lists : Tables → List ℕ → Tables
with_lists s m = tables s.owners s.saved s.powers s.turns m

-- ---- what a deed makes of one core's record, in its table
abbrev pub started_in : List ℕ → ℕ → ℕ → ℕ → List ℕ
started_in p core address context = with_power p core (started (power p core) address context)

abbrev pub gone_off_in : List ℕ → ℕ → List ℕ
gone_off_in p core = with_power p core (gone_off (power p core))

abbrev pub handed_in : List ℕ → ℕ → ℕ → List ℕ
handed_in t core to = with_turn t core (handed (turn t core) to)

abbrev pub finished_in : List ℕ → ℕ → List ℕ
finished_in t core = with_turn t core (finished (turn t core))

-- how many numbers a finish by this world returns to Normal: Realm five, Secure four
unfoldable pub returned : ℕ → ℕ
returned world = pick (eqb world realm) 5 4

-- what a finish gives Normal: the finisher's numbers from x1 on, as many as it returns
abbrev pub finish_numbers : ℕ → List ℕ → List ℕ
finish_numbers world xs = take (returned world) (drop 1 xs)

-- a deed carried out for a caller on a core; a table that its clause does not name stays
abbrev pub carried_out : Deed → ℕ → ℕ → List ℕ → Tables → Tables
carried_out Nothing core caller xs s = s
-- the pages of the run are the taker's
carried_out (Move first count to) core caller xs s = with_owners s (given s.owners first count to)
-- the caller's list holds the mapping
carried_out (Map m) core caller xs s = with_lists s (holding s.lists caller m)
-- the caller's list has a free slot again
carried_out (Unmap virt size) core caller xs s = with_lists s (released s.lists caller virt size)
-- the target is pending, with the address and the context
carried_out (Start target address context) core caller xs s = with_powers s (started_in s.powers target address context)
-- the calling core is OFF
carried_out GoOff core caller xs s = with_powers s (gone_off_in s.powers core)
-- the receiver's x0 to x7 are the caller's, and it runs
carried_out (HandOver to) core caller xs s = with_turns (with_saved s (saving s.saved core to xs)) (handed_in s.turns core to)
-- Normal's numbers from x0 on are the finisher's from x1 on, as many as it returns, and Normal runs
carried_out Finish core caller xs s = with_turns (with_saved s (saving s.saved core normal (finish_numbers caller xs))) (finished_in s.turns core)
