-- What the monitor guarantees, in plain statements: of the machine after any run, and of each line by itself.
use Rattle.std.specs.Prelude.{◌≡◌, true, false, List, [], ◌∷◌, ◌++◌, ◌⊎◌, ℕ, zero, suc, ◌+◌, ◌-◌, ◌*◌, ◌/◌, ◌%◌, ◌^◌, ◌≤◌, ◌<◌, eqb, length, get_or, drop, None, Some}
use Rattle.mapping.specs.Leads.{To}
use Rattle.rules.specs.Choice.{pick}
use Rattle.rules.specs.declared.Reason.{Reason}
use Rattle.ledger.specs.Ledger.{handler}
use Rattle.identifiers.specs.Identifier.{bits, admitted, argument}
use Rattle.registers.specs.Registers.{saved, saving}
use Rattle.registers.specs.declared.Shown.{Shown}
use Rattle.cores.specs.Power.{power_of, put, off, pending, on, is_on, is_pending}
use Rattle.cores.specs.Cores.{power, turn}
use Rattle.pages.specs.Window.{run_of, InPage}
use Rattle.pages.specs.Owners.{owner, count_owned}
use Rattle.pages.specs.declared.Window.{Window}
use Rattle.mapping.specs.Lists.{held}
use Rattle.mapping.specs.Mapping.{lead_of}
use Rattle.mapping.specs.Entries.{Every, Among, Beside, Inserted, Removed}
use Rattle.mapping.specs.Sound.{covers, Formed}
use Rattle.mapping.specs.Granted.{Mappable}
use Rattle.mapping.specs.Once.{Reaches, LedBy, count_covered}
use Rattle.ranges.specs.declared.Mapping.{Mapping}
use Rattle.rules.specs.Sizes.{normal}
use Rattle.judgements.specs.Judge.{called_by, args_of, found}
use Rattle.judgements.specs.Grounds.{Calls, Takes}
use Rattle.judgements.specs.Granted.{MayMove}
use Rattle.judgements.specs.Hint.{Known}
use Rattle.judgements.specs.Refused.{Unknown, Barred}
use Rattle.judgements.specs.declared.Answer.TheVariants.{No}
use Rattle.rules.specs.Reasons.{minus}
use Rattle.answers.specs.Answers.{negative}
use Rattle.calls.specs.Step.{sight, judged_in}
use Rattle.calls.specs.Effects.{answer_in, results_in}
use Rattle.parsing.specs.declared.Status.{Status}
use Rattle.parsing.specs.declared.Status.TheVariants.{Accepted}
use Rattle.parsing.specs.declared.Frame.{Frame}
use Rattle.parsing.specs.declared.Frame.TheVariants as Frame
use Rattle.text.specs.Text.{status_text, call_text}
use Rattle.setup.specs.Table.{ready, ended, cores, over}
use Rattle.setup.specs.Table as Table
use Rattle.calling.specs.Calling.{site_of}
use Rattle.frames.specs.Frames.{Machine, machine, first, state_of}
use Rattle.showing.specs.declared.Reply.{Reply}
use Rattle.showing.specs.declared.Reply.TheVariants.{Told, Called}
use Rattle.answering.specs.Answer.{text_of}
use Rattle.guarantees.specs.Runs.{Event, Events, Taken}
use Rattle.judgements.specs.Asked.{key, HandsTo, Finishes, Reached}
use Rattle.guarantees.specs.Named.{AsksTransfer, AsksStart, Named}

abbrev pub window : Machine → Window
window m = Table.window m.setup

-- the owner of a page, and the mappings of a world
abbrev pub owner_in : Machine → ℕ → ℕ
owner_in m page = owner m.owners page

-- the mark of a page in the table of owners: sixteen marks of four bits in a number, that of the lowest page in the lowest bits
abbrev pub mark_in : Machine → ℕ → ℕ
mark_in m page = get_or m.owners (page / 16) 0 / 16 ^ (page % 16) % 16

abbrev pub mapped : Machine → ℕ → List Mapping
mapped m world = held m.lists world

-- ---- after a run from a machine m, of the machine and the answers that it leaves
pub record Guaranteed (m : Machine) (run : Events) (last : Machine) (answers : List Reply) : Type 0 where
  -- Each page's owner is the one whom the page's last granted transfer names, or else the set-up line, or else who it was before.
  pub owner_named : (page : ℕ) → Named m run page (owner_in last page)
  -- Nobody but the owner is so named: each page has one owner.
  pub owner_alone : (page to : ℕ) → Named m run page to → owner_in last page ≡ to
  -- The owner is one of the four worlds.
  pub owner_world : (page : ℕ) → owner_in last page ≤ 3
  -- Each page of the window has its owner's mark, of these the one in the place of the owner's number: Root's, Secure's, Normal's, Realm's.
  pub packed : (page : ℕ) → ready last.setup ≡ true → page < (window last).pages → mark_in last page ≡ get_or (0xA ∷ 0x8 ∷ 0x9 ∷ 0xB ∷ []) (owner_in last page) 0
  -- Every place past the window has the mark 0, and before there is one every place of the table.
  pub packed_past : (page : ℕ) → page < 4096 → (ready last.setup ≡ true → (window last).pages ≤ page) → mark_in last page ≡ 0
  -- A world's mappings cover only pages which it owns.
  pub mapped_owned : (world page : ℕ) → covers (window last) (mapped last world) page ≡ true → owner_in last page ≡ world
  -- Each of them is of some whole pages inside the window, ends at or below 2^32, and has attributes 0, 1 or 2.
  pub mapped_inside : (world : ℕ) → Every (Formed (window last)) (mapped last world)
  -- A page has at most one virtual address in a world: two addresses that any mappings of the world lead to one page lie in one virtual page.
  pub one_address : (world x y p q : ℕ) → Reaches (mapped last world) x p → Reaches (mapped last world) y q → p / 4096 ≡ q / 4096 → x / 4096 ≡ y / 4096
  -- What one virtual address reaches by any mappings of the world is one place.
  pub one_place : (world x p q : ℕ) → Reaches (mapped last world) x p → Reaches (mapped last world) x q → p ≡ q
  -- Any two mappings of a world are the same, or clear of each other, or one is a smaller one inside the other with the same difference of virtual and physical addresses.
  pub nested : (world : ℕ) (n o : Mapping) → Among n (mapped last world) → Among o (mapped last world) → (n ≡ o) ⊎ Beside n o
  -- An address leads by the smallest mapping of the world that holds it, and the sum that says where is exact;
  pub led : (world x p a : ℕ) → lead_of (mapped last world) x ≡ To p a → LedBy (mapped last world) x p a
  -- and it leads to whatever it reaches by any of them.
  pub leads : (world x p : ℕ) → Reaches (mapped last world) x p → (a : ℕ) × (lead_of (mapped last world) x ≡ To p a)
  -- No page is mapped by two worlds.
  pub one_world : (u v page : ℕ) → covers (window last) (mapped last u) page ≡ true → covers (window last) (mapped last v) page ≡ true → u ≡ v
  -- No world has more pages mapped than it owns, each page counted once, however many of its mappings cover it.
  pub mapped_few : (world : ℕ) → count_covered (window last) (mapped last world) ≤ count_owned last.owners (window last).pages world
  -- A world holds at most sixteen mappings.
  pub sixteen : (world : ℕ) → length (mapped last world) ≤ 16
  -- A core that is ON runs Normal, Secure or Realm.
  pub runs : (core : ℕ) → is_on (power last.powers core) ≡ true → Calls (turn last.turns core).world
  -- Once set-up has said how many cores there are, no other is ON or pending.
  pub absent : (core : ℕ) → ready last.setup ≡ true → cores last.setup ≤ core → (is_on (power last.powers core) ≡ false) × (is_pending (power last.powers core) ≡ false)
  -- Before that nothing has happened.
  pub idle : ready last.setup ≡ false → last ≡ first
  -- The window and the number of cores stay once they are given; the ledger stays once set-up has ended, and set-up stays ended.
  pub site_stays : ready m.setup ≡ true → (ready last.setup ≡ true) × (site_of last.setup ≡ site_of m.setup)
  pub ledger_stays : ended m.setup ≡ true → (ended last.setup ≡ true) × (last.ledger ≡ m.ledger)
  -- Each line has one answer.
  pub answered : length answers ≡ length run

-- ---- of the answers
-- the texts of answers, one after the other
unfoldable pub texts : List Reply → List ℕ
texts [] = []
texts (r ∷ rest) = text_of r ++ texts rest

-- an answer's text: a0 and a status, or a1, the core, the world and its x0 to x3; and a newline
pub data Shape : List ℕ → Type 0 where
  status : (why : Status) → Shape (status_text why)
  call : (core world x0 x1 x2 x3 : ℕ) → Shape (call_text core world x0 x1 x2 x3)

-- ---- of one line, met by a machine m: what it leaves in the machine `last`, and how it is answered
-- the world that runs on a core
abbrev pub running : Machine → ℕ → ℕ
running m core = (turn m.turns core).world

-- number j of a core and world: x0 to x7, and in ninth place its start address
abbrev pub number : Machine → ℕ → ℕ → ℕ → ℕ
number m core world j = saved m.saved core world j

-- how many of the cores below n are ON
unfoldable pub on_below : Machine → ℕ → ℕ
on_below m zero = 0
on_below m (suc n) = pick (is_on (power m.powers n)) 1 0 + on_below m n

-- a run of pages inside the window is another owner's now, each page of it and no other
pub record Given (m last : Machine) (start count to : ℕ) : Type 0 where
  pub first : ℕ
  pub lies : run_of (window m) start count ≡ Some first
  pub inside : (page : ℕ) → first ≤ page → page < first + count → owner_in last page ≡ to
  pub outside : (page : ℕ) → (first ≤ page → page < first + count → ⊥) → owner_in last page ≡ owner_in m page

-- a run of some pages inside the window is all this world's, which has mapped no page of it
pub record Had (m : Machine) (world start count : ℕ) : Type 0 where
  pub some : 0 < count
  pub first : ℕ
  pub lies : run_of (window m) start count ≡ Some first
  pub owned : (page : ℕ) → first ≤ page → page < first + count → owner_in m page ≡ world
  pub unmapped : (page : ℕ) → first ≤ page → page < first + count → covers (window m) (mapped m world) page ≡ false

-- a core of the board that is neither ON nor pending, and an address to start it at: a multiple of 4 in a page of Normal's
pub record Startable (m : Machine) (core address : ℕ) : Type 0 where
  pub exists : core < cores m.setup
  pub not_on : is_on (power m.powers core) ≡ false
  pub not_pending : is_pending (power m.powers core) ≡ false
  pub fourth : address % 4 ≡ 0
  pub page : ℕ
  pub inside : InPage (window m) address page
  pub owned : owner_in m page ≡ normal

-- the calls that 8400000A affirms
abbrev pub power_known : List ℕ
power_known = 0x84000000 ∷ 0x84000002 ∷ 0x84000003 ∷ 0xC4000003 ∷ 0x84000004 ∷ 0xC4000004 ∷ 0x8400000A ∷ 0x80000000 ∷ []

-- ---- a call on a core with its numbers x0 to x7
module _ (m : Machine) (core : ℕ) (xs : List ℕ) where
  -- who calls, and an argument as the call reads it
  abbrev pub caller : ℕ
  caller = running m core

  abbrev pub arg : ℕ → ℕ
  arg i = argument (called_by xs) (get_or xs i 0)

  -- who gives pages to a world: the caller to Normal, and Normal to the caller
  abbrev pub giver : ℕ → ℕ
  giver to = pick (eqb to normal) caller normal

  -- the mapping that a map asks for
  abbrev pub asked : Mapping
  asked = record { virt = arg 2; phys = arg 1; size = arg 3; attr = arg 4 }

  -- what the call is: it passes the test on bits 23 to 17, reaches this handler and has this identifier, but for the hint of a fast call
  abbrev pub Is : ℕ → ℕ → Type 0
  Is h id = Reached (sight (state_of m) core) xs (λ n. (n ≡ h) × (key xs ≡ id))

  -- it hands the core over to a world
  abbrev pub HandsOver : ℕ → Type 0
  HandsOver to = (caller ≡ normal) × Reached (sight (state_of m) core) xs (λ h. HandsTo h (key xs) to)

  -- it gives the core back: Secure's finish, or Realm's
  abbrev pub GivesBack : Type 0
  GivesBack = Reached (sight (state_of m) core) xs (λ h. Finishes h (key xs) caller)

  -- it switches its core off
  abbrev pub SwitchesOff : Type 0
  SwitchesOff = (caller ≡ normal) × Is 2 0x84000002

  -- the machine after a refusal with -n: the caller has its eight numbers back, with the refusal in x0, and set-up has ended
  abbrev pub denied : ℕ → Machine
  denied n =
      machine (over m.setup) m.named m.ledger m.owners
      (saving (saving m.saved core caller xs) core caller (negative (called_by xs) n ∷ []))
      m.powers m.turns m.lists

  module _ (last : Machine) where
    -- what the caller has in x0 to x7 afterwards
    abbrev pub x : ℕ → ℕ
    x j = number last core caller j

    -- x0 to x3 of a world on the core
    abbrev pub shown : ℕ → Shown
    shown world = record { x0 = number last core world 0; x1 = number last core world 1; x2 = number last core world 2; x3 = number last core world 3 }

    pub record HeededCall (answer : Reply) : Type 0 where
      -- The core that called is one of the board's, and was ON.
      pub exists : core < cores m.setup
      pub was_on : is_on (power m.powers core) ≡ true
      -- Where the core is then ON, the answer is the core, the world that runs there and that world's x0 to x3,
      pub shown_if_on : is_on (power last.powers core) ≡ true → answer ≡ Called core (running last core) (shown (running last core))
      -- and where it is not, the core, 255 and Normal's.
      pub shown_off : is_on (power last.powers core) ≡ false → answer ≡ Called core 255 (shown normal)
      -- Set-up has ended.
      pub set_up_ends : ended last.setup ≡ true
      -- ---- who judges it
      -- A fast call with one of bits 23 to 17 set is refused with -1, whatever its owner.
      pub reserved : bits 31 31 (get_or xs 0 0) ≡ 1 → (bits 23 17 (get_or xs 0 0) ≡ 0 → ⊥) → last ≡ denied 1
      -- Every other call passes the test on these bits.
      pub passes : (bits 31 31 (get_or xs 0 0) ≡ 1 → bits 23 17 (get_or xs 0 0) ≡ 0) → admitted (called_by xs) ≡ true
      -- The type, the width and the owner of a call are these bits of its x0; of an argument it reads the low half, or all.
      pub type_read : (called_by xs).fast ≡ bits 31 31 (get_or xs 0 0)
      pub width_read : (called_by xs).wide ≡ bits 30 30 (get_or xs 0 0)
      pub owner_read : (called_by xs).owner ≡ bits 29 24 (get_or xs 0 0)
      pub half_read : (i : ℕ) → bits 30 30 (get_or xs 0 0) ≡ 0 → arg i ≡ get_or xs i 0 % 4294967296
      pub all_read : (i : ℕ) → bits 30 30 (get_or xs 0 0) ≡ 1 → arg i ≡ get_or xs i 0
      -- A call goes by the low half of its x0, of which, in a fast call, bit 16 does not count,
      pub named_fast : bits 31 31 (get_or xs 0 0) ≡ 1 → key xs + bits 16 16 (get_or xs 0 0) * 65536 ≡ get_or xs 0 0 % 4294967296
      pub named_yielding : bits 31 31 (get_or xs 0 0) ≡ 0 → key xs ≡ get_or xs 0 0 % 4294967296
      -- so that a fast call is judged and answered as it is with any other x0 whose low half is the same but for bit 16, and has that bit clear.
      pub hint_idle : (y0 : ℕ) → bits 31 31 (get_or xs 0 0) ≡ 1 → y0 % 4294967296 + bits 16 16 (get_or xs 0 0) * 65536 ≡ get_or xs 0 0 % 4294967296
          → (judged_in (state_of m) core xs ≡ judged_in (state_of m) core (y0 ∷ drop 1 xs)) × (results_in (state_of m) core xs ≡ results_in (state_of m) core (y0 ∷ drop 1 xs))
      -- A call that passes the test on bits 23 to 17 is judged by the handler that the ledger has for its type and owner, or by none.
      pub dispatched : admitted (called_by xs) ≡ true
          → judged_in (state_of m) core xs ≡ found (sight (state_of m) core).inner (args_of (called_by xs) xs) (key xs) (handler m.ledger (called_by xs).fast (called_by xs).owner)
      -- A call for whose type and owner it has none is refused with -1.
      pub unserved : handler m.ledger (called_by xs).fast (called_by xs).owner ≡ None → last ≡ denied 1
      -- So is one that the handler does not know, and one that is for another world than the caller's.
      pub unknown : Reached (sight (state_of m) core) xs (λ h. Unknown h (key xs)) → last ≡ denied 1
      pub barred : Reached (sight (state_of m) core) xs (λ h. Barred h (key xs) caller) → last ≡ denied 1
      -- A call that is refused for a reason leaves the machine of that refusal.
      pub refused : (r : Reason) → answer_in (state_of m) core xs ≡ No r → last ≡ denied (minus r)
      -- That refusal stands in x0 as 2^32 - n where bit 30 of the frame's x0 is clear, and as 2^64 - n where it is set.
      pub refused_short : (n : ℕ) → bits 30 30 (get_or xs 0 0) ≡ 0 → negative (called_by xs) n ≡ 4294967296 - n
      pub refused_long : (n : ℕ) → bits 30 30 (get_or xs 0 0) ≡ 1 → negative (called_by xs) n ≡ 18446744073709551616 - n
      -- ---- what its caller finds
      -- The results that its answer lists, from x0 on; behind them the frame's numbers; its start address stays.
      pub results : (j : ℕ) → j < length (results_in (state_of m) core xs) → x j ≡ get_or (results_in (state_of m) core xs) j 0
      pub unlisted : (j : ℕ) → length (results_in (state_of m) core xs) ≤ j → j < 8 → x j ≡ get_or xs j 0
      pub start_stays : x 8 ≡ number m core caller 8
      -- After a hand-over, a finish or OFF x0 to x7 are the frame's.
      pub hand_over_silent : (to j : ℕ) → HandsOver to → j < 8 → x j ≡ get_or xs j 0
      pub finish_silent : (j : ℕ) → GivesBack → j < 8 → x j ≡ get_or xs j 0
      pub off_silent : (j : ℕ) → SwitchesOff → j < 8 → x j ≡ get_or xs j 0
      -- After any call x1 to x7 are the frame's, but for x1 and x2 of a granted C2000022.
      pub not_written : (j : ℕ) → 0 < j → j < 8 → (Is 1 0xC2000022 → x 0 ≡ 0 → j ≤ 2 → ⊥) → x j ≡ get_or xs j 0
      -- These are where its address leads, by the caller's list.
      pub where_told : Is 1 0xC2000022 → x 0 ≡ 0 → lead_of (mapped m caller) (arg 1) ≡ To (x 1) (x 2)
      -- It is granted where the address leads anywhere.
      pub where_granted : (phys attr : ℕ) → Is 1 0xC2000022 → lead_of (mapped m caller) (arg 1) ≡ To phys attr → x 0 ≡ 0
      -- 80000000 is answered with the version of the calling convention, 84000000 from Normal with that of core power.
      pub version_told : Is 0 0x80000000 → x 0 ≡ 0x10003
      pub power_version_told : caller ≡ normal → Is 2 0x84000000 → x 0 ≡ 0x10001
      -- 80000001 is answered 0 where the low half of x1 is 80000000 or 80000001, with bit 16 set or not, and else refused with -1.
      pub features_known : Is 0 0x80000001 → Known (get_or xs 1 0 % 4294967296) (0x80000000 ∷ 0x80000001 ∷ []) → x 0 ≡ 0
      pub features_unknown : Is 0 0x80000001 → (Known (get_or xs 1 0 % 4294967296) (0x80000000 ∷ 0x80000001 ∷ []) → ⊥) → last ≡ denied 1
      -- 8400000A from Normal is answered so by the calls of core power and 80000000.
      pub power_features_known : caller ≡ normal → Is 2 0x8400000A → Known (get_or xs 1 0 % 4294967296) power_known → x 0 ≡ 0
      pub power_features_unknown : caller ≡ normal → Is 2 0x8400000A → (Known (get_or xs 1 0 % 4294967296) power_known → ⊥) → last ≡ denied 1
      -- C2000030 is answered with the number of cores, of the eight, that are ON.
      pub count_told : Is 1 0xC2000030 → x 0 ≡ on_below m 8
      -- ---- what others find
      -- No number of another core changes, nor does what runs there.
      pub other_cores : (c w j : ℕ) → (core ≡ c → ⊥) → number last c w j ≡ number m c w j
      pub other_turns : (c : ℕ) → (c ≡ core → ⊥) → turn last.turns c ≡ turn m.turns c
      -- Except for a hand-over or a finish, no number of another world changes, and the same world runs.
      pub other_worlds : (w j : ℕ) → (caller ≡ w → ⊥) → ((to : ℕ) → HandsOver to → ⊥) → (GivesBack → ⊥) → number last core w j ≡ number m core w j
      pub same_runs : ((to : ℕ) → HandsOver to → ⊥) → (GivesBack → ⊥) → last.turns ≡ m.turns
      -- After a hand-over the receiver runs; it has the frame's x0 to x7 and its own start address, and no third world's numbers change.
      pub handed_runs : (to : ℕ) → HandsOver to → running last core ≡ to
      pub handed : (to j : ℕ) → HandsOver to → j < 8 → number last core to j ≡ get_or xs j 0
      pub handed_rest : (to j : ℕ) → HandsOver to → 8 ≤ j → number last core to j ≡ number m core to j
      pub handed_others : (to w j : ℕ) → HandsOver to → (caller ≡ w → ⊥) → (to ≡ w → ⊥) → number last core w j ≡ number m core w j
      -- Secure's finish and Realm's are never refused.
      pub finish_open : (n : ℕ) → GivesBack → last ≡ denied n → ⊥
      -- After a finish, which is Secure's or Realm's, Normal runs.
      pub finished_by : GivesBack → (caller ≡ 1) ⊎ (caller ≡ 3)
      pub finished_runs : GivesBack → running last core ≡ normal
      -- Its x0 to x3 are Secure's x1 to x4 where Secure finished, its x0 to x4 Realm's x1 to x5 where Realm did; its other numbers stay, and so do a third world's.
      pub finished_secure : (j : ℕ) → GivesBack → caller ≡ 1 → j < 4 → number last core normal j ≡ get_or xs (1 + j) 0
      pub rest_secure : (j : ℕ) → GivesBack → caller ≡ 1 → 4 ≤ j → number last core normal j ≡ number m core normal j
      pub finished_realm : (j : ℕ) → GivesBack → caller ≡ 3 → j < 5 → number last core normal j ≡ get_or xs (1 + j) 0
      pub rest_realm : (j : ℕ) → GivesBack → caller ≡ 3 → 5 ≤ j → number last core normal j ≡ number m core normal j
      pub finished_others : (w j : ℕ) → GivesBack → (caller ≡ w → ⊥) → (normal ≡ w → ⊥) → number last core w j ≡ number m core w j
      -- ---- what is done, by what was asked and is answered
      -- A transfer that is answered 0 gives the taker its whole run.
      pub move_done : (start count to : ℕ) → AsksTransfer m core xs start count to → x 0 ≡ 0 → Given m last start count to
      -- Its caller is Secure or Realm, and before it the whole run was the giver's and not mapped.
      pub move_owned : (start count to : ℕ) → AsksTransfer m core xs start count to → x 0 ≡ 0 → Takes caller × Had m (giver to) start count
      -- One that its caller may ask for is answered 0 where the run is so: where none of the giver's mappings covers a page of it any more.
      pub move_granted : (start count to : ℕ) → AsksTransfer m core xs start count to → MayMove caller (key xs) → Had m (giver to) start count → x 0 ≡ 0
      -- No other call changes an owner.
      pub owners_stay : ((start count to : ℕ) → AsksTransfer m core xs start count to → x 0 ≡ 0 → ⊥) → last.owners ≡ m.owners
      -- A map of some size that is answered 0 puts its mapping into the caller's list, which else is as it was.
      pub map_done : Is 1 0xC2000020 → x 0 ≡ 0 → (arg 3 ≡ 0 → ⊥)
          → Inserted asked (mapped m caller) (mapped last caller)
      -- It is answered so where the mapping may be made, inside or around others of the caller's too, and nowhere else:
      pub map_granted : Is 1 0xC2000020 → Mappable (window m) m.owners caller (mapped m caller) asked → x 0 ≡ 0
      pub map_made : Is 1 0xC2000020 → x 0 ≡ 0 → (arg 3 ≡ 0 → ⊥) → Mappable (window m) m.owners caller (mapped m caller) asked
      -- one that is well formed, with fewer than sixteen held, and may not stand beside one of these is refused with -1.
      pub map_overlaps : Is 1 0xC2000020 → Formed (window m) asked → length (mapped m caller) < 16 → (n : Mapping) → Among n (mapped m caller) → (Beside asked n → ⊥) → last ≡ denied 1
      -- An unmap that is answered 0 takes its mapping out, and nothing else.
      pub unmap_done : Is 1 0xC2000021 → x 0 ≡ 0 → Removed (arg 1) (arg 2) (mapped m caller) (mapped last caller)
      -- No other call changes the caller's list, and none another world's.
      pub lists_stay : (Is 1 0xC2000020 → x 0 ≡ 0 → (arg 3 ≡ 0 → ⊥) → ⊥) → (Is 1 0xC2000021 → x 0 ≡ 0 → ⊥) → last.lists ≡ m.lists
      pub other_lists : (w : ℕ) → (w ≡ caller → ⊥) → mapped last w ≡ mapped m w
      -- A start that is answered 0 leaves core x1 pending, with x2 and x3 as they were read.
      pub start_done : AsksStart m core xs → x 0 ≡ 0 → power last.powers (arg 1) ≡ power_of pending (arg 2) (arg 3)
      -- Its caller is Normal, and before it that core could be started at x2.
      pub start_ready : AsksStart m core xs → x 0 ≡ 0 → (caller ≡ normal) × Startable m (arg 1) (arg 2)
      -- A core that is switched off is OFF. No other call changes a core's power.
      pub off_done : SwitchesOff → power last.powers core ≡ put (power m.powers core) off
      pub power_stays : (c : ℕ) → (AsksStart m core xs → x 0 ≡ 0 → c ≡ arg 1 → ⊥) → (SwitchesOff → c ≡ core → ⊥) → power last.powers c ≡ power m.powers c

-- ---- an arrival that is accepted
pub record HeededArrival (m : Machine) (core : ℕ) (last : Machine) : Type 0 where
  -- The core was pending and is ON, and Normal runs there.
  pub was_pending : is_pending (power m.powers core) ≡ true
  pub core_is_on : power last.powers core ≡ put (power m.powers core) on
  pub in_normal : running last core ≡ normal
  -- Normal's x0 is the context, x1 to x7 are zero, and in ninth place stands the start address.
  pub context : number last core normal 0 ≡ (power m.powers core).context
  pub zeros : (j : ℕ) → 0 < j → j < 8 → number last core normal j ≡ 0
  pub start : number last core normal 8 ≡ (power m.powers core).start
  -- No other number changes, and on no other core its power, or what runs there.
  pub other_numbers : (c w j : ℕ) → (core ≡ c → normal ≡ w → ⊥) → number last c w j ≡ number m c w j
  pub other_power : (c : ℕ) → (c ≡ core → ⊥) → power last.powers c ≡ power m.powers c
  pub other_turns : (c : ℕ) → (c ≡ core → ⊥) → turn last.turns c ≡ turn m.turns c
  -- Nor do owners and mappings.
  pub owners_stay : last.owners ≡ m.owners
  pub lists_stay : last.lists ≡ m.lists

-- ---- a line of any other kind: no number, no power, nothing that runs and no mapping changes
pub record HeededOther (m last : Machine) : Type 0 where
  pub numbers_stay : last.saved ≡ m.saved
  pub power_stays : last.powers ≡ m.powers
  pub turns_stay : last.turns ≡ m.turns
  pub lists_stay : last.lists ≡ m.lists

-- ---- any line
pub record Heeded (m : Machine) (e : Event) (last : Machine) (answer : Reply) : Type 0 where
  -- A refused frame changes nothing.
  pub refused_frame : (why : Status) → answer ≡ Told why → (why ≡ Accepted → ⊥) → last ≡ m
  -- A call that is not refused as a frame is heeded as above; it is never told a plain acceptance.
  pub call : (core : ℕ) → e.0 ≡ Frame.Call core → length e.1 ≡ 8 → Taken answer → HeededCall m core e.1 last answer
  pub call_told : (core : ℕ) → e.0 ≡ Frame.Call core → answer ≡ Told Accepted → ⊥
  -- So is an accepted arrival, and any other line; no line but a call is answered as one, or ends set-up.
  pub arrival : (core : ℕ) → e.0 ≡ Frame.Arrival core → answer ≡ Told Accepted → HeededArrival m core last
  pub other : ((core : ℕ) → e.0 ≡ Frame.Call core → ⊥) → ((core : ℕ) → e.0 ≡ Frame.Arrival core → ⊥) → HeededOther m last
  pub other_told : ((core : ℕ) → e.0 ≡ Frame.Call core → ⊥) → Taken answer → ⊥
  pub set_up_goes_on : (why : Status) → answer ≡ Told why → ended last.setup ≡ ended m.setup
