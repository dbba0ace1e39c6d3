-- What a call is answered, and what is to be done for it: the paper's table of calls, each call with its tests in order. The order of the whole judgement stands at the end.
use Rattle.std.specs.Prelude.{Bool, true, false, not, ◌&&◌, ◌||◌, List, [], ◌∷◌, ℕ, ◌%◌, ltb, leb, eqb, get_or, Err, None, Ok, Option, Result, Some}
use Rattle.mapping.specs.Leads.{To}
use Rattle.mapping.specs.declared.Lead.{Lead}
use Rattle.mapping.specs.declared.Grant.TheVariants as Grant
use Rattle.mapping.specs.declared.Grant.{Grant}
use Rattle.rules.specs.Choice.{pick}
use Rattle.rules.specs.Tests.{Test, refuses, sieve}
use Rattle.rules.specs.declared.Reason.{Reason}
use Rattle.rules.specs.declared.Reason.TheVariants as Reason
use Rattle.identifiers.specs.Identifier.{identifier_of, parts, key_of, admitted, argument}
use Rattle.identifiers.specs.declared.Parts.{Parts}
use Rattle.ledger.specs.Ledger.{handler}
use Rattle.cores.specs.Power.{is_on, is_pending}
use Rattle.cores.specs.Cores.{power, on_count}
use Rattle.cores.specs.declared.Power.{Power}
use Rattle.pages.specs.Window.{page_of}
use Rattle.pages.specs.Owners.{owner}
use Rattle.pages.specs.declared.Window.{Window}
use Rattle.mapping.specs.Mapping.{map_verdict, has_exactly, lead_of}
use Rattle.ranges.specs.declared.Mapping.{Mapping}
use Rattle.transfers.specs.Transfer.{transfer_verdict}
use Rattle.rules.specs.Sizes.{secure, normal, realm}
use Rattle.judgements.specs.Names.{version, features, power_version, core_off, core_start, core_start_wide, core_state, core_state_wide, power_features, granule_to_realm, granule_to_normal, realm_first, realm_last, realm_finish, take_pages, give_pages, owns_page, map_pages, unmap_pages, where_leads, count_on, secure_finish}
use Rattle.judgements.specs.declared.Answer.{Answer}
use Rattle.judgements.specs.declared.Answer.TheVariants as Answer
use Rattle.judgements.specs.declared.Deed.{Deed}
use Rattle.judgements.specs.declared.Deed.TheVariants as Deed
use Rattle.judgements.specs.declared.Judged.{Judged}
use Rattle.judgements.specs.declared.Caller.{Caller}
use Rattle.judgements.specs.declared.Args.{Args}
use Rattle.judgements.specs.declared.Transfer.{Transfer}

-- what the handlers may look at: the caller and its board, the cores' power, the owners, and two lists of mappings, the caller's and Normal's
pub record HandlerSight : Type 0 where
  pub caller : Caller
  pub powers : List ℕ
  pub owners : List ℕ
  pub own : List Mapping
  pub theirs : List Mapping

abbrev pub handler_sight : Caller → List ℕ → List ℕ → List Mapping → List Mapping → HandlerSight
handler_sight v p o m n = record { caller = v; powers = p; owners = o; own = m; theirs = n }

-- what a judgement may look at: that, and the ledger
pub record Sight : Type 0 where
  pub ledger : List ℕ
  pub inner : HandlerSight

abbrev pub sighted : List ℕ → HandlerSight → Sight
sighted l v = record { ledger = l; inner = v }

abbrev pub denied : Reason → Judged
denied r = record { answer = Answer.No r; deed = Deed.Nothing }

abbrev pub granted : Answer → Deed → Judged
granted a d = record { answer = a; deed = d }

abbrev pub Tests : Type 0
Tests = List (Test Reason)

abbrev pub tested : Tests → Judged → Judged
tested ts j = sieve denied ts j

-- ---- who may call
-- the call is refused to every world but this one
abbrev pub only_from : ℕ → Caller → Test Reason
only_from world v = refuses (not (eqb v.world world)) Reason.Unserved

-- the key is one of these
unfoldable pub one_of : ℕ → List ℕ → Bool
one_of key [] = false
one_of key (k ∷ ks) = eqb key k || one_of key ks

-- Root makes no calls
abbrev pub callers : List ℕ
callers = secure ∷ normal ∷ realm ∷ []

-- Secure and Realm take pages from Normal and give them back
abbrev pub takers : List ℕ
takers = secure ∷ realm ∷ []

-- ---- what a call reads: its arguments x1 to x4, by the width of its identifier
unfoldable pub args_of : Parts → List ℕ → Args
args_of p xs =
    record {
      x1 = argument p (get_or xs 1 0);
      x2 = argument p (get_or xs 2 0);
      x3 = argument p (get_or xs 3 0);
      x4 = argument p (get_or xs 4 0);
    }

-- the key of the identifier that a call asks about
abbrev pub asked : Args → ℕ
asked a = key_of (identifier_of a.x1)

-- ---- handler 0: the architecture
-- a question whether a call is known: 0, or -1
unfoldable pub affirmed : Bool → Judged
affirmed b = pick b (granted Answer.Done Deed.Nothing) (denied Reason.Unserved)

abbrev pub architecture_calls : List ℕ
architecture_calls = version ∷ features ∷ []

-- whether a call of the architecture is known
unfoldable pub featuring : Args → Judged
featuring a = affirmed (one_of (asked a) architecture_calls)

unfoldable pub architecture : Args → ℕ → Judged
architecture a key =
    pick (eqb key version) (granted Answer.Version Deed.Nothing)
    (pick (eqb key features) (featuring a)
    (denied Reason.Unserved))

-- ---- core power
-- the page that holds an address has this owner
unfoldable pub owned_at : List ℕ → Option ℕ → ℕ → Bool
owned_at o (Some page) world = eqb (owner o page) world
owned_at o None world = false

-- a core may start there: an instruction's address, in a page of Normal's
unfoldable pub good_start : Window → List ℕ → ℕ → Bool
good_start w o address = eqb (address % 4) 0 && owned_at o (page_of w address) normal

unfoldable pub starting : Caller → List ℕ → List ℕ → Args → Judged
starting v powers o a =
    tested
    (only_from normal v
    ∷ refuses (leb v.cores a.x1) Reason.Invalid
    ∷ refuses (not (good_start v.window o a.x2)) Reason.BadAddress
    ∷ refuses (is_on (power powers a.x1)) Reason.AlreadyOn
    ∷ refuses (is_pending (power powers a.x1)) Reason.AlreadyPending
    ∷ [])
    (granted Answer.Done (Deed.Start a.x1 a.x2 a.x3))

-- the state of a core in the paper's three words
unfoldable pub state_of : Power → Answer
state_of c = pick (is_on c) Answer.On (pick (is_pending c) Answer.Pending Answer.Off)

unfoldable pub telling_state : Caller → List ℕ → Args → Judged
telling_state v powers a =
    tested
    (only_from normal v
    ∷ refuses (leb v.cores a.x1) Reason.Invalid
    ∷ refuses (not (eqb a.x2 0)) Reason.Invalid
    ∷ [])
    (granted (state_of (power powers a.x1)) Deed.Nothing)

unfoldable pub going_off : Caller → Judged
going_off v = tested (only_from normal v ∷ []) (granted Answer.Silent Deed.GoOff)

unfoldable pub versioning : Caller → Judged
versioning v = tested (only_from normal v ∷ []) (granted Answer.PowerVersion Deed.Nothing)

-- what the power features question affirms
abbrev pub power_calls : List ℕ
power_calls = power_version ∷ core_off ∷ core_start ∷ core_start_wide ∷ core_state ∷ core_state_wide ∷ power_features ∷ version ∷ []

unfoldable pub power_featuring : Caller → Args → Judged
power_featuring v a = tested (only_from normal v ∷ []) (affirmed (one_of (asked a) power_calls))

-- ---- page transfers
-- a row of their table: the key of a call, and the transfer that it is
pub record Listed : Type 0 where
  pub key : ℕ
  pub transfer : Transfer

abbrev pub listed : ℕ → Bool → Bool → ℕ → Listed
listed key both takes count = record { key = key; transfer = record { both = both; takes = takes; count = count } }

-- by the handler: the key, whether Secure and Realm both may call or Realm alone, whether the caller takes pages from Normal or gives them to it, how many
abbrev pub transfers : ℕ → Args → List Listed
transfers h a =
    pick (eqb h 2) (listed granule_to_realm false true 1 ∷ listed granule_to_normal false false 1 ∷ [])
    (pick (eqb h 1) (listed take_pages true true a.x2 ∷ listed give_pages true false a.x2 ∷ []) [])

-- the row of a call
unfoldable pub row_in : List Listed → ℕ → Option Transfer
row_in [] key = None
row_in (l ∷ ls) key = pick (eqb key l.key) (Some l.transfer) (row_in ls key)

abbrev pub row_of : Args → ℕ → ℕ → Option Transfer
row_of a h key = row_in (transfers h a) key

abbrev pub may_transfer : Transfer → List ℕ
may_transfer t = pick t.both takers (realm ∷ [])

-- what a transfer's verdict makes of the call
unfoldable pub moving : Result ℕ Reason → ℕ → ℕ → Judged
moving (Ok first) count to = granted Answer.Done (Deed.Move first count to)
moving (Err r) count to = denied r

-- pages from x1 on, from Normal to the caller, or from the caller to Normal
unfoldable pub transferring : Transfer → Caller → List ℕ → List Mapping → List Mapping → Args → Judged
transferring t v o own theirs a =
    tested (refuses (not (one_of v.world (may_transfer t))) Reason.Unserved ∷ [])
    (pick t.takes (moving (transfer_verdict v.window o theirs normal a.x1 t.count) t.count v.world)
    (moving (transfer_verdict v.window o own v.world a.x1 t.count) t.count normal))

-- ---- handler 1: the board
-- whether the caller owns the page at this place
unfoldable pub owning : List ℕ → Option ℕ → ℕ → Judged
owning o (Some page) world = granted (Answer.Owns (eqb (owner o page) world)) Deed.Nothing
owning o None world = denied Reason.Invalid

-- the mapping that a call wants
abbrev pub wanted : Args → Mapping
wanted a = record { virt = a.x2; phys = a.x1; size = a.x3; attr = a.x4 }

unfoldable pub mapping : Result Grant Reason → Mapping → Judged
mapping (Ok Grant.Hold) m = granted Answer.Done (Deed.Map m)
mapping (Ok Grant.Nothing) m = granted Answer.Done Deed.Nothing
mapping (Err r) m = denied r

unfoldable pub unmapping : List Mapping → Args → Judged
unmapping own a = tested (refuses (not (has_exactly own a.x1 a.x2)) Reason.NoMapping ∷ []) (granted Answer.Done (Deed.Unmap a.x1 a.x2))

unfoldable pub leading : Option Lead → Judged
leading (Some d) = granted (Answer.Leads d.phys d.attr) Deed.Nothing
leading None = denied Reason.Nowhere

unfoldable pub board : HandlerSight → Args → ℕ → Judged
board s a key =
    pick (eqb key owns_page) (owning s.owners (page_of s.caller.window a.x1) s.caller.world)
    (pick (eqb key map_pages) (mapping (map_verdict s.own s.owners s.caller.window s.caller.world (wanted a)) (wanted a))
    (pick (eqb key unmap_pages) (unmapping s.own a)
    (pick (eqb key where_leads) (leading (lead_of s.own a.x1))
    (pick (eqb key count_on) (granted (Answer.Count (on_count s.powers)) Deed.Nothing)
    (denied Reason.Unserved)))))

-- ---- hand-over and finish
unfoldable pub handing : ℕ → Caller → Judged
handing to v = tested (only_from normal v ∷ []) (granted Answer.Silent (Deed.HandOver to))

unfoldable pub finishing : ℕ → Caller → Judged
finishing from v = tested (only_from from v ∷ []) (granted Answer.Silent Deed.Finish)

-- ---- handler 2: standard calls
-- Realm's range of hand-over
unfoldable pub handing_to_realm : Caller → ℕ → Judged
handing_to_realm v key = tested (refuses (ltb key realm_first) Reason.Unserved ∷ refuses (ltb realm_last key) Reason.Unserved ∷ []) (handing realm v)

-- Realm's finish and hand-over
unfoldable pub realm_call : Caller → ℕ → Judged
realm_call v key = pick (eqb key realm_finish) (finishing realm v) (handing_to_realm v key)

unfoldable pub standard : Caller → List ℕ → List ℕ → Args → ℕ → Judged
standard v powers o a key =
    pick (eqb key power_version) (versioning v)
    (pick (eqb key core_off) (going_off v)
    (pick (eqb key core_start) (starting v powers o a)
    (pick (eqb key core_start_wide) (starting v powers o a)
    (pick (eqb key core_state) (telling_state v powers a)
    (pick (eqb key core_state_wide) (telling_state v powers a)
    (pick (eqb key power_features) (power_featuring v a)
    (realm_call v key)))))))

-- ---- handler 3: the trusted system
unfoldable pub trusted : Caller → ℕ → Judged
trusted v key = pick (eqb key secure_finish) (finishing secure v) (handing secure v)

-- ---- the whole judgement, in order
-- a call that is no transfer
unfoldable pub by_number : HandlerSight → Args → ℕ → ℕ → Judged
by_number s a key h =
    pick (eqb h 0) (architecture a key)
    (pick (eqb h 1) (board s a key)
    (pick (eqb h 2) (standard s.caller s.powers s.owners a key)
    (pick (eqb h 3) (trusted s.caller key)
    (denied Reason.Unserved))))

unfoldable pub by_row : HandlerSight → Args → ℕ → ℕ → Option Transfer → Judged
by_row s a key h (Some t) = transferring t s.caller s.owners s.own s.theirs a
by_row s a key h None = by_number s a key h

abbrev pub by_handler : HandlerSight → Args → ℕ → ℕ → Judged
by_handler s a key h = by_row s a key h (row_of a h key)

unfoldable pub found : HandlerSight → Args → ℕ → Option ℕ → Judged
found s a key None = denied Reason.Unserved
found s a key (Some h) = by_handler s a key h

abbrev pub called_by : List ℕ → Parts
called_by xs = parts (identifier_of (get_or xs 0 0))

-- of a call with these parts, arguments and key. That Root makes no calls is tested first; its answer is the same as that of the next three
unfoldable pub judged_by : Sight → Parts → Args → ℕ → Judged
judged_by s p a key =
    tested
    (refuses (not (one_of s.inner.caller.world callers)) Reason.Unserved
    ∷ refuses (not (admitted p)) Reason.Unserved
    ∷ [])
    (found s.inner a key (handler s.ledger p.fast p.owner))

unfoldable pub judged : Sight → List ℕ → Judged
judged s xs = judged_by s (called_by xs) (args_of (called_by xs) xs) (key_of (identifier_of (get_or xs 0 0)))
