-- Nothing is done but what a call asks for: each deed by the handler that the call reaches, its identifier and its arguments.
use Rattle.std.specs.Prelude.{◌≡◌, false, List, ◌⊎◌, get_or, Ok, Result, Some}
use Rattle.std.proofs.Math.Bool.{true}
use Prim.Native.Nat.{ℕ, ◌≤◌}
use Rattle.rules.specs.Choice.{pick, either}
use Rattle.rules.specs.Choice as Choice
use Rattle.rules.specs.Tests.{sieve}
use Rattle.rules.specs.declared.Reason.{Reason}
use Rattle.rules.specs.declared.Reason.TheVariants as Reason
use Rattle.identifiers.specs.Identifier.{identifier_of, key_of, admitted}
use Rattle.ledger.specs.Ledger.{handler}
use Rattle.pages.specs.Window.{run_of}
use Rattle.pages.specs.declared.Window.{Window}
use Rattle.ranges.specs.declared.Mapping.{Mapping}
use Rattle.transfers.specs.Transfer.{transfer_verdict}
use Rattle.transfers.proofs.Granted.{transfer_granted}
use Rattle.rules.specs.Sizes.{secure, normal, realm}
use Rattle.judgements.specs.Names.{core_off, core_start, core_start_wide, map_pages, unmap_pages, where_leads, count_on}
use Rattle.judgements.specs.Judge.{Sight, denied, one_of, callers, wanted, called_by, row_of, judged_by, judged}
use Rattle.judgements.specs.declared.Answer.{Answer}
use Rattle.judgements.specs.declared.Answer.TheVariants as Answer
use Rattle.judgements.specs.declared.Deed.{Deed}
use Rattle.judgements.specs.declared.Deed.TheVariants.{Nothing, Move, Map, Unmap, Start, GoOff, HandOver, Finish}
use Rattle.judgements.specs.declared.Args.{Args}
use Rattle.judgements.specs.declared.Transfer.{Transfer}
use Rattle.judgements.specs.declared.Caller.{Caller}

-- ---- what a call asks for, by the handler that it reaches and its identifier
-- a transfer: the start, the number of pages, and the world that takes them
pub data Asks (v : Caller) (a : Args) (h key : ℕ) : ℕ → ℕ → ℕ → Type 0 where
  by_row_lem : (t : Transfer) → row_of a h key ≡ Some t → Asks v a h key a.x1 t.count (pick t.takes v.world normal)

-- such a transfer of the run from this page on
pub record AsksAt (v : Caller) (a : Args) (h key first count to : ℕ) : Type 0 where
  pub start : ℕ
  pub asks : Asks v a h key start count to
  pub lies : run_of v.window start count ≡ Some first

-- a hand-over to a world
pub data HandsTo : ℕ → ℕ → ℕ → Type 0 where
  to_secure : (key : ℕ) → (key ≡ 0xF2000000 → ⊥) → HandsTo 3 key secure
  to_realm : (key : ℕ) → 0xC4000150 ≤ key → key ≤ 0xC400018E → HandsTo 2 key realm

-- a finish by a world
pub data Finishes : ℕ → ℕ → ℕ → Type 0 where
  by_secure : Finishes 3 0xF2000000 secure
  by_realm : Finishes 2 0xC400018F realm

-- an answer for which nothing is done: where an address leads, and how many cores are ON, is told to the call that asks for it alone
abbrev pub Tells : ℕ → ℕ → Answer → Type 0
Tells h key Answer.Version = Unit {0}
Tells h key Answer.PowerVersion = Unit {0}
Tells h key Answer.Done = Unit {0}
Tells h key Answer.On = Unit {0}
Tells h key Answer.Off = Unit {0}
Tells h key Answer.Pending = Unit {0}
Tells h key (Answer.Owns is) = Unit {0}
Tells h key (Answer.Leads phys attr) = (h ≡ 1) × (key ≡ where_leads)
Tells h key (Answer.Count n) = (h ≡ 1) × (key ≡ count_on)
Tells h key Answer.Silent = Unit {0}
Tells h key (Answer.No r) = Unit {0}

-- what is done, and how it is answered, is what such a call asks for
abbrev pub CalledFor : Caller → Args → ℕ → ℕ → Deed → Answer → Type 0
CalledFor v a h key Nothing r = Tells h key r
CalledFor v a h key (Move first count to) r = AsksAt v a h key first count to × (r ≡ Answer.Done)
CalledFor v a h key (Map m) r = ((h ≡ 1) × (key ≡ map_pages)) × ((m ≡ wanted a) × (r ≡ Answer.Done))
CalledFor v a h key (Unmap virt size) r = ((h ≡ 1) × (key ≡ unmap_pages)) × (((virt ≡ a.x1) × (size ≡ a.x2)) × (r ≡ Answer.Done))
CalledFor v a h key (Start core start context) r = ((h ≡ 2) × ((key ≡ core_start) ⊎ (key ≡ core_start_wide))) × (((core ≡ a.x1) × ((start ≡ a.x2) × (context ≡ a.x3))) × (r ≡ Answer.Done))
CalledFor v a h key GoOff r = ((h ≡ 2) × (key ≡ core_off)) × (r ≡ Answer.Silent)
CalledFor v a h key (HandOver to) r = HandsTo h key to × (r ≡ Answer.Silent)
CalledFor v a h key Finish r = Finishes h key v.world × (r ≡ Answer.Silent)

-- ---- where the run of a granted transfer lies
abbrev pub Lies : Window → Result ℕ Reason → ℕ → ℕ → Type 0
Lies w v start count = (first : ℕ) → v ≡ Ok first → run_of w start count ≡ Some first

module _ (w : Window) (o : List ℕ) (list : List Mapping) (from start count : ℕ) where
  pub lies : Lies w (transfer_verdict w o list from start count) start count
  lies first g = (transfer_granted w o list from start count first g).0.lies

-- ---- the whole judgement
-- what a call goes by: its identifier, of a fast call without the hint
abbrev pub key : List ℕ → ℕ
key xs = key_of (identifier_of (get_or xs 0 0))

-- the call passes the test on bits 23 to 17, and the ledger sends its type and owner to a handler, of which this is so
pub record Reached (s : Sight) (xs : List ℕ) (P : ℕ → Type 0) : Type 0 where
  pub passes : admitted (called_by xs) ≡ true
  pub number : ℕ
  pub reached : handler s.ledger (called_by xs).fast (called_by xs).owner ≡ Some number
  pub so : P number

-- A call whose bits 23 to 17 do not pass it is refused, whatever its owner.
pub judged_reserved : (s : Sight) (xs : List ℕ) → admitted (called_by xs) ≡ false → judged s xs ≡ denied Reason.Unserved
unfolding judged judged_by sieve pick
judged_reserved s xs e = either (one_of s.inner.caller.world callers) (λ y. rw (y, e)) (λ n. rw n)
