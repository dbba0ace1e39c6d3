-- What makes a line one of a page's history, in plain numbers: it names the page in set-up, asks for the transfer of one of its addresses and is granted or refused, or maps it or unmaps it.
use Rattle.std.specs.Prelude.{◌≡◌, ℕ, ◌+◌, ◌*◌, ◌≤◌, ◌<◌, Some}
use Rattle.rules.specs.Sizes.{page_size}
use Rattle.rules.specs.declared.Reason.{Reason}
use Rattle.pages.specs.Window.{page_of}
use Rattle.ranges.specs.declared.Mapping.{Mapping}
use Rattle.mapping.specs.Lists.{held}
use Rattle.mapping.specs.Entries.{Among}
use Rattle.mapping.specs.Sound.{page_start}
use Rattle.judgements.specs.Names.{granule_to_realm, granule_to_normal, take_pages, give_pages}
use Rattle.judgements.specs.Judge.{called_by, args_of}
use Rattle.judgements.specs.Asked.{key}
use Rattle.judgements.specs.declared.Answer.{Answer}
use Rattle.judgements.specs.declared.Answer.TheVariants as Answer
use Rattle.judgements.specs.declared.Args.{Args}
use Rattle.judgements.specs.declared.Deed.TheVariants.{Map, Unmap}
use Rattle.calls.specs.Step.{caller_of}
use Rattle.calls.specs.Effects.{answer_in, deed_in}
use Rattle.parsing.specs.declared.Frame.TheVariants as Frame
use Rattle.setup.specs.Table.{window}
use Rattle.frames.specs.Frames.{Machine, state_of}
use Rattle.guarantees.specs.Runs.{Event, reply, Taken}
use Rattle.guarantees.specs.Named.{Names}

-- the identifier of a call for a transfer, and how many pages it asks for
pub data Wants (a : Args) : ℕ → ℕ → Type 0 where
  page_to_realm : Wants a granule_to_realm 1
  page_to_normal : Wants a granule_to_normal 1
  takes_pages : Wants a take_pages a.x2
  gives_pages : Wants a give_pages a.x2

-- it is granted, or refused
pub data Settled : Answer → Type 0 where
  is_granted : Settled Answer.Done
  is_refused : (r : Reason) → Settled (Answer.No r)

-- ---- the lines about a page
module _ (m : Machine) (e : Event) (page : ℕ) where
  abbrev args_of_call : Args
  args_of_call = args_of (called_by e.1) e.1

  -- An accepted call asks for the transfer of pages, an address of which lies in this page, and is granted or refused.
  pub record AsksPage : Type 0 where
    pub core : ℕ
    pub is_call : e.0 ≡ Frame.Call core
    pub accepted : Taken (reply m e)
    pub count : ℕ
    pub wants : Wants args_of_call (key e.1) count
    pub x : ℕ
    pub low : args_of_call.x1 ≤ x
    pub high : x < args_of_call.x1 + count * page_size
    pub lies : page_of (window m.setup) x ≡ Some page
    pub settled : Settled (answer_in (state_of m) core e.1)

  -- An accepted call makes a mapping of this page,
  pub record MapsPage : Type 0 where
    pub core : ℕ
    pub is_call : e.0 ≡ Frame.Call core
    pub accepted : Taken (reply m e)
    pub mapping : Mapping
    pub made : deed_in (state_of m) core e.1 ≡ Map mapping
    pub low : mapping.phys ≤ page_start (window m.setup) page
    pub high : page_start (window m.setup) page < mapping.phys + mapping.size

  -- or removes one that its caller has.
  pub record UnmapsPage : Type 0 where
    pub core : ℕ
    pub is_call : e.0 ≡ Frame.Call core
    pub accepted : Taken (reply m e)
    pub mapping : Mapping
    pub had : Among mapping (held m.lists (caller_of (state_of m) core))
    pub removed : deed_in (state_of m) core e.1 ≡ Unmap mapping.virt mapping.size
    pub low : mapping.phys ≤ page_start (window m.setup) page
    pub high : page_start (window m.setup) page < mapping.phys + mapping.size

  pub data About : Type 0 where
    names_it : {to : ℕ} → Names m e page to → About
    asks_it : AsksPage → About
    maps_it : MapsPage → About
    unmaps_it : UnmapsPage → About
