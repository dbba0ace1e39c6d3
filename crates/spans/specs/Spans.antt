-- Which pages a line is about: those that it names an owner for, and those whose transfer a call asks for.
use Rattle.std.specs.Prelude.{Bool, true, false, ◌&&◌, List, ℕ, ◌+◌, ◌*◌, ◌/◌, eqb, ltb, None, Option, Some}
use Rattle.spans.specs.Named.{Pages}
use Rattle.spans.specs.declared.Span.{Span}
use Rattle.judgements.specs.declared.Transfer.{Transfer}
use Rattle.rules.specs.Choice.{pick}
use Rattle.rules.specs.Sizes.{page_size}
use Rattle.pages.specs.Window.{run_of}
use Rattle.pages.specs.declared.Window.{Window}
use Rattle.judgements.specs.Judge.{called_by, args_of, row_of}
use Rattle.judgements.specs.Asked.{key}
use Rattle.judgements.specs.declared.Args.{Args}
use Rattle.judgements.specs.declared.Answer.{Answer}
use Rattle.judgements.specs.declared.Answer.TheVariants as Answer
use Rattle.parsing.specs.Frame.{status_byte}
use Rattle.parsing.specs.declared.Frame.{Frame}
use Rattle.parsing.specs.declared.Frame.TheVariants as Frame
use Rattle.outcomes.specs.declared.Came.{Came}
use Rattle.outcomes.specs.declared.Came.TheVariants.{Told, Called}

-- ---- the transfer that a call asks for
-- the one row or, where it is none, the other
abbrev pub or_else : Option Transfer → Option Transfer → Option Transfer
or_else (Some t) r = Some t
or_else None r = r

-- by its identifier alone: two handlers know some, and no identifier is known to both
unfoldable pub any_row : Args → ℕ → Option Transfer
any_row a key = or_else (row_of a 2 key) (row_of a 1 key)

-- the run that lies there
abbrev pub lying : Option ℕ → ℕ → Option Span
lying (Some first) count = Pages first count
lying None count = None

abbrev pub span_of : Window → ℕ → ℕ → Option Span
span_of w start count = lying (run_of w start count) count

abbrev pub span_by : Window → Args → Option Transfer → Option Span
span_by w a (Some t) = span_of w a.x1 t.count
span_by w a None = None

unfoldable pub asked_by : Window → List ℕ → Option Span
asked_by w xs = let a = args_of (called_by xs) xs in span_by w a (any_row a (key xs))

-- ---- the pages for which a line names an owner
-- the call is granted, with nothing to tell
abbrev pub is_done : Answer → Bool
is_done Answer.Version = false
is_done Answer.PowerVersion = false
is_done Answer.Done = true
is_done Answer.On = false
is_done Answer.Off = false
is_done Answer.Pending = false
is_done (Answer.Owns is) = false
is_done (Answer.Leads phys attr) = false
is_done (Answer.Count n) = false
is_done Answer.Silent = false
is_done (Answer.No r) = false

abbrev pub named_in : Frame → Option Span
named_in (Frame.Site base pages cores) = None
named_in (Frame.Entry first last kind number) = None
named_in (Frame.Name first count to) = Pages first count
named_in (Frame.Call core) = None
named_in (Frame.Arrival core) = None
named_in (Frame.Refused why) = None

-- a set-up line that is accepted, with status 00, or a transfer that is granted
unfoldable pub named : Window → Frame → List ℕ → Came → Option Span
named w f xs (Told why) = pick (eqb (status_byte why) 0) (named_in f) None
named w f xs (Called made) = pick (is_done made.answer) (asked_by w xs) None

-- ---- the pages whose transfer a call asks for
-- of some pages from `start` on, an address lies in the page that holds this one
unfoldable pub over_page : ℕ → ℕ → ℕ → Bool
over_page address start count = let at = address / page_size * page_size in ltb 0 count && (ltb start (at + page_size) && ltb at (start + count * page_size))

abbrev pub over_by : ℕ → Args → Option Transfer → Bool
over_by address a (Some t) = over_page address a.x1 t.count
over_by address a None = false

-- wherever they lie
unfoldable pub asks_over : ℕ → List ℕ → Bool
asks_over address xs = let a = args_of (called_by xs) xs in over_by address a (any_row a (key xs))

-- the call is granted or refused, and not handed over
abbrev pub is_verdict : Answer → Bool
is_verdict Answer.Version = false
is_verdict Answer.PowerVersion = false
is_verdict Answer.Done = true
is_verdict Answer.On = false
is_verdict Answer.Off = false
is_verdict Answer.Pending = false
is_verdict (Answer.Owns is) = false
is_verdict (Answer.Leads phys attr) = false
is_verdict (Answer.Count n) = false
is_verdict Answer.Silent = false
is_verdict (Answer.No r) = true

-- a page of the window is asked for, by an address in it
abbrev pub asks_for : Option ℕ → ℕ → List ℕ → Answer → Bool
asks_for (Some page) address xs a = is_verdict a && asks_over address xs
asks_for None address xs a = false
