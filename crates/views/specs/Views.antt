-- Which lines of a run are shown: all of them, those about one page, or none.
use Rattle.std.specs.Prelude.{Bool, true, false, ◌&&◌, ◌||◌, List, ℕ, ◌+◌, ◌/◌, leb, ltb, eqb, None, Option, Some}
use Rattle.spans.specs.Named.{Pages}
use Rattle.spans.specs.declared.Span.{Span}
use Rattle.mapping.specs.Leads.{To}
use Rattle.mapping.specs.declared.Lead.{Lead}
use Rattle.rules.specs.Choice.{pick}
use Rattle.rules.specs.Sizes.{page_size}
use Rattle.cores.specs.Cores.{turn}
use Rattle.pages.specs.Window.{page_of}
use Rattle.pages.specs.declared.Window.{Window}
use Rattle.ranges.specs.declared.Mapping.{Mapping}
use Rattle.mapping.specs.Lists.{held}
use Rattle.mapping.specs.Mapping.{lead_of}
use Rattle.judgements.specs.Names.{map_pages, unmap_pages}
use Rattle.judgements.specs.Judge.{called_by, args_of}
use Rattle.judgements.specs.Asked.{key}
use Rattle.parsing.specs.declared.Frame.{Frame}
use Rattle.parsing.specs.declared.Frame.TheVariants as Frame
use Rattle.setup.specs.Table.{window}
use Rattle.frames.specs.Frames.{Machine}
use Rattle.outcomes.specs.Outcomes.{came}
use Rattle.outcomes.specs.declared.Came.{Came}
use Rattle.outcomes.specs.declared.Came.TheVariants.{Told, Called}
use Rattle.spans.specs.Spans.{span_of, is_done, named, asks_for}
use Rattle.tracing.specs.Traced.{Kept, after_line}
use Rattle.views.specs.declared.View.{View}
use Rattle.views.specs.declared.View.TheVariants as View
use Rattle.views.specs.declared.Seen.{Seen}

-- the page is one of these
unfoldable pub holds : Option Span → Option ℕ → Bool
holds (Some s) (Some page) = leb s.first page && ltb page (s.first + s.count)
holds (Some s) None = false
holds None (Some page) = false
holds None None = false

-- ---- the pages that a call maps or unmaps
-- where an address leads
abbrev pub led_to : Window → Option Lead → ℕ → Option Span
led_to w (Some d) count = span_of w d.phys count
led_to w None count = None

-- by the caller's mappings before it: a map names them, and an unmap those that its address leads to
unfoldable pub mapped_in : Window → List Mapping → List ℕ → Option Span
mapped_in w own xs =
    let a = args_of (called_by xs) xs in
    pick (eqb (key xs) map_pages) (span_of w a.x1 (a.x3 / page_size))
    (pick (eqb (key xs) unmap_pages) (led_to w (lead_of own a.x1) (a.x2 / page_size)) None)

abbrev pub mapped_by : Window → Frame → List ℕ → List ℕ → List ℕ → Option Span
mapped_by w (Frame.Site base pages cores) xs turns lists = None
mapped_by w (Frame.Entry first last kind number) xs turns lists = None
mapped_by w (Frame.Name first count to) xs turns lists = None
mapped_by w (Frame.Call core) xs turns lists = mapped_in w (held lists (turn turns core).world) xs
mapped_by w (Frame.Arrival core) xs turns lists = None
mapped_by w (Frame.Refused why) xs turns lists = None

-- ---- the lines about a page
-- those that name its owner, those that ask for its transfer, whether it is granted or refused, and those that map or unmap it
unfoldable pub about : Option ℕ → ℕ → Window → Frame → List ℕ → Came → Option Span → Bool
about p address w f xs (Told why) mapped = holds (named w f xs (Told why)) p
about p address w f xs (Called made) mapped = asks_for p address xs made.answer || (is_done made.answer && holds mapped p)

-- ---- what is shown
unfoldable pub shows : View → Window → Frame → List ℕ → Came → Option Span → Bool
shows View.All w f xs c mapped = true
shows (View.Page address) w f xs c mapped = about (page_of w address) address w f xs c mapped
shows View.Map w f xs c mapped = false

-- a line, as the machine that it meets has it
abbrev pub shown : View → Machine → Frame × List ℕ → Bool
shown v m e =
    let w = window m.setup in
    shows v w e.0 e.1 (came m e.0 e.1) (mapped_by w e.0 e.1 m.turns m.lists)

-- what is kept after a line, what came of it, and whether it is shown
unfoldable pub seen_line : View → Kept → Frame × List ℕ → Kept × Seen
seen_line v k e = (after_line k e, record { came = came k.0 e.0 e.1; shown = shown v k.0 e })
