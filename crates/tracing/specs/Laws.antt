-- How the code meets the definitions of Traced.
use Rattle.std.specs.Prelude.{◌≡◌, refl, List, [], ℕ, None, Option}
use Rattle.std.proofs.Common.{ap}
use Rattle.spans.specs.Named.{Pages}
use Rattle.spans.specs.declared.Span.{Span}
use Rattle.rules.specs.Choice.{pick}
use Rattle.pages.specs.declared.Window.{Window}
use Rattle.parsing.specs.Frame.{is_call}
use Rattle.parsing.specs.declared.Frame.{Frame}
use Rattle.parsing.specs.declared.Frame.TheVariants as Frame
use Rattle.setup.specs.Table.{window}
use Rattle.frames.specs.Frames.{Machine, framed}
use Rattle.outcomes.specs.Outcomes.{came, taken}
use Rattle.outcomes.specs.declared.Came.{Came}
use Rattle.origins.specs.Origins.{marked}
use Rattle.origins.specs.Lines.{lines_in, one_more}
use Rattle.spans.specs.Spans.{named}
use Rattle.tracing.specs.Traced.{Kept, noted, after_line, traced_line}

-- ---- the pages of a span
module _ (t : List ℕ) (line : ℕ) (s : Option Span) where
  pub notes_run : (lowest count : ℕ) (t' : List ℕ) → s ≡ Pages lowest count → t' ≡ marked t lowest count line → t' ≡ noted t line s
  unfolding noted
  notes_run lowest count t' e h = rw e h

  pub notes_none : s ≡ None → t ≡ noted t line s
  unfolding noted
  notes_none e = rw e

pub ruleset notes = (notes_run, notes_none)

-- ---- a line
pub line_traced : (m m' : Machine) (o o' l l' : List ℕ) (f : Frame) (xs : List ℕ) (w : Window) (c : Came) (s : Option Span) (n : ℕ)
    → w ≡ window m.setup → (m', c) ≡ taken m f xs → l' ≡ one_more l → n ≡ lines_in l' → s ≡ named w f xs c → o' ≡ noted o n s
    → ((m', (o', l')), c) ≡ traced_line (m, (o, l)) (f, xs)
unfolding traced_line after_line
line_traced m m' o o' l l' f xs w c s n a b d e g h =
    let y : m' ≡ (framed m f xs).0 = ap (λ (q : Machine × Came). q.0) b in
    let z : c ≡ came m f xs = ap (λ (q : Machine × Came). q.1) b in
    rw (h, g, e, d, a, y, z)

-- ---- the numbers beside a frame that is no call are not looked at
pub came_idle : (m : Machine) (f : Frame) (ys : List ℕ) → came m f (pick (is_call f) ys []) ≡ came m f ys
unfolding came pick
came_idle m (Frame.Site base pages cores) ys = refl
came_idle m (Frame.Entry lowest last kind number) ys = refl
came_idle m (Frame.Name lowest count to) ys = refl
came_idle m (Frame.Call core) ys = refl
came_idle m (Frame.Arrival core) ys = refl
came_idle m (Frame.Refused why) ys = refl

pub line_idle : (k : Kept) (f : Frame) (ys : List ℕ) → after_line k (f, pick (is_call f) ys []) ≡ after_line k (f, ys)
unfolding after_line framed came named pick
line_idle k (Frame.Site base pages cores) ys = refl
line_idle k (Frame.Entry lowest last kind number) ys = refl
line_idle k (Frame.Name lowest count to) ys = refl
line_idle k (Frame.Call core) ys = refl
line_idle k (Frame.Arrival core) ys = refl
line_idle k (Frame.Refused why) ys = refl
