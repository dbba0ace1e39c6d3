-- How the code's branches meet the definitions of Views: one law for each outcome.
use Rattle.std.specs.Prelude.{◌≡◌, Bool, List, [], ℕ, ◌+◌, ◌-◌, ◌/◌, ◌≤◌, ◌<◌, ltb, eqb, None, Option, Some}
use Rattle.std.proofs.Math.Path.{refl, sym}
use Rattle.std.proofs.Common.{ap, ◌∙◌, arith}
use Rattle.std.proofs.Math.Bool.{true, false}
use borrow.Author.Tests.{le-leb, lt-leb, lt-ltb, le-ltb, ltb-true, ltb-false, eq-eqb, ne_eqb}
use Rattle.spans.specs.declared.Span.{Span}
use Rattle.mapping.specs.declared.Lead.{Lead}
use Rattle.rules.specs.Choice.{pick, picked, passed, either, first_or}
use Rattle.rules.specs.Sizes.{page_size}
use Rattle.calls.specs.declared.Made.{Made}
use Rattle.cores.specs.Cores.{turn}
use Rattle.cores.specs.declared.Turn.{Turn}
use Rattle.pages.specs.Window.{page_of}
use Rattle.pages.specs.declared.Window.{Window}
use Rattle.ranges.specs.declared.Mapping.{Mapping}
use Rattle.mapping.specs.Lists.{held}
use Rattle.mapping.specs.Mapping.{lead_of}
use Rattle.judgements.specs.Names.{map_pages, unmap_pages}
use Rattle.judgements.specs.Judge.{called_by, args_of}
use Rattle.judgements.specs.Asked.{key}
use Rattle.judgements.specs.declared.Request.{Request}
use Rattle.judging.specs.Laws.{request_of}
use Rattle.parsing.specs.Frame.{is_call}
use Rattle.parsing.specs.declared.Status.{Status}
use Rattle.parsing.specs.declared.Frame.{Frame}
use Rattle.parsing.specs.declared.Frame.TheVariants as Frame
use Rattle.setup.specs.Table.{window}
use Rattle.frames.specs.Frames.{Machine, framed}
use Rattle.outcomes.specs.Outcomes.{came}
use Rattle.outcomes.specs.declared.Came.{Came}
use Rattle.outcomes.specs.declared.Came.TheVariants.{Told, Called}
use Rattle.spans.specs.Spans.{span_of, is_done, named, asks_for}
use Rattle.tracing.specs.Traced.{Kept, after_line, traced_line}
use Rattle.views.specs.Views.{holds, mapped_in, mapped_by, about, shows, seen_line}
use Rattle.views.specs.declared.View.{View}
use Rattle.views.specs.declared.View.TheVariants as View

-- ---- a page of a span
module _ (s : Option Span) (p : Option ℕ) where
  pub holds_none : s ≡ None → false ≡ holds s p
  unfolding holds
  holds_none e = rw e (none p)
    where
      none : (p : Option ℕ) → false ≡ holds None p
      none (Some page) = refl
      none None = refl

  module _ (v : Span) (e : s ≡ Some v) where
    pub holds_outside : p ≡ None → false ≡ holds s p
    unfolding holds
    holds_outside f = rw (e, f)

    module _ (page : ℕ) (f : p ≡ Some page) where
      pub holds_before : page < v.first → false ≡ holds s p
      unfolding holds
      holds_before h = rw (e, f, lt-leb v.first page h)

      pub holds_inside : v.first ≤ page → ltb (page - v.first) v.count ≡ holds s p
      unfolding holds
      holds_inside h =
          rw (e, f, le-leb v.first page h)
          (either (ltb (page - v.first) v.count)
          (λ y. y ∙ sym (lt-ltb page (v.first + v.count) (omega (arith, ltb-true (page - v.first) v.count y))))
          (λ n. n ∙ sym (le-ltb page (v.first + v.count) (omega (arith, ltb-false (page - v.first) v.count n)))))

pub ruleset holdings = (holds_none, holds_outside, holds_before, holds_inside)

-- ---- the pages of a mapping
module _ (w : Window) (own : List Mapping) (xs : List ℕ) (q : Request) (is : q ≡ request_of xs) (s : Option Span) where
  pub maps_pages : q.key ≡ map_pages → s ≡ span_of w q.args.x1 (q.args.x3 / page_size) → s ≡ mapped_in w own xs
  unfolding mapped_in
  maps_pages e h = picked _ _ _ _ (eq-eqb (key xs) map_pages (rw is at e)) (rw is at h)

  module _ (n : q.key ≡ map_pages → ⊥) where
    not_map : eqb (key xs) map_pages ≡ false
    not_map = ne_eqb (key xs) map_pages (λ z. n (rw is z))

    module _ (l : Option Lead) (leads : l ≡ lead_of own q.args.x1) (e : q.key ≡ unmap_pages) where
      pub unmaps_pages : (v : Lead) → l ≡ Some v → s ≡ span_of w v.phys (q.args.x2 / page_size) → s ≡ mapped_in w own xs
      unfolding mapped_in
      unmaps_pages v f h =
          let z : lead_of own (args_of (called_by xs) xs).x1 ≡ Some v = sym (rw is at leads) ∙ f in
          passed _ _ _ _ not_map (picked _ _ _ _ (eq-eqb (key xs) unmap_pages (rw is at e)) (rw z (rw is at h)))

      pub unmaps_none : l ≡ None → s ≡ None → s ≡ mapped_in w own xs
      unfolding mapped_in
      unmaps_none f h =
          let z : lead_of own (args_of (called_by xs) xs).x1 ≡ None = sym (rw is at leads) ∙ f in
          passed _ _ _ _ not_map (picked _ _ _ _ (eq-eqb (key xs) unmap_pages (rw is at e)) (rw z h))

    pub maps_none : (q.key ≡ unmap_pages → ⊥) → s ≡ None → s ≡ mapped_in w own xs
    unfolding mapped_in
    maps_none m h = passed _ _ _ _ not_map (passed _ _ _ _ (ne_eqb (key xs) unmap_pages (λ z. m (rw is z))) h)

pub ruleset mappings = (maps_pages, unmaps_pages, unmaps_none, maps_none)

module _ (w : Window) (f : Frame) (xs turns lists : List ℕ) (s : Option Span) where
  pub by_call : (core : ℕ) (t : Turn) → f ≡ Frame.Call core → t ≡ turn turns core → s ≡ mapped_in w (held lists t.world) xs → s ≡ mapped_by w f xs turns lists
  by_call core t e h g = rw e (rw h at g)

  pub by_site : (base pages cores : ℕ) → f ≡ Frame.Site base pages cores → s ≡ None → s ≡ mapped_by w f xs turns lists
  by_site base pages cores e h = rw e h

  pub by_entry : (first last kind number : ℕ) → f ≡ Frame.Entry first last kind number → s ≡ None → s ≡ mapped_by w f xs turns lists
  by_entry first last kind number e h = rw e h

  pub by_name : (first count to : ℕ) → f ≡ Frame.Name first count to → s ≡ None → s ≡ mapped_by w f xs turns lists
  by_name first count to e h = rw e h

  pub by_arrival : (core : ℕ) → f ≡ Frame.Arrival core → s ≡ None → s ≡ mapped_by w f xs turns lists
  by_arrival core e h = rw e h

  pub by_refused : (why : Status) → f ≡ Frame.Refused why → s ≡ None → s ≡ mapped_by w f xs turns lists
  by_refused why e h = rw e h

pub ruleset by_frames = (by_site, by_entry, by_name, by_call, by_arrival, by_refused)

-- ---- a line about a page
module _ (p : Option ℕ) (address : ℕ) (w : Window) (f : Frame) (xs : List ℕ) (c : Came) (mapped : Option Span) (r : Bool) where
  pub about_told : (why : Status) (s : Option Span) → c ≡ Told why → s ≡ named w f xs c → r ≡ holds s p → r ≡ about p address w f xs c mapped
  unfolding about
  about_told why s e g h = rw e (rw (g, e) at h)

  module _ (made : Made) (e : c ≡ Called made) (b : Bool) (g : b ≡ asks_for p address xs made.answer) where
    pub about_asked : b ≡ true → r ≡ true → r ≡ about p address w f xs c mapped
    unfolding about
    about_asked y z = rw e (z ∙ sym (first_or (asks_for p address xs made.answer) _ (sym g ∙ y)))

    module _ (d : Bool) (i : d ≡ is_done made.answer) (n : b ≡ false) where
      pub about_mapped : d ≡ true → r ≡ holds mapped p → r ≡ about p address w f xs c mapped
      unfolding about
      about_mapped y z = let k : asks_for p address xs made.answer ≡ false = sym g ∙ n in let j : is_done made.answer ≡ true = sym i ∙ y in rw (e, k, j) z

      pub about_nothing : d ≡ false → r ≡ false → r ≡ about p address w f xs c mapped
      unfolding about
      about_nothing y z = let k : asks_for p address xs made.answer ≡ false = sym g ∙ n in let j : is_done made.answer ≡ false = sym i ∙ y in rw (e, k, j) z

pub ruleset abouts = (about_told, about_asked, about_mapped, about_nothing)

-- ---- what is shown
module _ (v : View) (w : Window) (f : Frame) (xs : List ℕ) (c : Came) (mapped : Option Span) (r : Bool) where
  pub shows_all : v ≡ View.All → r ≡ true → r ≡ shows v w f xs c mapped
  unfolding shows
  shows_all e h = rw e h

  pub shows_page : (address : ℕ) (p : Option ℕ) → v ≡ View.Page address → p ≡ page_of w address → r ≡ about p address w f xs c mapped → r ≡ shows v w f xs c mapped
  unfolding shows
  shows_page address p e g h = rw e (rw g at h)

  pub shows_map : v ≡ View.Map → r ≡ false → r ≡ shows v w f xs c mapped
  unfolding shows
  shows_map e h = rw e h

pub ruleset showing = (shows_all, shows_page, shows_map)

pub line_seen : (v : View) (m m' : Machine) (o o' l l' : List ℕ) (f : Frame) (xs : List ℕ) (w : Window) (mapped : Option Span) (c : Came) (b : Bool)
    → w ≡ window m.setup → mapped ≡ mapped_by w f xs m.turns m.lists → ((m', (o', l')), c) ≡ traced_line (m, (o, l)) (f, xs) → b ≡ shows v w f xs c mapped
    → ((m', (o', l')), record { came = c; shown = b }) ≡ seen_line v (m, (o, l)) (f, xs)
unfolding seen_line traced_line
line_seen v m m' o o' l l' f xs w mapped c b a d e h =
    let y : (m', (o', l')) ≡ (traced_line (m, (o, l)) (f, xs)).0 = ap (λ (q : Kept × Came). q.0) e in
    let z : c ≡ came m f xs = ap (λ (q : Kept × Came). q.1) e in
    rw (h, d, a, z, y)

-- ---- the numbers beside a frame that is no call are not looked at
pub seen_idle : (v : View) (k : Kept) (f : Frame) (ys : List ℕ) → seen_line v k (f, pick (is_call f) ys []) ≡ seen_line v k (f, ys)
unfolding seen_line after_line framed came shows about named pick
seen_idle v k (Frame.Call core) ys = refl
seen_idle View.All k (Frame.Site base pages cores) ys = refl
seen_idle View.Map k (Frame.Site base pages cores) ys = refl
seen_idle (View.Page address) k (Frame.Site base pages cores) ys = refl
seen_idle View.All k (Frame.Entry first last kind number) ys = refl
seen_idle View.Map k (Frame.Entry first last kind number) ys = refl
seen_idle (View.Page address) k (Frame.Entry first last kind number) ys = refl
seen_idle View.All k (Frame.Name first count to) ys = refl
seen_idle View.Map k (Frame.Name first count to) ys = refl
seen_idle (View.Page address) k (Frame.Name first count to) ys = refl
seen_idle View.All k (Frame.Arrival core) ys = refl
seen_idle View.Map k (Frame.Arrival core) ys = refl
seen_idle (View.Page address) k (Frame.Arrival core) ys = refl
seen_idle View.All k (Frame.Refused why) ys = refl
seen_idle View.Map k (Frame.Refused why) ys = refl
seen_idle (View.Page address) k (Frame.Refused why) ys = refl
