-- The sentence for each thing that is told in the end, and for the page that holds an address.
use Rattle.std.specs.Prelude.{◌≡◌, Bool, true, false, List, ℕ, ◌+◌, ◌/◌, ◌%◌, ◌≤◌, ◌<◌, ltb, None, Option, Some}
use Rattle.std.proofs.Math.Path.{refl}
use Rattle.std.proofs.Common.{sym, ◌∙◌, lt-ltb, le-ltb}
use Rattle.rules.specs.Choice.{pick, picked, passed}
use Rattle.rules.specs.Sizes.{most_mappings, most_pages}
use Rattle.cores.specs.Cores.{power, turn}
use Rattle.pages.specs.Window.{page_of}
use Rattle.pages.specs.Owners.{owner}
use Rattle.pages.specs.declared.Window.{Window}
use Rattle.mapping.specs.Lists.{place}
use Rattle.setup.specs.Table.{ready, window}
use Rattle.origins.specs.Origins.{origin}
use Rattle.origins.specs.Lines.{lines_in}
use Rattle.words.specs.Words as w
use Rattle.phrases.specs.Sentence.{blank}
use Rattle.phrases.specs.declared.Sentence.{Sentence}
use Rattle.standing.specs.Standing.{word_said, head_said, outside_said, core_said, range_said, mapping_said}
use Rattle.inventory.specs.declared.Thing.{Thing}
use Rattle.inventory.specs.declared.Thing.TheVariants.{Head, NoWindow, Core, Range, Held, NoMappings, End}

-- ---- what is said of each
unfoldable pub core_told : List ℕ → List ℕ → ℕ → Sentence
core_told p u core = core_said core (power p core) (turn u core).world

unfoldable pub range_told : List ℕ → List ℕ → List ℕ → ℕ → ℕ → Sentence
range_told s o t page end = range_said (window s) page end (owner o page) (origin t page)

unfoldable pub held_told : List ℕ → ℕ → Sentence
held_told l i = mapping_said (i / most_mappings) (place l (i / most_mappings) (i % most_mappings))

abbrev pub said : List ℕ → List ℕ → List ℕ → List ℕ → List ℕ → List ℕ → List ℕ → Thing → Sentence
said n s o t p u l Head = head_said (lines_in n)
said n s o t p u l NoWindow = word_said w.no_window
said n s o t p u l (Core core) = core_told p u core
said n s o t p u l (Range page end) = range_told s o t page end
said n s o t p u l (Held i) = held_told l i
said n s o t p u l NoMappings = word_said w.no_mappings
said n s o t p u l End = blank

-- ---- the page that holds an address
-- the page behind this one
unfoldable pub page_end : ℕ → ℕ
page_end page = pick (ltb page most_pages) (page + 1) page

abbrev pub page_at : List ℕ → List ℕ → List ℕ → ℕ → Option ℕ → Sentence
page_at s o t address (Some page) = range_told s o t page (page_end page)
page_at s o t address None = outside_said address

-- whose it is, and by which line
unfoldable pub page_told : List ℕ → List ℕ → List ℕ → ℕ → Sentence
page_told s o t address = pick (ready s) (page_at s o t address (page_of (window s) address)) (word_said w.no_window)

-- ---- how the code's branches meet these
module _ (n s o t p u l : List ℕ) (x : Thing) (r : Sentence) where
  pub said_head : (k : ℕ) → x ≡ Head → k ≡ lines_in n → r ≡ head_said k → r ≡ said n s o t p u l x
  said_head k e f h = rw (e, ← f) h

  pub said_alone : x ≡ NoWindow → r ≡ word_said w.no_window → r ≡ said n s o t p u l x
  said_alone e h = rw e h

  pub said_core : (core : ℕ) → x ≡ Core core → r ≡ core_told p u core → r ≡ said n s o t p u l x
  said_core core e h = rw e h

  pub said_range : (page end : ℕ) → x ≡ Range page end → r ≡ range_told s o t page end → r ≡ said n s o t p u l x
  said_range page end e h = rw e h

  pub said_held : (i : ℕ) → x ≡ Held i → r ≡ held_told l i → r ≡ said n s o t p u l x
  said_held i e h = rw e h

  pub said_none : x ≡ NoMappings → r ≡ word_said w.no_mappings → r ≡ said n s o t p u l x
  said_none e h = rw e h

  pub said_end : x ≡ End → r ≡ blank → r ≡ said n s o t p u l x
  said_end e h = rw e h

pub ruleset sayings = (said_head, said_alone, said_core, said_range, said_held, said_none, said_end)

-- ---- the page that holds an address
module _ (page : ℕ) where
  pub end_inside : page < most_pages → page + 1 ≡ page_end page
  unfolding page_end
  end_inside h = picked _ _ _ _ (lt-ltb page most_pages h) refl

  pub end_past : most_pages ≤ page → page ≡ page_end page
  unfolding page_end
  end_past h = passed _ _ _ _ (le-ltb page most_pages h) refl

pub ruleset page_ends = (end_inside, end_past)

module _ (s o t : List ℕ) (address : ℕ) (r : Sentence) (b : Bool) (is : b ≡ ready s) where
  pub page_none : b ≡ false → r ≡ word_said w.no_window → r ≡ page_told s o t address
  unfolding page_told
  page_none e h = passed _ _ _ _ (sym is ∙ e) h

  module _ (v : Window) (has : v ≡ window s) (p : Option ℕ) (lies : p ≡ page_of v address) (e : b ≡ true) where
    at_place : page_of (window s) address ≡ p
    at_place = sym (rw has at lies)

    pub page_inside : (page end : ℕ) → p ≡ Some page → end ≡ page_end page → r ≡ range_told s o t page end → r ≡ page_told s o t address
    unfolding page_told
    page_inside page end f g h = picked _ _ _ _ (sym is ∙ e) (rw (at_place, f) (rw g at h))

    pub page_outside : p ≡ None → r ≡ outside_said address → r ≡ page_told s o t address
    unfolding page_told
    page_outside f h = picked _ _ _ _ (sym is ∙ e) (rw (at_place, f) h)

pub ruleset pages_told = (page_none, page_inside, page_outside)

pub ruleset laws = (sayings, page_ends, pages_told)
