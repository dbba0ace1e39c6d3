-- The sentence of a line: its number, who speaks on which core, what is asked, and what came of it.
use Rattle.std.specs.Prelude.{◌≡◌, Bool, List, ℕ}
use Rattle.parsing.specs.declared.Status.{Status}
use Rattle.parsing.specs.declared.Status.TheVariants.{Accepted, NoHex, Unknown, Misplaced, OutOfRange, Clash}
use Rattle.parsing.specs.declared.Frame.{Frame}
use Rattle.parsing.specs.declared.Frame.TheVariants as Frame
use Rattle.outcomes.specs.declared.Came.{Came}
use Rattle.outcomes.specs.declared.Came.TheVariants.{Told, Called}
use Rattle.calls.specs.declared.Made.{Made}
use Rattle.words.specs.Words as w
use Rattle.phrases.specs.Sentence.{◌▹◌}
use Rattle.phrases.specs.declared.Piece.TheVariants.{Word, Number, Column}
use Rattle.phrases.specs.declared.Sentence.{Sentence}
use Rattle.asking.specs.Names.{named}
use Rattle.asking.specs.Forms.{asked, done_word}
use Rattle.asking.specs.declared.Known.TheVariants.{World}
use Rattle.setup_words.specs.SetUp.{opening, site_asked, entry_asked, name_asked}
use Rattle.outcome_words.specs.Came.{came_said, handed}

-- ---- a core
abbrev pub on_core : ℕ → ℕ → Sentence
on_core n core = opening n ▹ Word w.core ▹ Number core

-- who calls: a world, where the call was accepted
abbrev pub speaker : ℕ → ℕ → Came → Sentence
speaker n core (Told why) = on_core n core ▹ Column 22
speaker n core (Called made) = named (on_core n core ▹ Column 14) World made.caller ▹ Word w.colon ▹ Column 22

abbrev pub arrival_said : ℕ → ℕ → Sentence
arrival_said n core = on_core n core ▹ Column 22 ▹ Word w.arrives

-- ---- no frame: what the line is
abbrev pub line_of : Status → ℕ
line_of Accepted = w.no_kind
line_of NoHex = w.no_pairs
line_of Unknown = w.no_kind
line_of Misplaced = w.no_kind
line_of OutOfRange = w.no_kind
line_of Clash = w.no_kind

abbrev pub no_frame : ℕ → Status → Sentence
no_frame n why = opening n ▹ Word w.no_frame ▹ Column 22 ▹ Word (line_of why)

-- ---- any line
unfoldable pub sentence_of : ℕ → Frame → List ℕ → Came → ℕ → Sentence
sentence_of n (Frame.Site base pages cores) xs came now = came_said (site_asked n base pages cores) w.accepted w.out_of_range w.out_of_range w.granted came now
sentence_of n (Frame.Entry first last kind handler) xs came now = came_said (entry_asked n first last kind handler) w.accepted w.out_of_range w.given_before w.granted came now
sentence_of n (Frame.Name first count owner) xs came now = came_said (name_asked n first count owner) w.accepted w.out_of_range w.named_before w.granted came now
sentence_of n (Frame.Call core) xs came now = came_said (asked (speaker n core came) (handed came now) xs) w.accepted w.no_core w.not_on (done_word xs) came now
sentence_of n (Frame.Arrival core) xs came now = came_said (arrival_said n core) w.arrived w.no_core w.not_pending w.granted came now
sentence_of n (Frame.Refused why) xs came now = came_said (no_frame n why) w.accepted w.out_of_range w.out_of_range w.granted came now

-- ---- how the code's branches meet these
module _ (n core : ℕ) (came : Came) (s r : Sentence) (e : s ≡ on_core n core) where
  pub speaks_nobody : (why : Status) → came ≡ Told why → r ≡ (s ▹ Column 22) → r ≡ speaker n core came
  speaks_nobody why c h = rw (c, ← e) h

  pub speaks_world : (made : Made) (t u v : Sentence) → came ≡ Called made → t ≡ (s ▹ Column 14) → u ≡ named t World made.caller → v ≡ (u ▹ Word w.colon) → r ≡ (v ▹ Column 22) → r ≡ speaker n core came
  speaks_world made t u v c f g h i = rw (c, ← e, ← f, ← g, ← h) i

module _ (n : ℕ) (f : Frame) (xs : List ℕ) (came : Came) (now : ℕ) (s r : Sentence) where
  pub tells_site : (base pages cores : ℕ) → f ≡ Frame.Site base pages cores → s ≡ site_asked n base pages cores → r ≡ came_said s w.accepted w.out_of_range w.out_of_range w.granted came now → r ≡ sentence_of n f xs came now
  unfolding sentence_of
  tells_site base pages cores e g h = rw (e, ← g) h

  pub tells_entry : (first last kind handler : ℕ) → f ≡ Frame.Entry first last kind handler → s ≡ entry_asked n first last kind handler → r ≡ came_said s w.accepted w.out_of_range w.given_before w.granted came now → r ≡ sentence_of n f xs came now
  unfolding sentence_of
  tells_entry first last kind handler e g h = rw (e, ← g) h

  pub tells_name : (first count owner : ℕ) → f ≡ Frame.Name first count owner → s ≡ name_asked n first count owner → r ≡ came_said s w.accepted w.out_of_range w.named_before w.granted came now → r ≡ sentence_of n f xs came now
  unfolding sentence_of
  tells_name first count owner e g h = rw (e, ← g) h

  pub tells_call : (core k : ℕ) (t : Sentence) (b : Bool) → f ≡ Frame.Call core → t ≡ speaker n core came → b ≡ handed came now → s ≡ asked t b xs → k ≡ done_word xs → r ≡ came_said s w.accepted w.no_core w.not_on k came now → r ≡ sentence_of n f xs came now
  unfolding sentence_of
  tells_call core k t b e i j g d h = rw (e, ← i, ← j, ← g, ← d) h

  pub tells_arrival : (core : ℕ) → f ≡ Frame.Arrival core → s ≡ arrival_said n core → r ≡ came_said s w.arrived w.no_core w.not_pending w.granted came now → r ≡ sentence_of n f xs came now
  unfolding sentence_of
  tells_arrival core e g h = rw (e, ← g) h

  pub tells_refused : (why : Status) → f ≡ Frame.Refused why → s ≡ no_frame n why → r ≡ came_said s w.accepted w.out_of_range w.out_of_range w.granted came now → r ≡ sentence_of n f xs came now
  unfolding sentence_of
  tells_refused why e g h = rw (e, ← g) h

pub ruleset tells = (speaks_nobody, speaks_world, tells_site, tells_entry, tells_name, tells_call, tells_arrival, tells_refused)
