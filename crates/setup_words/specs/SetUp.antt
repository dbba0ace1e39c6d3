-- Lines of set-up in words: the number of the line, and what is asked.
use Rattle.std.specs.Prelude.{ℕ}
use Rattle.words.specs.Words as w
use Rattle.phrases.specs.Sentence.{blank, ◌▹◌}
use Rattle.phrases.specs.declared.Piece.TheVariants.{Word, Number, Line, Hex, Column}
use Rattle.phrases.specs.declared.Sentence.{Sentence}
use Rattle.asking.specs.Names.{named, counted}
use Rattle.asking.specs.declared.Known.TheVariants.{World, Handler, Kind}

-- the number of the line
abbrev pub opening : ℕ → Sentence
opening n = blank ▹ Line n ▹ Column 7

-- ---- set-up
abbrev pub setup_line : ℕ → Sentence
setup_line n = opening n ▹ Word w.setup ▹ Column 22

-- the window and the cores
abbrev pub site_asked : ℕ → ℕ → ℕ → ℕ → Sentence
site_asked n base pages cores = counted (counted (setup_line n ▹ Word w.window) pages w.page w.pages ▹ Word w.at ▹ Hex base ▹ Word w.comma) cores w.one_core w.cores

-- who answers which calls
abbrev pub entry_asked : ℕ → ℕ → ℕ → ℕ → ℕ → Sentence
entry_asked n first last kind handler = named (named (setup_line n) Kind kind ▹ Word w.calls ▹ Number first ▹ Word w.up_to ▹ Number last ▹ Word w.go_to) Handler handler

-- whose pages
abbrev pub name_asked : ℕ → ℕ → ℕ → ℕ → Sentence
name_asked n first count owner = named (counted (setup_line n) count w.page w.pages ▹ Word w.from_page ▹ Number first ▹ Word w.owner) World owner
