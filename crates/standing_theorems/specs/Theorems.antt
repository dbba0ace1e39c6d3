-- After any lines, each core, each page of the window and each mapping is told; and the owner and the line that are told of a page are those of demand 3.
use Rattle.std.specs.Prelude.{◌≡◌, true, ℕ, ◌+◌, ◌≤◌, ◌<◌, ltb, length, Some}
use mathlib.Core.List.{List, [], ◌∷◌, Memᴰ}
use Rattle.std.proofs.Common.{arith, lt-ltb}
use Rattle.rules.specs.Choice.{pick_yes}
use Rattle.rules.specs.Sizes.{worlds, most_mappings, most_pages}
use Rattle.cores.specs.Cores.{power, turn}
use Rattle.pages.specs.Owners.{owner}
use Rattle.pages.specs.Window.{page_of, accepted, InPage, page_at}
use Rattle.lines.specs.Lines.{lines_of}
use Rattle.lines.specs.Input.{reading, readings}
use Rattle.mapping.specs.Lists.{place}
use Rattle.setup.specs.Table.{ready, window, cores}
use Rattle.frames.specs.Frames.{first}
use Rattle.inputs.specs.Folds.{left}
use Rattle.origins.specs.Origins.{origin}
use Rattle.origins.specs.Lines.{most}
use Rattle.tracing.specs.Traced.{Kept, start, after_line}
use Rattle.phrases.specs.Text.{line_text}
use Rattle.phrases.specs.declared.Sentence.{Sentence}
use Rattle.standing.specs.Standing.{core_said, range_said, mapping_said}
use Rattle.accounts.specs.Accounts.{core_told, range_told, page_end, page_told}
use Rattle.views.specs.declared.View.TheVariants.{All, Page}
use Rattle.endings.specs.Ending.{end_lines}
use Rattle.guarantees.specs.Runs.{Events, always}
use Rattle.guarantees.specs.Fit.{Fit, first_fit, fit_next}
use Rattle.origin_theorems.specs.Statements.{NamedAt, OriginsAre}
use Rattle.origin_theorems.specs.Theorems.{any_input}
use Rattle.standing_theorems.specs.Told as Told

-- the lines of the end that tells what is kept, whose text is `end_text`; and one of them is that of a sentence
abbrev pub end_of : Kept → List (List ℕ)
end_of k = end_lines k.1.1 k.0.setup k.0.owners k.1.0 k.0.powers k.0.turns k.0.lists All

-- the same of the page that holds an address
abbrev pub asked_of : Kept → ℕ → List (List ℕ)
asked_of k address = end_lines k.1.1 k.0.setup k.0.owners k.1.0 k.0.powers k.0.turns k.0.lists (Page address)

abbrev pub IsTold : Kept → Sentence → Type 0
IsTold k a = Memᴰ (line_text a) (end_of k)

-- what is told of a page: a range that it lies in, with an owner and a line, and the run names that owner for the page with that line
pub record PageTold (run : Events) (k : Kept) (p : ℕ) : Type 0 where
  pub page : ℕ
  pub end : ℕ
  pub low : page ≤ p
  pub high : p < end
  pub whose : ℕ
  pub line : ℕ
  pub told : IsTold k (range_said (window k.0.setup) page end whose line)
  pub names : NamedAt first run p whose line

-- what the history of a page ends with: one line alone, of that page, with an owner and a line, and the run names that owner for it with that line
pub record AskedTold (run : Events) (k : Kept) (address p : ℕ) : Type 0 where
  pub whose : ℕ
  pub line : ℕ
  pub told : asked_of k address ≡ line_text (range_said (window k.0.setup) p (p + 1) whose line) ∷ []
  pub names : NamedAt first run p whose line

module _ (input : List ℕ) (few : length (lines_of input) ≤ most) where
  abbrev k : Kept
  k = left after_line reading start input

  origins : OriginsAre (readings input) k
  origins = any_input input few

  module _ (set_up : ready k.0.setup ≡ true) where
    -- Each core is told,
    pub any_core : (core : ℕ) → core < cores k.0.setup → IsTold k (core_said core (power k.0.powers core) (turn k.0.turns core).world)
    unfolding core_told
    any_core = Told.core_told_lem k.1.1 k.0.setup k.0.owners k.1.0 k.0.powers k.0.turns k.0.lists set_up

    -- each page, by its owner and the line that named it,
    pub any_page : (p : ℕ) → p < (window k.0.setup).pages → PageTold (readings input) k p
    unfolding range_told
    any_page p h =
        let c = Told.page_covered k.1.1 k.0.setup k.0.owners k.1.0 k.0.powers k.0.turns k.0.lists set_up p h in
        record {
          page = c.page;
          end = c.end;
          low = c.low;
          high = c.high;
          whose = owner k.0.owners c.page;
          line = origin k.1.0 c.page;
          told = c.told;
          names = rw (← c.one.owned p c.low c.high, ← c.one.named p c.low c.high) (origins.named p);
        }

    -- and each mapping of each world.
    pub any_mapping : (world j : ℕ) → world < worlds → j < most_mappings → ((place k.0.lists world j).size ≡ 0 → ⊥) → IsTold k (mapping_said world (place k.0.lists world j))
    any_mapping = Told.mapping_told k.1.1 k.0.setup k.0.owners k.1.0 k.0.powers k.0.turns k.0.lists set_up

    -- Of a page that is asked about by an address in it, that owner and line are told.
    pub any_asked : (address p : ℕ) → InPage (window k.0.setup) address p → AskedTold (readings input) k address p
    unfolding end_lines page_told page_end range_told
    any_asked address p h =
        let w = window k.0.setup in
        let f : Fit k.0 = rw origins.machine (always Fit fit_next first (readings input) first_fit) in
        let a = accepted w (f.right set_up).window in
        let z : page_of w address ≡ Some p = page_at w address p h in
        let few_pages : p < most_pages = omega (arith, a.most, h.inside) in
        record {
          whose = owner k.0.owners p;
          line = origin k.1.0 p;
          told = rw (pick_yes (ready k.0.setup) _ _ set_up, z, pick_yes (ltb p most_pages) (p + 1) p (lt-ltb p most_pages few_pages));
          names = origins.named p;
        }
