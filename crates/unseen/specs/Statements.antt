-- What a Realm program's mapping habits show to others. Two runs from one machine have lines in common, and each may have lines of its own among them: calls that Realm makes on its own mappings.
-- What is asked of such runs, and what is then the same in both.
use Rattle.std.specs.Prelude.{◌≡◌, List, [], ◌∷◌, ◌⊎◌, ℕ, length}
use Rattle.mapping.specs.Lists.{place}
use Rattle.judgements.specs.Asked.{key}
use Rattle.parsing.specs.declared.Frame.TheVariants as Frame
use Rattle.lines.specs.Input.{reading}
use Rattle.frames.specs.Frames.{Machine}
use Rattle.guarantees.specs.Runs.{Event, Events, next, reply, Taken}
use Rattle.guarantees.specs.Statements.{running, number}

-- ---- what is the same: all but Realm's numbers and Realm's mappings
pub record Alike (m n : Machine) : Type 0 where
  -- set-up, which pages were named, and the ledger
  pub setup : m.setup ≡ n.setup
  pub named : m.named ≡ n.named
  pub ledger : m.ledger ≡ n.ledger
  -- the owner of every page
  pub owners : m.owners ≡ n.owners
  -- of every core whether it is OFF, pending or ON, its start address and context, and the world that runs there
  pub powers : m.powers ≡ n.powers
  pub turns : m.turns ≡ n.turns
  -- on every core x0 to x7 and the start address of every world but Realm
  pub numbers : (core world j : ℕ) → (world ≡ 3 → ⊥) → number m core world j ≡ number n core world j
  -- the mappings of every world but Realm, place by place
  pub places : (world i : ℕ) → (world ≡ 3 → ⊥) → place m.lists world i ≡ place n.lists world i

-- ---- what a run may have of its own
-- to map, to unmap, to ask where an address leads
abbrev pub OnItsList : List ℕ → Type 0
OnItsList xs = (key xs ≡ 0xC2000020) ⊎ ((key xs ≡ 0xC2000021) ⊎ (key xs ≡ 0xC2000022))

-- A call of one of these three by Realm, which runs on the core; whatever the ledger says of it, granted or refused.
pub record OwnCall (m : Machine) (e : Event) : Type 0 where
  pub core : ℕ
  pub is_call : e.0 ≡ Frame.Call core
  pub by_realm : running m core ≡ 3
  pub asks : OnItsList e.1

-- ---- what is asked of the common lines
-- pages of the caller's for Normal: one, or several
abbrev pub GivesPages : List ℕ → Type 0
GivesPages xs = (key xs ≡ 0xC40001B1) ⊎ (key xs ≡ 0xC2000011)

-- A transfer by which Realm gives pages back is granted in both or in neither: Realm's x0 on that core is 0 afterwards.
abbrev pub Evenly : Machine → Machine → Event → Type 0
Evenly m n e =
    (core : ℕ) → e.0 ≡ Frame.Call core → Taken (reply m e) → running m core ≡ 3 → GivesPages e.1
    → (number (next m e) core 3 0 ≡ 0 → number (next n e) core 3 0 ≡ 0) × (number (next n e) core 3 0 ≡ 0 → number (next m e) core 3 0 ≡ 0)

-- ---- two runs, told as one list: each line is in both, or in the one alone, or in the other alone
pub data Woven : Type 0 where
  common : Event → Woven
  one : Event → Woven
  other : Event → Woven

unfoldable pub one_run : List Woven → Events
one_run [] = []
one_run (common e ∷ rest) = e ∷ one_run rest
one_run (one e ∷ rest) = e ∷ one_run rest
one_run (other e ∷ rest) = one_run rest

unfoldable pub other_run : List Woven → Events
other_run [] = []
other_run (common e ∷ rest) = e ∷ other_run rest
other_run (one e ∷ rest) = other_run rest
other_run (other e ∷ rest) = e ∷ other_run rest

-- From these two machines on, each line that one run has of its own is such a call by Realm where it stands, and what Realm gives back in a common line is granted evenly.
unfoldable pub Fair : Machine → Machine → List Woven → Type 0
Fair m n [] = Unit {0}
Fair m n (common e ∷ rest) = Evenly m n e × Fair (next m e) (next n e) rest
Fair m n (one e ∷ rest) = OwnCall m e × Fair (next m e) n rest
Fair m n (other e ∷ rest) = OwnCall n e × Fair m (next n e) rest

-- a line that is a call has eight numbers, as every line of bytes is read (`read_small` of guarantees)
abbrev pub Eight : Event → Type 0
Eight e = (core : ℕ) → e.0 ≡ Frame.Call core → length e.1 ≡ 8

-- ---- in the request's own words: lines of bytes, some in both runs, some added in the second
pub data Extended : Type 0 where
  shared : List ℕ → Extended
  added : List ℕ → Extended

-- the lines of the run with nothing added, and of the run with all
unfoldable pub without : List Extended → List (List ℕ)
without [] = []
without (shared line ∷ rest) = line ∷ without rest
without (added line ∷ rest) = without rest

unfoldable pub with_all : List Extended → List (List ℕ)
with_all [] = []
with_all (shared line ∷ rest) = line ∷ with_all rest
with_all (added line ∷ rest) = line ∷ with_all rest

-- every transfer: pages taken from Normal, or given to it
abbrev pub MovesPages : List ℕ → Type 0
MovesPages xs = ((key xs ≡ 0xC40001B0) ⊎ (key xs ≡ 0xC2000010)) ⊎ GivesPages xs

-- a transfer, whoever calls, gets one answer in both
abbrev pub AnsweredAlike : Machine → Machine → Event → Type 0
AnsweredAlike m n e = (core : ℕ) → e.0 ≡ Frame.Call core → MovesPages e.1 → reply m e ≡ reply n e

-- The request's premise: each added line is a call of Realm's to map, to unmap or to ask where an address leads, made while Realm runs, and each common transfer gets the same answer in both runs.
unfoldable pub Premise : Machine → Machine → List Extended → Type 0
Premise m n [] = Unit {0}
Premise m n (shared line ∷ rest) = AnsweredAlike m n (reading line) × Premise (next m (reading line)) (next n (reading line)) rest
Premise m n (added line ∷ rest) = OwnCall n (reading line) × Premise m (next n (reading line)) rest

-- After a line: the same owners and core states, and the same registers of Normal and of Secure on every core.
pub record LeftAlike (m n : Machine) : Type 0 where
  pub owners : m.owners ≡ n.owners
  pub powers : m.powers ≡ n.powers
  pub turns : m.turns ≡ n.turns
  pub normal : (core j : ℕ) → number m core 2 j ≡ number n core 2 j
  pub secure : (core j : ℕ) → number m core 1 j ≡ number n core 1 j
