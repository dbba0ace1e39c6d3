-- How far one feed goes: line by line, while there is room for the longest answer, up to a line that lacks its newline.
use Rattle.std.specs.Prelude.{◌≡◌, Bool, ltb, None, Option, Some}
use Rattle.std.proofs.Math.Path.{ap}
use mathlib.Core.List.{List, []}
use Prim.Native.Nat.{ℕ, zero, suc, ◌-◌, ◌≤◌}
use Rattle.std.proofs.Math.ListN.{length}
use Rattle.lines.specs.Next.{Line}
use Rattle.lines.specs.declared.Next.{Next}
use Rattle.rules.specs.Choice.{pick}
use Rattle.text.specs.Text.{longest}
use Rattle.lines.specs.Lines.{next_of}
use Rattle.parsing.specs.declared.Frame.{Frame}
use Rattle.frames.specs.Frames.{Machine}
use Rattle.answering.specs.Answer.{answered, put_inside}

-- where a feed stands: the machine, how far it has read, and how much of what it prints to
pub record Stand : Type 0 where
  pub machine : Machine
  pub read : ℕ
  pub done : ℕ
  pub out : List ℕ

abbrev pub stand : Machine → ℕ → ℕ → List ℕ → Stand
stand m at done out = record { machine = m; read = at; done = done; out = out }

-- whether there is no room for the longest answer
abbrev pub full : Stand → Bool
full d = ltb (length d.out - d.done) longest

-- where the next answer is put: behind those before it
abbrev pub place : Stand → ℕ
place d = d.done

-- once a line is answered that ends before `after`
abbrev pub stepped : Stand → Frame → ℕ → List ℕ → Stand
stepped d f after xs = let a = answered d.machine f xs d.out (place d) in stand a.0 after a.1.0 a.1.1

-- a whole line is answered, and then the feed goes on; else it stays
abbrev pub onward : Stand → (Stand → Stand) → Option Next × List ℕ → Stand
onward d go (Some l, xs) = go (stepped d l.frame l.after xs)
onward d go (None, xs) = d

-- at most n lines, each with room for the longest answer
unfoldable pub fed_in : ℕ → List ℕ → Stand → Stand
fed_in zero s d = d
fed_in (suc n) s d = pick (full d) d (onward d (fed_in n s) (next_of s d.read []))

-- a feed from where it stands to where it stops; there are no more lines than bytes
unfoldable pub fed : List ℕ → Stand → Stand
fed s d = fed_in (length s - d.read) s d

-- by what stands next
pub by_next : (s : List ℕ) (P : Stand → Type 0) (d : Stand) (go : Stand → Stand) → ((xs : List ℕ) → next_of s d.read [] ≡ (None, xs) → P d)
    → ((f : Frame) (after : ℕ) (xs : List ℕ) → next_of s d.read [] ≡ (Line f after, xs) → P (go (stepped d f after xs)))
    → (q : Option Next × List ℕ) → next_of s d.read [] ≡ q → P (onward d go q)
by_next s P d go n y (Some l, xs) e = y l.frame l.after xs e
by_next s P d go n y (None, xs) e = n xs e

-- what is printed still ends inside
pub ends_inside : (m m' : Machine) (f : Frame) (xs out out' : List ℕ) (done done' : ℕ) → (m', (done', out')) ≡ answered m f xs out done → done ≤ length out → (done' ≤ length out') × (length out' ≡ length out)
ends_inside m m' f xs out out' done done' e h = put_inside out done _ done' out' (ap (λ (q : Machine × (ℕ × List ℕ)). q.1) e) h
