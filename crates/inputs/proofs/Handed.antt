-- What the promise of `answer_read` comes to, part by part, after a read and at the end of the input.
use Rattle.std.specs.Prelude.{◌≡◌, ℕ, ◌<◌}
use Rattle.std.proofs.Math.Path.{ap}
use Rattle.std.proofs.Common.{◌∙◌, arith}
use mathlib.Core.List.{List}
use Rattle.std.proofs.Math.ListN.{length, take, length-take}
use Rattle.lines.specs.Lines.{Unbroken}
use Rattle.lines.specs.Input.{reading}
use Rattle.lines.specs.Parts.{complete}
use Rattle.frames.specs.Frames.{Machine}
use Rattle.inputs.specs.Run.{printed, left_by, turned, printed_alike}
use Rattle.inputs.specs.Waiting.{ended, heard, front, taken, served}
use Rattle.inputs.specs.Carried.{carried, carried_end, heard_more, ended_complete, ended_meant}
use Rattle.inputs.proofs.Carried.{heard_end}
use Rattle.inputs.specs.Handed.{Handed}

module _ (m m' : Machine) (s : List ℕ) (n : ℕ) (out' : List ℕ) (kept' : ℕ) (buf' : List ℕ) (e : (m', (front n out', front kept' buf')) ≡ served m s) where
  pub handed : Handed m s m' n out' kept' buf'
  unfolding served taken
  handed =
      let a = length-take n out' in
      let k : n ≡ length (printed m (complete s)) = ap (λ (q : Machine × ((ℕ × List ℕ) × (ℕ × List ℕ))). q.1.0.0) e in
      let t : take n out' ≡ printed m (complete s) = ap (λ (q : Machine × ((ℕ × List ℕ) × (ℕ × List ℕ))). q.1.0.1) e in
      record {
        says = t;
        inside = omega (arith, ap length t);
        carries = carried turned reading m s m' kept' buf' (ap (λ (q : Machine × ((ℕ × List ℕ) × (ℕ × List ℕ))). (q.0, q.1.1)) e);
      }

module _ (m m' : Machine) (buf : List ℕ) (kept n : ℕ) (put : ℕ) (out' : List ℕ) (kept' : ℕ) (buf' : List ℕ) (e : (m', (front put out', front kept' buf')) ≡ served m (heard buf kept n)) where
  -- After a read: the first n bytes.
  pub read_handed : (n ≡ kept → ⊥) → Handed m (take n buf) m' put out' kept' buf'
  read_handed d = handed m m' (take n buf) put out' kept' buf' (e ∙ ap (served m) (heard_more buf kept n d))

  -- At the end of the input: what waits, as a line.
  pub record Ended : Type 0 where
    pub says : take put out' ≡ printed m (take kept buf)
    pub machine : m' ≡ left_by m (take kept buf)

  pub end_handed : n ≡ kept → kept < length buf → Unbroken (take kept buf) → Ended
  end_handed z h u =
      let a = handed m m' (ended (take kept buf)) put out' kept' buf' (e ∙ ap (served m) (heard_end buf kept n z h)) in
      record {
        says = a.says ∙ ap (printed m) (ended_complete (take kept buf)) ∙ printed_alike m _ _ (ended_meant reading (take kept buf) u);
        machine = carried_end turned reading m (take kept buf) m' kept' buf' u a.carries;
      }
