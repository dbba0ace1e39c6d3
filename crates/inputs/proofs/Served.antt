-- There is room for every answer, so one feed answers all the complete lines: how the code of `answer_read` meets what a read calls for.
use Rattle.std.specs.Prelude.{◌≡◌, refl, List, ℕ, ◌+◌, ◌-◌, ◌≤◌, length, take}
use Rattle.std.proofs.Common.{ap, ◌∙◌, arith, length-take-le}
use Rattle.tools.specs.Laid.{laid, put_take}
use Rattle.lines.specs.Lines.{part}
use Rattle.lines.specs.Parts.{complete, unfinished}
use Rattle.lines.specs.Front.{fronted}
use Rattle.lines.specs.Close.{closing, close_inside}
use Rattle.frames.specs.Frames.{Machine}
use Rattle.inputs.specs.Run.{printed, left_by}
use Rattle.inputs.specs.Fed.{Stand, stand, fed}
use Rattle.inputs.proofs.Whole.{fed_whole, printed_fits}
use Rattle.inputs.specs.Waiting.{heard, front, sized, served}
use Rattle.inputs.specs.Closing.{moved_front}
use Rattle.inputs.proofs.Closing.{closed}

pub serves : (m m' : Machine) (buf : List ℕ) (kept n end : ℕ) (b out out' : List ℕ) (used done kept' : ℕ) (b' : List ℕ)
    → (end, b) ≡ closing buf kept n → length b ≡ 65536 → length out ≡ 327751 → stand m' used done out' ≡ fed (part b 0 end) (stand m 0 0 out) → (kept', b') ≡ fronted b used end
    → (m', (front done out', front kept' b')) ≡ served m (heard buf kept n)
unfolding served
serves m m' buf kept n end b out out' used done kept' b' e size room f k =
    let inside : end ≤ length b = close_inside buf kept n end b e in
    let s : List ℕ = take end b in
    let lines : List ℕ = complete s in
    let z : end - 0 ≡ end = omega arith in
    let l : length s ≡ end = length-take-le end b inside in
    let w : stand m' used done out' ≡ stand (left_by m lines) (length lines) (length (printed m lines)) (laid out 0 (printed m lines)) = (rw z at f) ∙ fed_whole s m out (omega arith) in
    let fits : length (printed m lines) ≤ length out = printed_fits s m out (omega arith) in
    let d : done ≡ length (printed m lines) = ap (λ (q : Stand). q.done) w in
    let d0 : done ≡ 0 + length (printed m lines) = omega arith in
    let t : take done out' ≡ printed m lines = ap (λ (x : ℕ). take x out') d0 ∙ ap (take (0 + length (printed m lines))) (ap (λ (q : Stand). q.out) w) ∙ put_take out 0 (printed m lines) (length (printed m lines)) refl (omega arith) in
    let y : front kept' b' ≡ sized (take 133 (unfinished s)) = moved_front b end inside used kept' b' (ap (λ (q : Stand). q.read) w) k in
    alike (ap (λ (q : Stand). q.machine) w) d t y ∙ ap (λ (q : List ℕ). (left_by m (complete q), (sized (printed m (complete q)), sized (take 133 (unfinished q))))) (closed buf kept n end b e)
  where
    alike : {a a' : Machine} {n n' : ℕ} {l l' : List ℕ} {y y' : ℕ × List ℕ} → a ≡ a' → n ≡ n' → l ≡ l' → y ≡ y'
        → ◌≡◌ {A = Machine × ((ℕ × List ℕ) × (ℕ × List ℕ))} (a, ((n, l), y)) (a', ((n', l'), y'))
    alike p q r t = rw (p, q, r, t)
