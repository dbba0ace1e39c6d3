-- How the code between two reads meets the definitions of Waiting, whatever is kept and whatever a line means: where the bytes end that are taken, and what waits then.
use Rattle.std.specs.Prelude.{◌≡◌, refl, drop}
use Rattle.std.proofs.Math.Path.{sym}
use Rattle.std.proofs.Common.{ap, ◌∙◌, arith, length-append, take-add, drop_at}
use mathlib.Core.List.{List, [], ◌∷◌, ◌++◌}
use Prim.Native.Nat.{ℕ, ◌+◌, ◌-◌, ◌≤◌}
use Rattle.std.proofs.Math.ListN.{length, take}
use Rattle.std.proofs.Math.Seq.{length-take-le}
use Rattle.lines.specs.Lines.{part}
use Rattle.lines.specs.Parts.{complete, unfinished, both_parts}
use Rattle.lines.specs.Front.{fronted}
use Rattle.lines.proofs.Front.{front_kept, front_count}
use Rattle.inputs.specs.Waiting.{ended, front, sized}

pub some_ended : (l : List ℕ) → (length l ≡ 0 → ⊥) → l ++ 10 ∷ [] ≡ ended l
unfolding ended
some_ended [] d = absurd (d refl)
some_ended (b ∷ l) d = refl

-- what is behind the complete lines of the first bytes
behind : (b : List ℕ) (end : ℕ) → end ≤ length b → part b (length (complete (take end b))) end ≡ unfinished (take end b)
behind b end h =
    let s : List ℕ = take end b in
    let from : ℕ = length (complete s) in
    let l : length s ≡ end = length-take-le end b h in
    let w = ap length (both_parts s) in
    let a = length-append (complete s) (unfinished s) in
    let e : end ≡ from + (end - from) = omega arith in
    let t : length (take from b) ≡ from = length-take-le from b (omega arith) in
    let d : drop from (take end b) ≡ part b from end = ap (λ (k : ℕ). drop from (take k b)) e ∙ rw (take-add from (end - from) b) (drop_at (take from b) (take (end - from) (drop from b)) from t) in
    sym d ∙ ap (drop from) (sym (both_parts s)) ∙ drop_at (complete s) (unfinished s) from refl

-- moved to the front, once the complete lines are taken
pub moved_front : (b : List ℕ) (end : ℕ) → end ≤ length b → (used kept' : ℕ) (b' : List ℕ) → used ≡ length (complete (take end b)) → (kept', b') ≡ fronted b used end
    → front kept' b' ≡ sized (take 133 (unfinished (take end b)))
moved_front b end h used kept' b' u k =
    let s : List ℕ = take end b in
    let l : length s ≡ end = length-take-le end b h in
    let w = ap length (both_parts s) in
    let a = length-append (complete s) (unfinished s) in
    let g : used ≤ end = omega arith in
    let q : part b used end ≡ unfinished s = rw u (behind b end h) in
    pair (front_count b used end g h b' kept' k ∙ ap (λ (p : List ℕ). length (take 133 p)) q) (front_kept b used end g h b' kept' k ∙ ap (take 133) q)
  where
    pair : {a b : ℕ} {x y : List ℕ} → a ≡ b → x ≡ y → ◌≡◌ {A = ℕ × List ℕ} (a, x) (b, y)
    pair p q = rw (p, q)
