-- An input in two parts, cut anywhere, is answered as it is whole; and so is one that comes in by any reads.
use Rattle.std.specs.Prelude.{◌≡◌, List, [], ◌∷◌, ◌++◌, ℕ, take}
use Rattle.std.proofs.Common.{sym, ap, ◌∙◌, append-nil, append_assoc, arith}
use Rattle.lines.specs.Lines.{Unbroken}
use Rattle.lines.specs.Meant.{meant_parts, meant_cut}
use Rattle.lines.specs.Input.{reading, readings, reading_blind}
use Rattle.lines.specs.Parts.{complete, unfinished}
use Rattle.frames.specs.Frames.{Machine}
use Rattle.inputs.specs.Cut.{unfinished_so}
use Rattle.inputs.specs.Folds.{in_two}
use Rattle.inputs.specs.Reads.{joined}
use Rattle.inputs.specs.Run.{answers, printed, left_by, left_reached, answers_two, printed_alike}

-- some complete lines before any bytes
pub lines_printed : (m : Machine) (a b : List ℕ) → printed m (complete a ++ b) ≡ printed m (complete a) ++ printed (left_by m (complete a)) b
unfolding printed
lines_printed m a b =
    ap (answers m) (meant_parts reading a b) ∙ answers_two m (readings (complete a)) (readings b)
    ∙ ap (λ (q : Machine). printed m (complete a) ++ printed q b) (sym (left_reached m (complete a)))

-- What is printed for a and then b is what is printed for the complete lines of a, and then, by the machine that these leave,
-- for the unfinished line of a with b behind it.
pub in_parts : (m : Machine) (a b : List ℕ) → printed m (a ++ b) ≡ printed m (complete a) ++ printed (left_by m (complete a)) (unfinished a ++ b)
in_parts m a b = ap (printed m) (in_two a b) ∙ lines_printed m a (unfinished a ++ b)

-- ---- any reads, and then the end of the input
-- What is written after each read are the answers to the complete lines; what is unfinished waits, as much of it as its answer can depend on.
unfoldable pub said : Machine → List ℕ → List (List ℕ) → List ℕ
said m waits [] = printed m waits
said m waits (got ∷ reads) = printed m (complete (waits ++ got)) ++ said (left_by m (complete (waits ++ got))) (take 133 (unfinished (waits ++ got))) reads

said_in : (reads : List (List ℕ)) (m : Machine) (l : List ℕ) → Unbroken l → said m (take 133 l) reads ≡ printed m (l ++ joined reads)
unfolding said joined
said_in [] m l u = ap (printed m) (sym (append-nil (take 133 l))) ∙ printed_alike m _ _ (meant_cut reading reading_blind l [] u)
said_in (got ∷ reads) m l u =
    let s : List ℕ = take 133 l ++ got in
    ap (λ (q : List ℕ). printed m (complete s) ++ q) (said_in reads (left_by m (complete s)) (unfinished s) (unfinished_so s))
    ∙ sym (in_parts m s (joined reads)) ∙ ap (printed m) (append_assoc (take 133 l) got (joined reads))
    ∙ printed_alike m _ _ (meant_cut reading reading_blind l (got ++ joined reads) u)

-- However an input comes in, what is written in all is what is printed for it.
pub all_said : (m : Machine) (reads : List (List ℕ)) → said m [] reads ≡ printed m (joined reads)
all_said m reads = said_in reads m [] (λ k h. absurd (omega arith))
