-- What either conversion comes to, by its two tests.
use Rattle.std.specs.Prelude.{◌≡◌, refl, Bool, true, false, List, [], ◌∷◌, ℕ}
use Rattle.std.proofs.Common.{sym, ap, arith}
use Rattle.rules.specs.Choice.{pick}
use Rattle.rules.specs.Tests.{refuses, sieve}
use Rattle.conversions.specs.Conversions.{kept}

-- no room, or something stray; else the space as it is to be
unfoldable pub judged : Bool → Bool → List ℕ → List ℕ → ℕ × List ℕ
judged c s space done = sieve (kept space) (refuses c 0x88 ∷ refuses s 0x89 ∷ []) (0, done)

-- how an answer and a space that keep a promise to be so judged come about
pub record Outcome (c s : Bool) (space done : List ℕ) (answer : ℕ) (space' : List ℕ) : Type 0 where
  pub done_if : c ≡ false → s ≡ false → answer ≡ 0
  pub cramped_if : c ≡ true → answer ≡ 0x88
  pub stray_if : c ≡ false → s ≡ true → answer ≡ 0x89
  pub roomy : answer ≡ 0 → c ≡ false
  pub clean : answer ≡ 0 → s ≡ false
  pub space_is : answer ≡ 0 → space' ≡ done
  pub space_stays : (answer ≡ 0 → ⊥) → space' ≡ space

yes_no : true ≡ false → ⊥
yes_no e = let z : ◌≡◌ {A = ℕ} 0 1 = cc in omega arith

no_yes : false ≡ true → ⊥
no_yes e = yes_no (sym e)

pub outcome : (c s : Bool) (space done : List ℕ) (answer : ℕ) (space' : List ℕ) → (answer, space') ≡ judged c s space done → Outcome c s space done answer space'
unfolding judged sieve kept pick
outcome true s space done answer space' e =
    let a : answer ≡ 0x88 = ap (λ (x : ℕ × List ℕ). x.0) e in
    let l : space' ≡ space = ap (λ (x : ℕ × List ℕ). x.1) e in
    record {
      done_if = λ y z. absurd (yes_no y);
      cramped_if = λ y. a;
      stray_if = λ y z. absurd (yes_no y);
      roomy = λ z. absurd (omega arith);
      clean = λ z. absurd (omega arith);
      space_is = λ z. absurd (omega arith);
      space_stays = λ z. l;
    }
outcome false true space done answer space' e =
    let a : answer ≡ 0x89 = ap (λ (x : ℕ × List ℕ). x.0) e in
    let l : space' ≡ space = ap (λ (x : ℕ × List ℕ). x.1) e in
    record {
      done_if = λ y z. absurd (yes_no z);
      cramped_if = λ y. absurd (no_yes y);
      stray_if = λ y z. a;
      roomy = λ z. absurd (omega arith);
      clean = λ z. absurd (omega arith);
      space_is = λ z. absurd (omega arith);
      space_stays = λ z. l;
    }
outcome false false space done answer space' e =
    let a : answer ≡ 0 = ap (λ (x : ℕ × List ℕ). x.0) e in
    let l : space' ≡ done = ap (λ (x : ℕ × List ℕ). x.1) e in
    record {
      done_if = λ y z. a;
      cramped_if = λ y. absurd (no_yes y);
      stray_if = λ y z. absurd (no_yes z);
      roomy = λ z. refl;
      clean = λ z. refl;
      space_is = λ z. l;
      space_stays = λ z. absurd (z a);
    }
