-- Numbers that have names, and numbers of things.
use Rattle.std.specs.Prelude.{◌≡◌, refl, ℕ, ◌+◌, ◌≤◌, ◌<◌, ltb, eqb}
use Rattle.std.proofs.Common.{lt-ltb, le-ltb, eq-eqb, ne_eqb}
use Rattle.rules.specs.Choice.{pick, picked, passed}
use Rattle.rules.specs.Sizes.{worlds}
use Rattle.words.specs.Words as w
use Rattle.phrases.specs.Sentence.{◌▹◌}
use Rattle.phrases.specs.declared.Piece.TheVariants.{Word, Number}
use Rattle.phrases.specs.declared.Sentence.{Sentence}
use Rattle.asking.specs.declared.Known.{Known}
use Rattle.asking.specs.declared.Known.TheVariants.{World, Handler, Attributes, Kind}

-- the names of the first `count` numbers are words from `first` on; any other number stands behind a word of its own
unfoldable pub named_from : Sentence → ℕ → ℕ → ℕ → ℕ → Sentence
named_from s first count other x = pick (ltb x count) (s ▹ Word (first + x)) (s ▹ Word other ▹ Number x)

abbrev pub named : Sentence → Known → ℕ → Sentence
named s World x = named_from s w.root worlds w.number x
named s Handler x = named_from s w.architecture 4 w.handler x
named s Attributes x = named_from s w.read_only 3 w.attributes x
named s Kind x = named_from s w.yielding 2 w.kind x

-- so many of something
unfoldable pub counted : Sentence → ℕ → ℕ → ℕ → Sentence
counted s x one many = s ▹ Number x ▹ Word (pick (eqb x 1) one many)

-- ---- how the code's branches meet these
module _ (s r : Sentence) (x : ℕ) where
  module _ (first count other : ℕ) where
    pub name_known : x < count → r ≡ (s ▹ Word (first + x)) → r ≡ named_from s first count other x
    unfolding named_from
    name_known h e = picked _ _ _ _ (lt-ltb x count h) e

    pub name_other : (t : Sentence) → count ≤ x → t ≡ (s ▹ Word other) → r ≡ (t ▹ Number x) → r ≡ named_from s first count other x
    unfolding named_from
    name_other t h e f = passed _ _ _ _ (le-ltb x count h) (rw (← e) f)

  pub name_by : (k l : Known) → k ≡ l → r ≡ named s l x → r ≡ named s k x
  name_by k l e h = rw e h

  pub counts : (one many k : ℕ) (t : Sentence) → t ≡ (s ▹ Number x) → k ≡ pick (eqb x 1) one many → r ≡ (t ▹ Word k) → r ≡ counted s x one many
  unfolding counted
  counts one many k t e f h = rw (← e, ← f) h

pub one_thing : (x one many : ℕ) → x ≡ 1 → one ≡ pick (eqb x 1) one many
one_thing x one many h = picked _ _ _ _ (eq-eqb x 1 h) refl

pub many_things : (x one many : ℕ) → (x ≡ 1 → ⊥) → many ≡ pick (eqb x 1) one many
many_things x one many h = passed _ _ _ _ (ne_eqb x 1 h) refl

pub ruleset names = (name_known, name_other, name_by, counts, one_thing, many_things)
