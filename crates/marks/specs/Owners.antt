-- The mark of each owner, and the owner that a mark stands for.
use Rattle.std.specs.Prelude.{◌≡◌, refl, [], ◌∷◌, ℕ, ◌≤◌, leb, eqb, get_or}
use Rattle.std.proofs.Common.{arith, leb-true, eqb-true}
use Rattle.rules.specs.Sizes.{root, secure, normal, realm, last_world, worlds}
use Rattle.rules.specs.Choice.{pick}
use Rattle.tools.specs.Search.{all, all_at}

-- the mark of the places that are no page of the window
abbrev pub nobodys : ℕ
nobodys = 0

-- Secure 8, Normal 9, Root A, Realm B
unfoldable pub mark_of : ℕ → ℕ
mark_of w = pick (eqb w secure) 8 (pick (eqb w normal) 9 (pick (eqb w root) 10 (pick (eqb w realm) 11 nobodys)))

-- the owner with the mark; a number that is no world's for every other mark
unfoldable pub owner_of : ℕ → ℕ
owner_of m = pick (eqb m 8) secure (pick (eqb m 9) normal (pick (eqb m 10) root (pick (eqb m 11) realm worlds)))

-- ---- each owner has one mark, and no two have the same
pub owner_of_mark : (w : ℕ) → w ≤ last_world → owner_of (mark_of w) ≡ w
unfolding all mark_of owner_of pick
owner_of_mark w h = eqb-true _ _ (all_at (λ (w : ℕ). eqb (owner_of (mark_of w)) w) 0 4 w refl (omega arith) (omega arith))

pub mark_of_owner : (m : ℕ) → 8 ≤ m → m ≤ 11 → mark_of (owner_of m) ≡ m
unfolding all mark_of owner_of pick
mark_of_owner m h l = eqb-true _ _ (all_at (λ (m : ℕ). eqb (mark_of (owner_of m)) m) 8 4 m refl h (omega arith))

-- the marks of owners are those from 8 to B
pub mark_low : (w : ℕ) → w ≤ last_world → 8 ≤ mark_of w
unfolding all mark_of pick
mark_low w h = leb-true _ _ (all_at (λ (w : ℕ). leb 8 (mark_of w)) 0 4 w refl (omega arith) (omega arith))

pub mark_high : (w : ℕ) → w ≤ last_world → mark_of w ≤ 11
unfolding all mark_of pick
mark_high w h = leb-true _ _ (all_at (λ (w : ℕ). leb (mark_of w) 11) 0 4 w refl (omega arith) (omega arith))

pub owner_world : (m : ℕ) → 8 ≤ m → m ≤ 11 → owner_of m ≤ last_world
unfolding all owner_of pick
owner_world m h l = leb-true _ _ (all_at (λ (m : ℕ). leb (owner_of m) last_world) 8 4 m refl h (omega arith))

-- in the order of the owners' numbers
pub marks_listed : (w : ℕ) → w ≤ last_world → mark_of w ≡ get_or (10 ∷ 8 ∷ 9 ∷ 11 ∷ []) w 0
unfolding all mark_of pick
marks_listed w h = eqb-true _ _ (all_at (λ (w : ℕ). eqb (mark_of w) (get_or (10 ∷ 8 ∷ 9 ∷ 11 ∷ []) w 0)) 0 4 w refl (omega arith) (omega arith))
