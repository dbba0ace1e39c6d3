-- The table of set-up: whether a site was accepted, whether a call has ended set-up, and the site. Shut: only the laws below say what stands where.
use Rattle.std.specs.Prelude.{◌≡◌, Bool, true, false, List, [], ◌∷◌, ℕ, eqb, get_or}
use Rattle.std.proofs.Math.Path.{refl}
use Rattle.pages.specs.declared.Window.{Window}

pub ready : List ℕ → Bool
ready s = eqb (get_or s 0 0) 1

pub ended : List ℕ → Bool
ended s = eqb (get_or s 1 0) 1

pub window : List ℕ → Window
window s = record { base = get_or s 2 0; pages = get_or s 3 0 }

pub cores : List ℕ → ℕ
cores s = get_or s 4 0

-- before the first frame
pub unset : List ℕ
unset = 0 ∷ 0 ∷ 0 ∷ 0 ∷ 0 ∷ []

-- with this site
pub fixed : List ℕ → ℕ → ℕ → ℕ → List ℕ
fixed s base pages count = 1 ∷ get_or s 1 0 ∷ base ∷ pages ∷ count ∷ []

-- once a call has ended it
pub over : List ℕ → List ℕ
over s = get_or s 0 0 ∷ 1 ∷ get_or s 2 0 ∷ get_or s 3 0 ∷ get_or s 4 0 ∷ []

-- ---- what this crate's code reads and writes
pub unset_is : 0 ∷ 0 ∷ 0 ∷ 0 ∷ 0 ∷ [] ≡ unset
unfolding unset
unset_is = refl

module _ (s : List ℕ) where
  pub ready_at : eqb (get_or s 0 0) 1 ≡ ready s
  unfolding ready
  ready_at = refl

  pub ended_at : eqb (get_or s 1 0) 1 ≡ ended s
  unfolding ended
  ended_at = refl

  pub window_at : record { base = get_or s 2 0; pages = get_or s 3 0 } ≡ window s
  unfolding window
  window_at = refl

  pub cores_at : get_or s 4 0 ≡ cores s
  unfolding cores
  cores_at = refl

  pub fixed_is : (base pages count : ℕ) → 1 ∷ get_or s 1 0 ∷ base ∷ pages ∷ count ∷ [] ≡ fixed s base pages count
  unfolding fixed
  fixed_is base pages count = refl

  pub over_is : get_or s 0 0 ∷ 1 ∷ get_or s 2 0 ∷ get_or s 3 0 ∷ get_or s 4 0 ∷ [] ≡ over s
  unfolding over
  over_is = refl

pub ruleset places = (unset_is, ready_at, ended_at, window_at, cores_at, fixed_is, over_is)

-- ---- what is so before the first frame
pub unset_ready : ready unset ≡ false
unfolding ready unset
unset_ready = refl

pub unset_ended : ended unset ≡ false
unfolding ended unset
unset_ended = refl

-- ---- what is so with a site, and what stays
module _ (s : List ℕ) (base pages count : ℕ) where
  pub fixed_ready : ready (fixed s base pages count) ≡ true
  unfolding ready fixed
  fixed_ready = refl

  pub fixed_ended : ended (fixed s base pages count) ≡ ended s
  unfolding ended fixed
  fixed_ended = refl

  pub fixed_window : window (fixed s base pages count) ≡ record { base = base; pages = pages }
  unfolding window fixed
  fixed_window = refl

  pub fixed_cores : cores (fixed s base pages count) ≡ count
  unfolding cores fixed
  fixed_cores = refl

-- ---- what is so once set-up has ended, and what stays
module _ (s : List ℕ) where
  pub over_ended : ended (over s) ≡ true
  unfolding ended over
  over_ended = refl

  pub over_ready : ready (over s) ≡ ready s
  unfolding ready over
  over_ready = refl

  pub over_window : window (over s) ≡ window s
  unfolding window over
  over_window = refl

  pub over_cores : cores (over s) ≡ cores s
  unfolding cores over
  over_cores = refl

  -- it ends once
  pub over_again : over (over s) ≡ over s
  unfolding over
  over_again = refl
