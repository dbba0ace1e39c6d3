-- Places read as a list: the mappings of the held ones, in the order of their places. What a list of mappings says is found at a place,
use Rattle.std.specs.Prelude.{◌≡◌, ℕ, zero, suc, Bool, true, false, List, nat_le, Some}
use Rattle.std.proofs.Math.Path.{refl, sym}
use Rattle.rules.specs.Choice.{pick, pick_yes, pick_no, by, either}
use Rattle.ranges.specs.Mapping.{preferred}
use Rattle.places.specs.Decider.{smallest_from, free_holds}
use Rattle.mapping.specs.Mapping.{holds, lesser, smallest_of}
use Rattle.ranges.specs.Question.{is_free}
use Rattle.ranges.specs.declared.Mapping.{Mapping}
use Rattle.mapping.specs.Places.{entry, entry_free, entry_held, gathered, held_at, here_none, here_some}

module _ (x : ℕ) (m b : Mapping) where
  abbrev smaller : Mapping
  smaller = pick (is_free b) m (pick (nat_le m.size b.size) m b)

  smaller_held : is_free m ≡ false → Some (lesser m (held_at b)) ≡ held_at smaller
  unfolding lesser
  smaller_held h =
      by (λ (f : Bool). is_free b ≡ f → Some (lesser m (held_at b)) ≡ held_at (pick f m (pick (nat_le m.size b.size) m b))) (is_free b)
      (λ _ e. rw (here_none b e, pick_yes true m (pick (nat_le m.size b.size) m b)) (sym (here_some m h)))
      (λ _ e. rw (here_some b e, pick_no false m (pick (nat_le m.size b.size) m b))
      (by (λ (f : Bool). Some (pick f m b) ≡ held_at (pick f m b)) (nat_le m.size b.size)
      (λ _. rw (pick_yes true m b) (sym (here_some m h))) (λ _. rw (pick_no false m b) (sym (here_some b e)))))
      refl

  -- one place more in front
  preferred_entry : (l : List Mapping) → held_at b ≡ smallest_of (holds x) l → held_at (preferred x m b) ≡ smallest_of (holds x) (entry m l)
  unfolding preferred smallest_of
  preferred_entry l e =
      either (is_free m) (λ y. rw (entry_free m l y, pick_no (holds x m) smaller b (free_holds x m y)) e)
      (λ n. rw (entry_held m l n, ← e)
      (by (λ (h : Bool). held_at (pick h smaller b) ≡ pick h (Some (lesser m (held_at b))) (held_at b)) (holds x m)
      (λ _. rw (pick_yes true smaller b, pick_yes true (Some (lesser m (held_at b))) (held_at b)) (sym (smaller_held n)))
      (λ _. rw (pick_no false smaller b, pick_no false (Some (lesser m (held_at b))) (held_at b)))))

pub smallest_gathered : (f : ℕ → Mapping) (x a n : ℕ) → held_at (smallest_from f x a n) ≡ smallest_of (holds x) (gathered f a n)
unfolding smallest_from gathered smallest_of
smallest_gathered f x a zero = here_none _ refl
smallest_gathered f x a (suc n) = preferred_entry x (f a) (smallest_from f x (suc a) n) (gathered f (suc a) n) (smallest_gathered f x (suc a) n)
