-- What holds of the state at every time after set-up, and that every call and every arrival keeps it.
use Rattle.std.specs.Prelude.{◌≡◌, refl, true, false, List, ℕ, ◌≤◌, ◌<◌, eqb, ltb}
use Rattle.std.proofs.Common.{inl, inr, ⊎_elim, arith}
use borrow.Author.Tests.{eqb-true, eqb-false, ltb-true, ltb-false}
use Rattle.rules.specs.Choice.{either, yes_or_no}
use Rattle.registers.specs.Registers.{zeros, zeros_whole}
use Rattle.cores.specs.Power.{turn_of, off, on, is_on}
use Rattle.cores.specs.Cores.{power, turn, first_powers, first_turns, first_powers_whole, first_power_other, first_turns_whole, first_turn}
use Rattle.cores.specs.declared.Power.{Power}
use Rattle.cores.specs.declared.Turn.{Turn}
use Rattle.rules.specs.Sizes.{most_cores}
use Rattle.pages.specs.Window.{acceptable}
use Rattle.pages.specs.Owners.{WholeOwners, Packed}
use Rattle.mapping.specs.Lists.{unmapped, unmapped_whole, held, held_unmapped}
use Rattle.mapping.specs.Sound.{Sound, sound_none}
use Rattle.rules.specs.Sizes.{secure, normal, realm}
use Rattle.judgements.specs.Grounds.{Takes, Calls}
use Rattle.calls.specs.Step.{State, state}
use Rattle.calls.specs.declared.Site.{Site}
use Rattle.calls.specs.Effects.{WholeTables}

-- what a core runs, beside its power: Normal, or Secure or Realm, where the core is ON
pub record Running (t : Turn) (p : Power) : Type 0 where
  pub world : Calls t.world
  pub away : (t.world ≡ normal → ⊥) → is_on p ≡ true

pub record Right (s : State) : Type 0 where
  -- the window and the core count are such as set-up takes
  pub window : acceptable s.site.window ≡ true
  pub some_cores : 0 < s.site.cores
  pub few_cores : s.site.cores ≤ most_cores
  -- every table has all its numbers, and the pages of the window alone have owners' marks
  pub whole : WholeTables s
  pub packed : Packed s.owners s.site.window.pages
  -- each world's mappings are well formed, apart, and of pages that the world owns
  pub sound : (world : ℕ) → Sound s.site.window s.owners world (held s.lists world)
  pub running : (core : ℕ) → core < most_cores → Running (turn s.turns core) (power s.powers core)
  -- there is no core past the count
  pub absent : (core : ℕ) → s.site.cores ≤ core → (power s.powers core).state ≡ off

-- ---- what a core's turn allows its power to become
module _ (t : Turn) (p : Power) (h : Running t p) (q : Power) where
  -- Normal may run at any power
  pub home_running : t.world ≡ normal → Running t q
  home_running e = record { world = h.world; away = λ n. absurd (n e) }

  -- a core that is not ON runs Normal
  pub off_running : is_on p ≡ false → Running t q
  off_running e = record { world = h.world; away = λ n. absurd (yes_or_no _ (h.away n) e) }

pub normal_running : (p : Power) → Running (turn_of normal) p
normal_running p = record { world = inl refl; away = λ n. absurd (n refl) }

pub handed_running : (to : ℕ) (p : Power) → Takes to → is_on p ≡ true → Running (turn_of to) p
handed_running to p t o = record { world = inr t; away = λ n. o }

-- a core is the one, or another
pub same_or_other : {P : Type 0} (c core : ℕ) → (c ≡ core → P) → ((c ≡ core → ⊥) → P) → P
same_or_other c core y n = either (eqb c core) (λ e. y (eqb-true c core e)) (λ e. n (eqb-false c core e))

-- a world that calls is one of the four
pub is_world : (w : ℕ) → Calls w → w < 4
is_world w c = ⊎_elim (λ (e : w ≡ normal). omega arith) (λ (t : Takes w). ⊎_elim (λ (e : w ≡ secure). omega arith) (λ (e : w ≡ realm). omega arith) t) c

-- a core that is ON is one of the board's
pub on_exists : (s : State) → Right s → (core : ℕ) → is_on (power s.powers core) ≡ true → core < s.site.cores
unfolding is_on
on_exists s r core e =
    either (ltb core s.site.cores) (ltb-true _ _)
    (λ n. let a = r.absent core (ltb-false _ _ n) in let b = eqb-true (power s.powers core).state on e in absurd (omega arith))

-- ---- the start
-- The state that set-up leaves is right: no number saved, core 0 ON in Normal, the others OFF, and no mapping.
pub first_right : (w : Site) (l o : List ℕ) → acceptable w.window ≡ true → 0 < w.cores → w.cores ≤ most_cores → WholeOwners o → Packed o w.window.pages
    → Right (state w l o zeros first_powers first_turns unmapped)
first_right w l o ok some most h f =
    record {
      window = ok;
      some_cores = some;
      few_cores = most;
      whole = record {
        owners_whole = h;
        saved_whole = zeros_whole;
        powers_whole = first_powers_whole;
        turns_whole = first_turns_whole;
        lists_whole = unmapped_whole;
      };
      packed = f;
      sound = λ world. rw (held_unmapped world) (sound_none w.window o world);
      running = λ core k. rw (first_turn core k) (normal_running _);
      absent = λ core k. rw (first_power_other core (λ e. omega arith));
    }
