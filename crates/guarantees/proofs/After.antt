-- The machine after any run: why each statement about it holds.
use Rattle.std.proofs.Math.Path.{◌≡◌}
use Rattle.std.specs.Prelude.{refl, false, [], ◌∷◌, ℕ, ◌≤◌, ◌<◌, eqb, ltb, get_or, None}
use Rattle.std.proofs.Common.{inl}
use Rattle.std.proofs.Math.Bool.{true}
use native.Mathlib.Omega.{arith}
use borrow.Author.Tests.{eqb-true, eqb-false, ltb-true, ltb-false}
use Rattle.mapping.specs.Leads.{To}
use Rattle.rules.specs.Sizes.{most_cores}
use Rattle.rules.specs.Choice.{either, yes_or_no}
use Rattle.cores.specs.Power.{is_on, is_pending}
use Rattle.cores.specs.Cores.{power, turn, first_powers, first_power_other, first_turn}
use Rattle.pages.specs.Window.{accepted}
use Rattle.pages.specs.Owners.{unowned_owner, unowned_packed, packed_world, packed_inside, packed_past}
use Rattle.mapping.specs.Lists.{held_unmapped}
use Rattle.mapping.specs.Mapping.{smallest_of, deciding, leading, lead_of}
use Rattle.mapping.specs.Entries.{Among}
use Rattle.mapping.specs.Sound.{Sound, sound_none}
use Rattle.mapping.specs.Once.{Reaches, LedBy}
use Rattle.mapping.proofs.Once.{led, leads}
use Rattle.judgements.specs.Grounds.{Calls}
use Rattle.calls.specs.Right.{Right}
use Rattle.setup.specs.Table.{ready, cores}
use Rattle.frames.specs.Frames.{Machine, first, state_of}
use Rattle.guarantees.specs.Fit.{Fit}
use Rattle.guarantees.specs.Statements.{window, owner_in, mark_in, mapped}

-- ---- what a fit machine is, set up or not
module _ (m : Machine) (fit : Fit m) where
  -- what is so of a right state, and of the first machine
  by_time : {P : Type 0} → (ready m.setup ≡ true → Right (state_of m) → P) → (m ≡ first → P) → P
  by_time y n = either (ready m.setup) (λ e. y e (fit.right e)) (λ e. n (fit.idle e))

  pub fit_sound : (world : ℕ) → Sound (window m) m.owners world (mapped m world)
  fit_sound world = by_time (λ e r. r.sound world) (λ e. rw (e, held_unmapped world) (sound_none _ _ world))

  pub fit_world : (page : ℕ) → owner_in m page ≤ 3
  fit_world page = by_time (λ e r. packed_world _ _ r.packed page) (λ e. rw (e, unowned_owner page) (omega arith))

  pub fit_packed : (page : ℕ) → ready m.setup ≡ true → page < (window m).pages → mark_in m page ≡ get_or (0xA ∷ 0x8 ∷ 0x9 ∷ 0xB ∷ []) (owner_in m page) 0
  fit_packed page e l = let r = fit.right e in packed_inside m.owners _ r.packed page (omega (arith, (accepted _ r.window).most)) l

  pub fit_past : (page : ℕ) → page < 4096 → (ready m.setup ≡ true → (window m).pages ≤ page) → mark_in m page ≡ 0
  fit_past page h l =
      by_time (λ e r. packed_past m.owners _ r.packed page h (l e)) (λ e. rw e (packed_past _ 0 unowned_packed page h (omega arith)))

  -- nothing leads anywhere in the first machine
  nowhere : m ≡ first → (world x p a : ℕ) → lead_of (mapped m world) x ≡ To p a → ⊥
  unfolding lead_of leading deciding smallest_of
  nowhere e world x p a d = let z : None ≡ To p a = (rw (e, held_unmapped world) at d) in let y : ◌≡◌ {A = ℕ} 0 1 = cc in omega arith

  pub fit_led : (world x p a : ℕ) → lead_of (mapped m world) x ≡ To p a → LedBy (mapped m world) x p a
  fit_led world x p a d =
      by_time (λ e r. led (window m) r.window m.owners world (mapped m world) (r.sound world) x p a d) (λ e. absurd (nowhere e world x p a d))

  pub fit_leads : (world x p : ℕ) → Reaches (mapped m world) x p → (a : ℕ) × (lead_of (mapped m world) x ≡ To p a)
  unfolding Among
  fit_leads world x p r =
      by_time (λ e g. leads (window m) g.window m.owners world (mapped m world) (g.sound world) x p r)
      (λ e. absurd (rw (e, held_unmapped world) at r.among))

  pub fit_absent : (core : ℕ) → ready m.setup ≡ true → cores m.setup ≤ core → (is_on (power m.powers core) ≡ false) × (is_pending (power m.powers core) ≡ false)
  unfolding is_on is_pending
  fit_absent core e h = let a = (fit.right e).absent core h in (rw a, rw a)

  pub fit_runs : (core : ℕ) → is_on (power m.powers core) ≡ true → Calls (turn m.turns core).world
  unfolding is_on
  fit_runs core o =
      by_time
      (λ e r.
      either (ltb core most_cores) (λ h. (r.running core (ltb-true _ _ h)).world)
      (λ h. absurd (yes_or_no _ o (fit_absent core e (omega (arith, ltb-false core most_cores h, r.few_cores))).0)))
      (λ e.
      either (eqb core 0) (λ z. rw (e, eqb-true core 0 z, first_turn 0 (omega arith)) (inl refl))
      (λ z. let f = first_power_other core (eqb-false core 0 z) in let g : is_on (power first_powers core) ≡ true = (rw e at o) in absurd (yes_or_no _ g (rw f))))
