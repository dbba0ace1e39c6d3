-- One line: why it leaves what it leaves.
use Rattle.std.proofs.Math.Path.{◌≡◌, refl}
use Rattle.std.specs.Prelude.{Bool, true, false, ℕ, zero, suc, ◌<◌}
use native.Mathlib.Omega.{arith}
use Rattle.std.proofs.Math.ListN.{get_or}
use Rattle.rules.specs.Choice.{pick}
use Rattle.rules.specs.declared.Reason.{Reason}
use Rattle.rules.specs.declared.Reason.TheVariants as Reason
use Rattle.cores.specs.Power.{power_of, on}
use Rattle.rules.specs.Sizes.{normal}
use Rattle.judgements.specs.Judge.{affirmed}
use Rattle.judgements.specs.Asked.{Finishes, by_secure, by_realm}
use Rattle.judgements.specs.Hint.{Plain}
use Rattle.judgements.specs.declared.Answer.{Answer}
use Rattle.judgements.specs.declared.Answer.TheVariants as Answer
use Rattle.judgements.specs.declared.Answer.TheVariants.{No}
use Rattle.judgements.specs.declared.Deed.{Deed}
use Rattle.judgements.specs.declared.Deed.TheVariants.{Nothing, Move, Map, Unmap, Start, GoOff, HandOver, Finish}
use Rattle.calls.specs.Step.{start_numbers}
use Rattle.calls.specs.Effects as Effects
use Rattle.calls.specs.Effects.{Receives, Carries}
use Rattle.calls.specs.Left as Left
use Rattle.parsing.specs.declared.Frame.TheVariants as Frame
use Rattle.guarantees.specs.Statements.{power_known}

-- only a hand-over to a world, or a finish, writes the world's numbers
pub received : (d : Deed) (u : ℕ) → ((to : ℕ) → d ≡ HandOver to → ⊥) → (d ≡ Finish → ⊥) → Receives d u → ⊥
received Nothing u h f r = r
received (Move start count to) u h f r = r
received (Map m) u h f r = r
received (Unmap virt size) u h f r = r
received (Start c a x) u h f r = r
received GoOff u h f r = r
received (HandOver to) u h f r = h to refl
received Finish u h f r = f refl

-- only a transfer changes owners
pub carries : (d : Deed) → ((first count to : ℕ) → d ≡ Move first count to → ⊥) → Carries d → ⊥
carries Nothing n c = c
carries (Move first count to) n c = n first count to refl
carries (Map m) n c = c
carries (Unmap virt size) n c = c
carries (Start k a x) n c = c
carries GoOff n c = c
carries (HandOver to) n c = c
carries Finish n c = c

-- a finish is none of Normal's
pub finisher : {h k w : ℕ} → Finishes h k w → w ≡ normal → ⊥
finisher by_secure e = omega arith
finisher by_realm e = omega arith

-- a question that is affirmed, and one that is not
pub affirms : (b : Bool) → b ≡ true → (affirmed b).answer ≡ Answer.Done
unfolding affirmed pick
affirms b e = rw e

pub denies : (b : Bool) → b ≡ false → (affirmed b).answer ≡ No Reason.Unserved
unfolding affirmed pick
denies b e = rw e

pub powers_plain : Plain power_known
powers_plain = ((refl, refl), ((refl, refl), ((refl, refl), ((refl, refl), ((refl, refl), ((refl, refl), ((refl, refl), ((refl, refl), tt))))))))

-- ---- an arrival that is accepted
-- behind the context come seven zeros
pub start_zeros : (context start j : ℕ) → 0 < j → j < 8 → get_or (start_numbers (power_of on start context)) j 0 ≡ 0
start_zeros context start zero h l = absurd (omega arith)
start_zeros context start (suc zero) h l = refl
start_zeros context start (suc (suc zero)) h l = refl
start_zeros context start (suc (suc (suc zero))) h l = refl
start_zeros context start (suc (suc (suc (suc zero)))) h l = refl
start_zeros context start (suc (suc (suc (suc (suc zero))))) h l = refl
start_zeros context start (suc (suc (suc (suc (suc (suc zero)))))) h l = refl
start_zeros context start (suc (suc (suc (suc (suc (suc (suc zero))))))) h l = refl
start_zeros context start (suc (suc (suc (suc (suc (suc (suc (suc j)))))))) h l = absurd (omega arith)
