-- And what is asked for is done, or refused: a judgement of such a call by its two outcomes.
use Rattle.std.proofs.Math.Path.{◌≡◌}
use Rattle.std.specs.Prelude.{ℕ, Option, Some}
use Rattle.mapping.specs.Leads.{To}
use Rattle.mapping.specs.declared.Lead.{Lead}
use Rattle.rules.specs.declared.Reason.{Reason}
use Rattle.rules.specs.declared.Reason.TheVariants as Reason
use Rattle.pages.specs.Window.{run_of}
use Rattle.pages.specs.declared.Window.{Window}
use Rattle.judgements.specs.declared.Answer.{Answer}
use Rattle.judgements.specs.declared.Answer.TheVariants as Answer
use Rattle.judgements.specs.declared.Deed.{Deed}
use Rattle.judgements.specs.declared.Deed.TheVariants.{Move}
use Rattle.judgements.specs.declared.Judged.{Judged}
use Rattle.judgements.specs.Asked.{lies}

-- the judgement has this answer, and a deed of which this is so; or it is a refusal
pub data Decided (a : Answer) (P : Deed → Type 0) (j : Judged) : Type 0 where
  done : j.answer ≡ a → P j.deed → Decided a P j
  refused : (r : Reason) → j.answer ≡ Answer.No r → Decided a P j

-- a deed moves the run that lies there
pub record MovesRun (w : Window) (start count to : ℕ) (d : Deed) : Type 0 where
  pub first : ℕ
  pub lies : run_of w start count ≡ Some first
  pub moves : d ≡ Move first count to

-- the judgement tells where an address leads; or it is a refusal
pub data TellsLead (l : Option Lead) (j : Judged) : Type 0 where
  leads : (phys attr : ℕ) → l ≡ To phys attr → j.answer ≡ Answer.Leads phys attr → TellsLead l j
  leads_not : (r : Reason) → j.answer ≡ Answer.No r → TellsLead l j
