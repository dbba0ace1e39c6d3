-- The line at a place: its frame, and where the next one starts, or None.
use Rattle.std.specs.Prelude.{◌≡◌, None, Option, Some, ℕ}
use Rattle.std.proofs.Common.{ap}
use Rattle.parsing.specs.declared.Frame.{Frame}
use Rattle.lines.specs.declared.Next.{Next}

abbrev pub Line : Frame → ℕ → Option Next
Line frame after = Some (record { frame = frame; after = after })

-- two that are one have one frame, and one place behind it
abbrev frame_in : Frame → Option Next → Frame
frame_in f (Some l) = l.frame
frame_in f None = f

abbrev after_in : Option Next → ℕ
after_in (Some l) = l.after
after_in None = 0

module _ {f g : Frame} {a b : ℕ} (e : Line f a ≡ Line g b) where
  pub line_frame : f ≡ g
  line_frame = ap (frame_in f) e

  pub line_after : a ≡ b
  line_after = ap after_in e
