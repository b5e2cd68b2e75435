-- What stands in a ring buffer ("Writing an ALSA Driver"): an unbounded list of puts, of which each slot shows the last.
use Rattle.std.specs.Prelude.{ℕ, Bool, nat_eq, List, [], ◌∷◌, ◌++◌, zero, suc, ◌+◌, ◌%◌, if◌then◌else◌}
use Rattle.pcm_base.specs.model.Frame.{Frame}
use Rattle.pcm_base.specs.model.Words.{◌then◌}

-- a frame at a position
pub record Put : Type 0 where
  pub at : ℕ
  pub frame : Frame

-- the positions differ by a multiple of b
abbrev pub same_slot : ℕ → ℕ → ℕ → Bool
same_slot b p q = nat_eq (p % b) (q % b)

-- standing puts b p zero: the frame of the last put at a position that differs from p by a multiple of b, and zero where there is none
abbrev pub standing : List Put → ℕ → ℕ → Frame → Frame
standing [] b p z = z
standing (q ∷ qs) b p z = standing qs b p (if same_slot b q.at p then q.frame else z)

-- the puts, and behind them these frames at p, p + 1 and so on
abbrev pub put_at : ℕ → List Frame → List Put → List Put
put_at p [] qs = qs
put_at p (f ∷ fs) qs = put_at (p + 1) fs (qs ++ record { at = p; frame = f } ∷ [])

-- the n frames that stand at p, p + 1 and so on
abbrev pub standing_at : List Put → ℕ → ℕ → ℕ → Frame → List Frame
standing_at qs b p zero z = []
standing_at qs b p (suc n) z = standing qs b p z ∷ standing_at qs b (p + 1) n z
