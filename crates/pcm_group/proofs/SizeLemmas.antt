-- The bytes of a call by its frames.
use Rattle.std.proofs.Common.{◌≡◌, ◌⊎◌, inl, inr, ℕ, ◌+◌, ◌*◌, ◌/◌, ◌%◌, ◌≤◌, ◌<◌, Bool, true, false, nat_eq, List, length, Some, refl, sym, ap, ◌∙◌, subst, arith}
use Rattle.std.proofs.Math.Nat.{mul-div_cancel, mul-mod_left}
use Rattle.std.proofs.lemmas.Bool.Decides.{nat_tests}
use Rattle.std.specs.List.{slice_get}
use Rattle.std.specs.Prelude.{IfSome, IsSome}
use Rattle.std.specs.Option.{ForSome}
use Rattle.std.specs.declared.option.Option.{Option}
use Rattle.pcm_base.specs.Shape.{AreFrames, IsSoundShape, count_of}
use Rattle.pcm_base.specs.declared.card.Card.{Ghosts}
use Rattle.pcm_base.specs.declared.config.Shape.{Shape}
use Rattle.pcm_base.specs.declared.sleeper.Xfer.{Xfer}
use Rattle.pcm_stream.specs.declared.members.Member.{Member}
use Rattle.pcm_stream.specs.declared.substream.Substream.{Substream}
use Rattle.pcm_stream.specs.StandsFor.{shape_in}
use Rattle.pcm_stream.proofs.StreamLemmas.{for_some}
use Rattle.pcm_group.specs.Transfers.{AreBytesOf, HasBytes}

-- the bytes of a count of frames
pub counted : (size n frame : ℕ) → 1 ≤ frame → size ≡ n * frame → size / frame ≡ n
counted size n frame le e = ap (λ (k : ℕ). k / frame) e ∙ mul-div_cancel n (omega (arith, le))

pub whole : (size n frame : ℕ) → size ≡ n * frame → size % frame ≡ 0
whole size n frame e = ap (λ (k : ℕ). k % frame) e ∙ mul-mod_left n frame

pub other_length : (size frame moved rest : ℕ) → 1 ≤ frame → ((size % frame ≡ 0 → ⊥) ⊎ ((size % frame ≡ 0) × (size / frame < moved))) → false ≡ nat_eq size ((moved + rest) * frame)
other_length size frame moved rest le h = by (nat_eq size ((moved + rest) * frame)) refl h
  where
    is : nat_eq size ((moved + rest) * frame) ≡ true → size ≡ (moved + rest) * frame
    is e = grind (arith, nat_tests, e)

    by : (b : Bool) → nat_eq size ((moved + rest) * frame) ≡ b → ((size % frame ≡ 0 → ⊥) ⊎ ((size % frame ≡ 0) × (size / frame < moved))) → false ≡ b
    by false e h = refl
    by true e (inl odd) = absurd (odd (whole size (moved + rest) frame (is e)))
    by true e (inr few) = absurd (let no : ⊥ = omega (arith, few.1, counted size (moved + rest) frame le (is e)) in no)

pub has_by : {C : Type 0} {g : Ghosts C} (sub : Substream C g) (shape : Shape) (x : Xfer) (io : List ℕ) → Some shape ≡ shape_in sub → IfSome (shape_in sub) IsSoundShape
    → nat_eq (length io) ((x.moved + x.rest) * shape.frame_bytes) ≡ true → HasBytes sub x io
has_by sub shape x io is sound test =
    let sane : IsSoundShape shape = subst (λ (o : Option Shape). IfSome o IsSoundShape) (sym is) sound in
    let size : length io ≡ (x.moved + x.rest) * shape.frame_bytes = grind (arith, nat_tests, test) in
    record {
      shape = subst (λ (o : Option Shape). IsSome o) is refl;
      whole = subst (λ (o : Option Shape). ForSome o (λ shape. AreFrames shape io)) is (for_some (λ (h : Shape). AreFrames h io) shape (whole (length io) (x.moved + x.rest) shape.frame_bytes size));
      count = subst (λ (o : Option Shape). ForSome o (λ shape. count_of shape io ≡ x.moved + x.rest)) is (for_some (λ (h : Shape). count_of h io ≡ x.moved + x.rest) shape (counted (length io) (x.moved + x.rest) shape.frame_bytes sane.frame size));
    }

-- the bytes of the member at the place
pub AreBytesOf-at : {C : Type 0} {g : Ghosts C} (ms : List (Member C g)) (i : ℕ) (m : Member C g) (x : Xfer) (io : List ℕ) → slice_get ms i ≡ Some m → HasBytes m.stream x io → AreBytesOf ms i x io
AreBytesOf-at {C = C} {g = g} ms i m x io at h = record {
  shape = λ n is. subst (λ (y : Member C g). IsSome (shape_in y.stream)) (one n is) h.shape;
  whole = λ n is. subst (λ (y : Member C g). ForSome (shape_in y.stream) (λ shape. AreFrames shape io)) (one n is) h.whole;
  count = λ n is. subst (λ (y : Member C g). ForSome (shape_in y.stream) (λ shape. count_of shape io ≡ x.moved + x.rest)) (one n is) h.count;
}
  where
    one : (n : Member C g) → slice_get ms i ≡ Some n → m ≡ n
    one n is = let both : Some m ≡ Some n = sym at ∙ is in cc
