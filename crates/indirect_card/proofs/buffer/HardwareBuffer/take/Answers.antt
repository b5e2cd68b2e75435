use Rattle.std.proofs.Common.{◌≡◌, ◌+◌, ◌%◌, ◌≤◌, ◌++◌, length, sym, ap, ◌∙◌, arith, length-append}
use Rattle.pcm_base.specs.CardFacts.{CardFacts}
use Rattle.indirect_card.specs.Hardware.{Hardware}
use Rattle.indirect_card.proofs.Cards.{is_there}
use Rattle.indirect_card.proofs.Rounds.{piece_whole, left_whole, pass_on, take_on, halves}
use Rattle.indirect_card.proofs.buffer.HardwareBuffer.take.Goals as goal

pub take_piece-requires-clause-frames : goal.take_piece-requires-clause-frames
take_piece-requires-clause-frames g c = piece_whole c.loop-rest.self _ _ c.split_at.ensures.front_len c.bytes_before_end-in-loop-rest.ensures

pub take_piece-requires-clause-whole : goal.take_piece-requires-clause-whole
take_piece-requires-clause-whole g c = λ s e.
    let width : c.loop-rest.self.frame_bytes ≡ s.frame_bytes = c.loop-rest.invariant.width ∙ (c.requires.width s (sym c.loop-rest.invariant.set_up ∙ e)).width in
    ap (λ w. length c.split_at.result.0.now % w) (sym width) ∙ piece_whole c.loop-rest.self _ _ c.split_at.ensures.front_len c.bytes_before_end-in-loop-rest.ensures

pub loop-rest-preserved : goal.loop-rest-preserved
loop-rest-preserved g c =
    let kept = c.loop-rest.invariant in
    let pass = c.take_piece.ensures in
    let h = c.loop-rest.self in
    let piece = c.split_at.result.0.now in
    let behind = c.split_at.result.1.now in
    let there = is_there (g.C.Card.facts c.args.inner.now).shape c.requires.set_up in
    let fits = c.requires.width there.0 there.1 in
    let some : 1 ≤ c.loop-rest.self.frame_bytes = omega (arith, fits.some, kept.width) in
    let whole : length c.split_at.result.0.now % c.loop-rest.self.frame_bytes ≡ 0 = piece_whole c.loop-rest.self _ _ c.split_at.ensures.front_len c.bytes_before_end-in-loop-rest.ensures in
    let all : c.split_at.result.0.now ++ c.split_at.result.1.now ≡ c.loop-rest.rest.now =
    halves c.bytes_before_end-in-loop-rest.result c.loop-rest.rest.now piece behind c.split_at.ensures.front c.split_at.ensures.back in
    let sizes : length c.split_at.result.0.now + length c.split_at.result.1.now ≡ length c.loop-rest.rest.now = sym (length-append piece behind) ∙ ap length all in
    record {
      width = ap (λ (x : Hardware). x.frame_bytes) pass.passed ∙ kept.width;
      set_up = ap (λ (f : CardFacts). f.shape) (pass.after there.0 (kept.set_up ∙ there.1)) ∙ kept.set_up;
      whole = left_whole (length piece) (length behind) _ c.args.self.now.frame_bytes sizes (ap (λ w. length c.split_at.result.0.now % w) (sym kept.width) ∙ whole) kept.whole;
      passed = pass_on h c.take_piece.new.self piece behind _ pass.passed all some whole ∙ kept.passed;
      after = λ s e.
          let width : c.loop-rest.self.frame_bytes ≡ s.frame_bytes = kept.width ∙ (c.requires.width s e).width in
          take_on (g.C.Card.facts c.loop-rest.inner) (g.C.Card.facts c.take_piece.new.inner) s piece behind _ (pass.after s (kept.set_up ∙ e)) all (omega (arith, some, width)) (ap (λ w. length c.split_at.result.0.now % w) (sym width) ∙ whole) ∙ kept.after s e;
      room = omega (arith, pass.room, kept.room, sizes);
      kept = pass.kept ∙ kept.kept;
    }
