use Rattle.std.proofs.Common.{◌≡◌, ◌+◌, ◌-◌, ◌%◌, ◌≤◌, ◌++◌, length, take, drop, refl, sym, ap, ◌∙◌, arith}
use Rattle.pcm_base.specs.CardFacts.{CardFacts, gave, given_bytes}
use Rattle.indirect_card.specs.Hardware.{Hardware, frames_in, after_passing}
use Rattle.indirect_card.proofs.Cards.{is_there}
use Rattle.indirect_card.proofs.Rounds.{piece_whole, left_whole, pass_on, give_on, given_on, given_next, cut_length, length-put}
use Rattle.indirect_card.proofs.buffer.HardwareBuffer.give_into.Goals as goal

pub give_piece-requires-clause-frames : goal.give_piece-requires-clause-frames
give_piece-requires-clause-frames g c =
    let within : c.loop-out.done + c.bytes_before_end-in-loop-out.result ≤ length c.loop-out.out = omega (arith, c.loop-out-test.true, c.bytes_before_end.ensures, c.bytes_before_end-in-loop-out.ensures) in
    piece_whole c.loop-out.self _ _ (cut_length c.loop-out.done c.bytes_before_end-in-loop-out.result c.loop-out.out within) c.bytes_before_end-in-loop-out.ensures

pub give_piece-requires-clause-whole : goal.give_piece-requires-clause-whole
give_piece-requires-clause-whole g c = λ s e.
    let within : c.loop-out.done + c.bytes_before_end-in-loop-out.result ≤ length c.loop-out.out = omega (arith, c.loop-out-test.true, c.bytes_before_end.ensures, c.bytes_before_end-in-loop-out.ensures) in
    let width : c.loop-out.self.frame_bytes ≡ s.frame_bytes = c.loop-out.invariant.width ∙ (c.requires.width s (sym c.loop-out.invariant.set_up ∙ e)).width in
    ap (λ w. length (take (c.loop-out.done + c.bytes_before_end-in-loop-out.result - c.loop-out.done) (drop c.loop-out.done c.loop-out.out)) % w) (sym width)
    ∙ piece_whole c.loop-out.self _ _ (cut_length c.loop-out.done c.bytes_before_end-in-loop-out.result c.loop-out.out within) c.bytes_before_end-in-loop-out.ensures

pub loop-out-preserved : goal.loop-out-preserved
loop-out-preserved g c =
    let kept = c.loop-out.invariant in
    let pass = c.give_piece.ensures in
    let h = c.loop-out.self in
    let out = c.loop-out.out in
    let done = c.loop-out.done in
    let n = c.bytes_before_end-in-loop-out.result in
    let piece = c.give_piece.new.out in
    let old = g.C.Card.facts c.loop-out.inner in
    let new = g.C.Card.facts c.give_piece.new.inner in
    let there = is_there (g.C.Card.facts c.args.inner.now).shape c.requires.set_up in
    let fits = c.requires.width there.0 there.1 in
    let some : 1 ≤ c.loop-out.self.frame_bytes = omega (arith, fits.some, kept.width) in
    let within : c.loop-out.done + c.bytes_before_end-in-loop-out.result ≤ length c.loop-out.out = omega (arith, c.loop-out-test.true, c.bytes_before_end.ensures, c.bytes_before_end-in-loop-out.ensures) in
    let cut : length (take (c.loop-out.done + c.bytes_before_end-in-loop-out.result - c.loop-out.done) (drop c.loop-out.done c.loop-out.out)) ≡ c.bytes_before_end-in-loop-out.result = cut_length done n out within in
    let size : length c.give_piece.new.out ≡ c.bytes_before_end-in-loop-out.result = c.give_piece.auto.out ∙ cut in
    let same = length-put done n out piece within size in
    let less : n + (length c.loop-out.out - (c.loop-out.done + c.bytes_before_end-in-loop-out.result)) ≡ length c.loop-out.out - c.loop-out.done = omega (arith, within) in
    let whole : c.bytes_before_end-in-loop-out.result % c.loop-out.self.frame_bytes ≡ 0 = piece_whole h n n refl c.bytes_before_end-in-loop-out.ensures in
    let bytes : c.give_piece.new.out ≡ given_bytes c.bytes_before_end-in-loop-out.result (g.C.Card.facts c.loop-out.inner).to_give = pass.given ∙ ap (λ k. given_bytes k (g.C.Card.facts c.loop-out.inner).to_give) cut in
    let after = pass.after there.0 (kept.set_up ∙ there.1) in
    let to_give : (g.C.Card.facts c.give_piece.new.inner).to_give ≡ drop c.bytes_before_end-in-loop-out.result (g.C.Card.facts c.loop-out.inner).to_give = ap (λ (f : CardFacts). f.to_give) after ∙ ap (λ k. drop k (g.C.Card.facts c.loop-out.inner).to_give) cut in
    let next : c.give_piece.new.out ++ given_bytes (length c.loop-out.out - (c.loop-out.done + c.bytes_before_end-in-loop-out.result)) (g.C.Card.facts c.give_piece.new.inner).to_give ≡ given_bytes (length c.loop-out.out - c.loop-out.done) (g.C.Card.facts c.loop-out.inner).to_give =
    given_on piece old.to_give new.to_give n _ _ bytes to_give less in
    record {
      within = omega (arith, within, same);
      width = ap (λ (x : Hardware). x.frame_bytes) pass.passed ∙ kept.width;
      set_up = ap (λ (f : CardFacts). f.shape) after ∙ kept.set_up;
      whole = ap (λ k. (k - (c.loop-out.done + c.bytes_before_end-in-loop-out.result)) % c.args.self.now.frame_bytes) same
          ∙ left_whole n _ _ c.args.self.now.frame_bytes less (ap (λ w. c.bytes_before_end-in-loop-out.result % w) (sym kept.width) ∙ whole) kept.whole;
      given = given_next done n out piece old.to_give new.to_give within size next ∙ (kept.given ∙ ap (λ k. given_bytes k (g.C.Card.facts c.args.inner.now).to_give) (sym same));
      passed = ap (λ k. after_passing c.give_piece.new.self (frames_in c.give_piece.new.self (given_bytes (k - (c.loop-out.done + c.bytes_before_end-in-loop-out.result)) (g.C.Card.facts c.give_piece.new.inner).to_give))) same
          ∙ (pass_on h c.give_piece.new.self piece _ _ pass.passed next some (ap (λ k. k % c.loop-out.self.frame_bytes) size ∙ whole)
          ∙ (kept.passed ∙ ap (λ k. after_passing c.args.self.now (frames_in c.args.self.now (given_bytes k (g.C.Card.facts c.args.inner.now).to_give))) (sym same)));
      after = λ s e.
          let width : c.loop-out.self.frame_bytes ≡ s.frame_bytes = kept.width ∙ (c.requires.width s e).width in
          ap (λ k. gave (g.C.Card.facts c.give_piece.new.inner) s (k - (c.loop-out.done + c.bytes_before_end-in-loop-out.result))) same
          ∙ (give_on old new s n _ _ (pass.after s (kept.set_up ∙ e) ∙ ap (gave (g.C.Card.facts c.loop-out.inner) s) cut) less (omega (arith, some, width)) (ap (λ w. c.bytes_before_end-in-loop-out.result % w) (sym width) ∙ whole)
          ∙ (kept.after s e ∙ ap (gave (g.C.Card.facts c.args.inner.now) s) (sym same)));
      kept = pass.kept ∙ kept.kept;
    }
