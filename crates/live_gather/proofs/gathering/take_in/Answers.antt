use Rattle.std.proofs.Common.{◌≡◌, ◌≤◌, ℕ, List, [], ◌∷◌, ◌++◌, length, slice_get, Some, append-nil, append_assoc, length-append, sym, ap, ◌∙◌, subst, arith}
use Rattle.std.proofs.lemmas.Option.{slice_get_within}
use Rattle.pcm_base.specs.declared.ids.SubId.{SubId}
use Rattle.floor_rule.specs.Rule.{Among, Distinct}
use Rattle.floor_rule.specs.Steps.{AllBelow}
use Rattle.floor_rule.specs.declared.rule.Marked.{Marked}
use Rattle.live_gather.specs.Ordered.{HasSub, IsOneOf}
use Rattle.live_gather.specs.Pieces.{numbers_of}
use Rattle.live_gather.specs.Told.{Each}
use Rattle.live_gather.proofs.ListLemmas.{get_last, no_more, of_both, one_before}
use Rattle.live_gather.proofs.OrderLemmas.{count_numbers, with_last}
use Rattle.live_gather.proofs.gathering.take_in.Goals as goal

pub loop-piece-init : goal.loop-piece-init
loop-piece-init g c =
    let none : length c.args.all.now.items ≡ 0 = omega (arith, c.requires.room.0, c.args.all.now.ok.0) in
    record {
      done = [];
      pieces = append-nil c.args.pieces.items;
      table = c.requires.maker.0;
      recs = c.requires.maker.1;
      roll = c.requires.maker.2;
      count = c.requires.room.0;
      room = c.requires.room.1;
      whole = λ j h. absurd h;
      gathered = λ i a at. absurd (omega (arith, none, slice_get_within c.args.all.now.items i a at));
    }

pub push_reserved-requires : goal.push_reserved-requires
push_reserved-requires g c =
    let inv = c.loop-piece.invariant in
    let all = ap length inv.pieces in
    let both = length-append c.loop-piece.pieces.items inv.done in
    let one = ap length c.in-Some.ensures.items in
    let split = length-append c.pop.new.self.items (c.in-Some.piece ∷ []) in
    let count = inv.count in
    let room = inv.room in
    omega (arith, all, both, one, split, count, room, c.requires.count)

pub loop-piece-preserved : goal.loop-piece-preserved
loop-piece-preserved g c =
    let inv = c.loop-piece.invariant in
    let piece = c.in-Some.piece in
    let count = inv.count in
    let gathered = c.into_gathered-gathered.result.0 in
    let did = c.into_gathered-gathered.ensures in
    let rest = c.pop.new.self.items in
    let taken = c.take_rec.ensures in
    let lines : c.push_reserved.new.self.items ≡ c.loop-piece.all.items ++ gathered ∷ [] = c.push_reserved.ensures.items in
    let pieces : rest ++ (piece ∷ inv.done) ≡ c.args.pieces.items =
    sym (append_assoc rest (piece ∷ []) inv.done) ∙ ap (λ (l : List (ℕ × List Marked)). l ++ inv.done) (sym c.in-Some.ensures.items) ∙ inv.pieces in
    let here : slice_get c.args.pieces.items (length rest) ≡ Some piece = ap (λ (l : List (ℕ × List Marked)). slice_get l (length rest)) (sym pieces) ∙ get_last rest piece inv.done in
    let sub : gathered.log.sub.0 ≡ piece.0 = ap (λ (s : SubId). s.0) did.gathered.sub in
    let last = one_before (IsOneOf g.N.FloorName.cards g.N.FloorName.long_max c.args.pieces.items) gathered [] (length rest, piece, here, did.gathered) (λ i a at. absurd (cc)) in
    record {
      done = piece ∷ inv.done;
      pieces = pieces;
      table = ap (λ m. m.table) taken ∙ inv.table;
      recs = ap (λ m. m.knows.recs) taken ∙ inv.recs;
      roll = ap (λ m. m.knows.roll) taken ∙ (λ k. did.seat.1 k ∷ inv.roll k);
      count = omega (arith, c.push_reserved.ensures.len, count);
      room = subst (λ n. length g.N.FloorName.cards ≤ n) (sym c.push_reserved.ensures.capacity) inv.room;
      whole = λ j h. subst (HasSub j) (sym lines) (with_last j piece.0 inv.done c.loop-piece.all.items gathered sub inv.whole h);
      gathered = subst (Each (IsOneOf g.N.FloorName.cards g.N.FloorName.long_max c.args.pieces.items)) (sym lines)
          (of_both (IsOneOf g.N.FloorName.cards g.N.FloorName.long_max c.args.pieces.items) c.loop-piece.all.items (gathered ∷ []) inv.gathered last);
    }

pub returns-clause-apart : goal.returns-clause-apart
returns-clause-apart g c =
    let inv = c.loop-piece.invariant in
    let all = no_more c.loop-piece.pieces.items inv.done c.args.pieces.items (omega (arith, c.loop-piece.pieces.ok.0, c.in_default.ensures.cases)) inv.pieces in
    subst Distinct (inv.roll ∙ ap numbers_of all) c.call_roll.ensures.once

pub returns-clause-below : goal.returns-clause-below
returns-clause-below g c =
    let inv = c.loop-piece.invariant in
    let all = no_more c.loop-piece.pieces.items inv.done c.args.pieces.items (omega (arith, c.loop-piece.pieces.ok.0, c.in_default.ensures.cases)) inv.pieces in
    let numbers = inv.roll ∙ ap numbers_of all in
    subst (λ (z : ℕ × List ℕ). AllBelow z.0 z.1) (λ k. (inv.recs k, numbers k)) c.call_roll.ensures.below

pub returns-clause-every : goal.returns-clause-every
returns-clause-every g c = λ j lt.
    let inv = c.loop-piece.invariant in
    let n = length g.N.FloorName.cards in
    let all = no_more c.loop-piece.pieces.items inv.done c.args.pieces.items (omega (arith, c.loop-piece.pieces.ok.0, c.in_default.ensures.cases)) inv.pieces in
    let numbers = inv.roll ∙ ap numbers_of all in
    let below = subst (λ (z : ℕ × List ℕ). AllBelow z.0 z.1) (λ k. (inv.recs k, numbers k)) c.call_roll.ensures.below in
    c.rolls.ensures n (numbers_of c.args.pieces.items) (subst Distinct numbers c.call_roll.ensures.once) below (count_numbers c.args.pieces.items ∙ c.requires.count) j lt

pub returns-clause-size : goal.returns-clause-size
returns-clause-size g c =
    let inv = c.loop-piece.invariant in
    let all = no_more c.loop-piece.pieces.items inv.done c.args.pieces.items (omega (arith, c.loop-piece.pieces.ok.0, c.in_default.ensures.cases)) inv.pieces in
    sym c.loop-piece.all.ok.0 ∙ inv.count ∙ ap length all ∙ c.requires.count

pub returns-clause-whole : goal.returns-clause-whole
returns-clause-whole g c = λ j lt.
    let inv = c.loop-piece.invariant in
    let n = length g.N.FloorName.cards in
    let all = no_more c.loop-piece.pieces.items inv.done c.args.pieces.items (omega (arith, c.loop-piece.pieces.ok.0, c.in_default.ensures.cases)) inv.pieces in
    let numbers = inv.roll ∙ ap numbers_of all in
    let below = subst (λ (z : ℕ × List ℕ). AllBelow z.0 z.1) (λ k. (inv.recs k, numbers k)) c.call_roll.ensures.below in
    inv.whole j (subst (λ (l : List (ℕ × List Marked)). Among j (numbers_of l)) (sym all)
    (c.rolls.ensures n (numbers_of c.args.pieces.items) (subst Distinct numbers c.call_roll.ensures.once) below (count_numbers c.args.pieces.items ∙ c.requires.count) j lt))
